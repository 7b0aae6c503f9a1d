-- Which locks a list shows.
use Rattle.std.specs.Prelude.{◌≡◌, ℕ, Bool, true, List, Option, Some, None}
use Rattle.std.specs.Borrow.{Bor}
use Rattle.policy.specs.Values.{policy_view, question_view}
use Rattle.policy.specs.declared.applicable.ApplicableRows.{ApplicableRows}
use Rattle.tables.specs.declared.rows.LockRow.{LockRow}
use Rattle.locks.specs.Finding.{lock_seen}
use Rattle.cursor.specs.Wanted.{Test}
use Rattle.desk.specs.Rights.{allow_on}

-- the rows allow the lock, or none are given
abbrev pub is_visible : Option (Bor ApplicableRows) → LockRow → Bool
is_visible None row = true
is_visible (Some rows) row = allow_on (policy_view rows.now.policy.now) (question_view rows.now.question) row

-- the test is whether the rows allow a lock of the repository
abbrev pub TestsBy : Option (Bor ApplicableRows) → List ℕ → Test → Type 0
TestsBy visible repo sees = (row : LockRow) → is_visible visible row ≡ sees (lock_seen repo row)
