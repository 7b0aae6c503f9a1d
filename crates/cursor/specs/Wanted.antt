-- Which locks of a repository are wanted.
use Rattle.std.specs.Prelude.{◌≡◌, ℕ, Bool, ◌&&◌, List, None, filter, option_map}
use Rattle.std.specs.Fn.{Shared, FnReturnsAt}
use denote.Ref.{Bor}
use Rattle.names.specs.Names.{path_text, ref_text}
use Rattle.model.specs.World.{World, Lock}
use Rattle.model.specs.RepoState.{locks_of}
use Rattle.model.specs.Forms.{ListForm}
use Rattle.model.specs.Locks.{meets}
use Rattle.tables.specs.declared.rows.LockRow.{LockRow}
use Rattle.locks.specs.Finding.{lock_seen}
use Rattle.cursor.specs.declared.filters.Filter.{Filter}

-- the request for a list with these filters; where the list begins and ends has no part in `meets`
abbrev pub form_of_filter : Filter → ListForm
form_of_filter wanted = record {
  path = option_map (λ path. path_text path.now) wanted.path;
  id = wanted.id;
  ref = option_map (λ name. ref_text name.now) wanted.ref_name;
  cursor = None;
  limit = None;
}

-- a test of locks
abbrev pub Test : Type 0
Test = Lock → Bool

-- each call of the closure on a row returns what the test says of the lock of that row
abbrev pub Sees : {V : Type 0} → Shared V (Bor LockRow × Unit {0}) Bool → V → List ℕ → Test → Type 0
Sees g visible repo sees =
    (row : LockRow) (answer : Bool) → FnReturnsAt g visible row answer
    → answer ≡ sees (lock_seen repo row)

-- the lock meets the filters, and passes the test
abbrev pub is_wanted : Filter → Test → Test
is_wanted wanted sees l = meets (form_of_filter wanted) l && sees l

-- the repository's locks that meet the filters and pass the test, in rising ids
abbrev pub wanted_locks : List ℕ → World → Filter → Test → List Lock
wanted_locks repo world wanted sees = filter (is_wanted wanted sees) (locks_of repo world)
