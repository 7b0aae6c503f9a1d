-- Whose locks are on a page.
use Rattle.std.specs.Prelude.{ℕ, Bool, not, List, bytes_eq}
use Rattle.names.specs.Names.{user_text}
use Rattle.tables.specs.declared.rows.LockRow.{LockRow}

-- the lock is the user's
abbrev pub is_owned : List ℕ → LockRow → Bool
is_owned user row = bytes_eq (user_text row.owner) user

-- the lock is another user's
abbrev pub is_other : List ℕ → LockRow → Bool
is_other user row = not (is_owned user row)
