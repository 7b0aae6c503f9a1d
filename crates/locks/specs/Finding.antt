-- The locks that are found.
use Rattle.std.specs.Prelude.{ℕ, List}
use Rattle.names.specs.Names.{ref_text, path_text, user_text}
use Rattle.model.specs.World.{Lock}
use Rattle.tables.specs.declared.rows.LockRow.{LockRow}
-- the lock on a path of a ref, and the lock with an id
pub use Rattle.refinement.specs.Lookup.{lock_on, lock_with}

-- the row as a lock of the repository
abbrev pub lock_seen : List ℕ → LockRow → Lock
lock_seen repo row = record {
  repo = repo;
  id = row.id;
  ref = ref_text row.ref_name;
  path = path_text row.path;
  owner = user_text row.owner;
  at = row.moment;
}
