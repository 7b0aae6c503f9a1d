-- A database alone as a store.
use Rattle.std.specs.Prelude.{◌≡◌, true, None}
use Rattle.sqlite_trees.specs.declared.store.Store as trees
use Rattle.tables.specs.Rows.{Tables}
use Rattle.tables.specs.Shown as database
use Rattle.tables.specs.declared.Store as tables
use Rattle.store.specs.declared.state.State.{Ghosts}
use Rattle.store.specs.Normal.{normal}

module _ {S : Type 0} (g : trees.Ghosts S) where
  -- the next open may find these tables, in whatever order their chunks are
  abbrev pub LeavesNormal : tables.Store S → Tables → Type 0
  LeavesNormal s t = (u : Tables) × database.Leaves g s u × (t ≡ normal u)

  -- what a database alone is to the contracts of its calls
  abbrev pub alone : Ghosts (tables.Store S)
  alone = record {
    is_honest = database.IsHonest g;
    is_open = database.IsOpen g;
    has_tables = database.HasTables g;
    shown = λ s. normal (database.shown g s);
    leaves = LeavesNormal;
    is_safe = database.IsSafe g;
    is_usable = λ _. true;
    has_room = λ _ room. room ≡ None;
  }
