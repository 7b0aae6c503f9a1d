-- The world of a database when it is opened.
use Rattle.std.specs.Prelude.{◌≡◌, ◌⊎◌, [], ◌∷◌}
use Rattle.sqlite_trees.specs.declared.store.Store as trees
use Rattle.sqlite_trees.specs.Tree.{Trees}
use Rattle.sqlite_catalog.specs.Listing.{IsSound}
use Rattle.sqlite_wal.specs.Recovery.{Image}
use Rattle.sqlite.specs.Files.{HoldsDatabase}
use Rattle.model.specs.World.{World}
use Rattle.model.specs.Bounds.{Bound}
use Rattle.sqlite.specs.Schema.{Schema}
use Rattle.tables.specs.Layout.{current}
use Rattle.tables.specs.Schemas.{HasAll}
use Rattle.tables.specs.Rows.{Tables, tables_under}
use Rattle.tables.specs.Runs.{current_meta}
use Rattle.tables.specs.Shown.{IsHonest, IsOpen, IsSafe, IsMigrated, HasNoTable, HasOurs, HasTables, Leaves, MigratesTo, Rests, fresh_on, shown}
use Rattle.tables.specs.declared.Store as tables
use Rattle.tables.specs.declared.rows.Migrated.{Migrated}
use Rattle.store.specs.declared.state.State.{Ghosts}
use Rattle.refinement.specs.Representation.{Holds}
use Rattle.refinement.specs.Left.{IsAmong, IsBoundedBy}

-- the trees list a schema that has our tables, which represent one of these worlds
abbrev pub AreAmong : Trees → Bound → Type 0
AreAmong db bound = (schema : Schema) × HasAll current schema × IsSound schema db × IsAmong (tables_under schema db) bound

-- the same for the database that the files hold
abbrev pub HoldsAmong : Image → Bound → Type 0
HoldsAmong image bound = ∥ ((db : Trees) × HoldsDatabase image db × AreAmong db bound) ∥₁

module _ {S : Type 0} (g : trees.Ghosts S) where
  -- a database was accepted: it has the tables of the current version with their number, new ones if it had none of ours,
  -- and else those that it had; a stop leaves only these
  pub record Accepts (old new : tables.Store S) : Type 0 where
    pub ready : HasTables g new
    pub version : IsHonest g new → IsOpen g new → (shown g new).meta ≡ current_meta ∷ []
    pub ok : IsHonest g new → (HasNoTable g old × (shown g new ≡ fresh_on g current old)) ⊎ Rests g old new
    pub safe : IsHonest g new → IsSafe g new
    pub only : IsHonest g new → (t : Tables) → Leaves g new t
        → (HasNoTable g old × (t ≡ fresh_on g current old)) ⊎ (HasOurs g current old × (t ≡ shown g old))

  -- the same of a migration with this result: if it migrated, the database was of version 1
  pub record MigratesBy (old new : tables.Store S) (m : Migrated) : Type 0 where
    pub ready : HasTables g new
    pub version : IsHonest g new → IsOpen g new → (shown g new).meta ≡ current_meta ∷ []
    pub ok : IsHonest g new → MigratesTo g old new m
    pub safe : IsHonest g new → IsSafe g new
    pub only : IsHonest g new → (t : Tables) → Leaves g new t → IsMigrated g old m t

module _ {S : Type 0} (g : Ghosts S) where
  -- the store holds the world, and a stop now leaves only that world
  pub record IsAt (s : S) (world : World) : Type 0 where
    pub holds : Holds g s world
    pub left : IsBoundedBy g s (world ∷ [])

  -- the same for one of these worlds
  abbrev pub IsAtOne : S → Bound → Type 0
  IsAtOne s [] = ⊥
  IsAtOne s (world ∷ bound) = IsAt s world ⊎ IsAtOne s bound
