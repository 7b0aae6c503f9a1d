-- The world of a database with a file of contents, and what is left of both if they are not opened.
use Rattle.std.specs.Prelude.{◌≡◌, ◌⊎◌, ℕ, List, [], ◌∷◌}
use Rattle.sqlite_trees.specs.declared.store.Store as trees
use Rattle.sqlite_trees.specs.Tree.{Trees}
use Rattle.sqlite_catalog.specs.Listing.{IsSound}
use Rattle.sqlite_disk.specs.declared.Disk as disk
use Rattle.sqlite_wal.specs.Recovery.{Image}
use Rattle.sqlite.specs.Files.{HoldsDatabase}
use Rattle.sqlite.specs.Schema.{Schema}
use Rattle.model.specs.Bounds.{Bound}
use Rattle.tables.specs.Layout.{version_three}
use Rattle.tables.specs.Schemas.{HasAll}
use Rattle.tables.specs.Rows.{Tables, tables_under}
use Rattle.tables.specs.Runs.{meta_of}
use Rattle.tables.specs.Shown.{IsHonest, IsOpen, IsSafe, AddsFresh, HasNoTable, HasOurs, HasTables, IsForeign, Leaves, Rests, fresh_on, shown}
use Rattle.tables.specs.declared.Store as tables
use Rattle.tables.specs.declared.fault.OpenFault.{OpenFault}
use Rattle.tables.specs.declared.fault.OpenFault.TheVariants.{UnknownSchema}
use Rattle.store.specs.Database.{alone}
use Rattle.store.specs.Normal.{normal, settled}
use Rattle.store.specs.Shown as store
use Rattle.placed.specs.Placed.{beside}
use Rattle.placed.specs.View.{view}
use Rattle.placed.specs.Opening.{HasClosed, IsOfPlaces, RefusesPlaces, cleared}
use Rattle.placed.specs.declared.placed.Placed.{Placed}
use Rattle.placed.specs.declared.fault.PlaceFault.{PlaceFault}
use Rattle.refinement.specs.Left.{IsAmong}
use Rattle.reopened.specs.declared.fault.BesideFault.{BesideFault}
use Rattle.reopened.specs.declared.fault.BesideFault.TheVariants.{Database, Contents}

-- ---- the world

-- the trees list a schema that has our tables, of a database whose contents are in a file; with this file, and without the
-- chunks of staged uploads, they represent one of these worlds
abbrev pub AreAmongWith : Trees → List ℕ → Bound → Type 0
AreAmongWith db file bound =
    (schema : Schema) × HasAll version_three schema × IsSound schema db
    × IsAmong (settled (view file [] (normal (tables_under schema db)))) bound

-- the same for the database that the files hold, with a third file
abbrev pub HoldAmong : Image → List ℕ → Bound → Type 0
HoldAmong image file bound = ∥ ((db : Trees) × HoldsDatabase image db × AreAmongWith db file bound) ∥₁

-- ---- which databases are opened, and what is left of others

module _ {S : Type 0} (g : trees.Ghosts S) where
  -- a database was accepted: it has the tables of a database whose contents are in a file, with their number, new ones if it
  -- had none of ours, and else those that it had; a stop leaves only these
  pub record AcceptsPlaces (old new : tables.Store S) : Type 0 where
    pub ready : HasTables g new
    pub version : IsHonest g new → IsOpen g new → (shown g new).meta ≡ meta_of version_three ∷ []
    pub ok : IsHonest g new → (HasNoTable g old × (shown g new ≡ fresh_on g version_three old)) ⊎ Rests g old new
    pub safe : IsHonest g new → IsSafe g new
    pub only : IsHonest g new → (t : Tables) → Leaves g new t
        → (HasNoTable g old × (t ≡ fresh_on g version_three old)) ⊎ (HasOurs g version_three old × (t ≡ shown g old))

  -- the database was refused and is unchanged; if it had none of our tables, a stop may still leave those of a new server
  pub record IsNotAccepted (rows : tables.Store S) (fault : OpenFault) : Type 0 where
    pub ended : tables.Store S
    pub rests : IsHonest g ended → Rests g rows ended
    pub adds : AddsFresh g version_three rows ended
    pub unknown : IsHonest g ended → fault ≡ UnknownSchema → IsForeign g version_three rows

module _ {S D : Type 0} (g : trees.Ghosts S) (d : disk.Ghosts D) where
  -- the database was accepted, and the store shows what that has, with this file and without the staged uploads whose chunks
  -- are in rows; a stop leaves only this
  pub record IsServedBy (rows : tables.Store S) (file : D) (s : Placed (tables.Store S) D) : Type 0 where
    pub accepted : tables.Store S
    pub accepts : AcceptsPlaces g rows accepted
    pub was_open : store.IsHonest (beside (alone g) d) s → IsOpen g accepted
    pub shows : store.IsHonest (beside (alone g) d) s → store.IsOpen (beside (alone g) d) s
        → store.shown (beside (alone g) d) s ≡ view (d.seen file) [] (cleared (normal (shown g accepted)))
    pub only : store.IsHonest (beside (alone g) d) s → (t : Tables) → store.Leaves (beside (alone g) d) s t
        → t ≡ view (d.seen file) [] (cleared (normal (shown g accepted)))

  -- the database was accepted, and is not served with this file
  pub record IsNotServed (rows : tables.Store S) (file : D) (fault : PlaceFault) : Type 0 where
    pub accepted : tables.Store S
    pub accepts : AcceptsPlaces g rows accepted
    pub adds : AddsFresh g version_three rows accepted
    pub closed : HasClosed (alone g) d accepted file
    pub faults : IsOfPlaces fault → RefusesPlaces (alone g) d accepted file

  -- why the database and the file were not opened, and what is left of them
  abbrev pub Fails : tables.Store S → D → BesideFault → Type 0
  Fails rows file (Database fault) = IsNotAccepted g rows fault
  Fails rows file (Contents fault) = IsNotServed rows file fault
