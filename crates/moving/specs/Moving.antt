-- The contracts of copies.
use Rattle.std.specs.Prelude.{◌≡◌, ℕ, List, length, filter, take}
use Rattle.tables.specs.Rows.{Upload, Tables}
use Rattle.tables.specs.Statements.{is_complete}
use Rattle.store.specs.declared.state.State.{Ghosts}
use Rattle.store.specs.Shown.{IsHonest, IsOpen, HasTables, Moves, AddsNothing, shown}

-- the objects of the tables: the complete uploads
abbrev pub objects_in : Tables → List Upload
objects_in t = filter is_complete t.uploads

-- the uploads of the new tables are the first objects of the old ones
abbrev pub Continues : Tables → Tables → Type 0
Continues old new = new.uploads ≡ take (length new.uploads) (objects_in old)

module _ {S : Type 0} (g : Ghosts S) where
  -- the store was only read: it shows what it showed, and a stop leaves no more than before
  pub record IsOnlyRead (old new : S) : Type 0 where
    pub same : Moves g (λ t. t) old new
    pub adds : AddsNothing g old new

  -- the store was open, and the number is that of the objects that it showed
  abbrev pub CountsObjects : S → S → ℕ → Type 0
  CountsObjects old new n = IsHonest g new → HasTables g old → IsOpen g old × (n ≡ length (objects_in (shown g old)))
