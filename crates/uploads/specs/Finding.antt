-- The objects that are found.
use Rattle.std.specs.Prelude.{◌≡◌, ℕ, List, length, Option, Some, None}
use Rattle.store.specs.declared.state.State.{Ghosts}
use Rattle.model.specs.World.{World, Object, object_named}
use Rattle.tables.specs.Staging.{upload_number}
use Rattle.tables.specs.declared.rows.ObjectRow.{ObjectRow}
use Rattle.refinement.specs.Staging.{Stores}

module _ {S : Type 0} (g : Ghosts S) where
  -- the result is the repository's object of the name, whose bytes are those of the upload, or there is none
  abbrev pub Finds : World → S → List ℕ → List ℕ → Option ObjectRow → Type 0
  Finds world s repo name None = object_named repo name world ≡ None
  Finds world s repo name (Some row) =
      (o : Object) × (object_named repo name world ≡ Some o) × (row.size ≡ length o.bytes)
      × Stores g s (upload_number row.id) o.bytes
