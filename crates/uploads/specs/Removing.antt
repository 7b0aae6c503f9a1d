-- Staged uploads that are removed.
use Rattle.std.specs.Prelude.{◌≡◌, ℕ, filter, length, Result, Ok, Err}
use Rattle.store.specs.declared.state.State.{Ghosts}
use Rattle.model.specs.World.{World}
use Rattle.store.specs.Shown.{IsHonest, IsOpen, shown}
use Rattle.tables.specs.Statements.{is_staged}
use Rattle.tables.specs.declared.fault.StoreFault.{StoreFault}
use Rattle.refinement.specs.Left.{Keeps}

module _ {S : Type 0} (g : Ghosts S) where
  -- while the disk is honest and the store open, it shows this number of staged uploads
  abbrev pub HasStaged : S → ℕ → Type 0
  HasStaged s n = IsHonest g s → IsOpen g s → length (filter is_staged (shown g s).uploads) ≡ n

  -- while the disk is honest and the store open, it shows the same uploads
  abbrev pub ShowsSame : S → S → Type 0
  ShowsSame old new = IsHonest g new → IsOpen g new → IsOpen g old × ((shown g new).uploads ≡ (shown g old).uploads)

  -- the world is kept, and the uploads are the same, whatever chunks they have left
  abbrev pub Shortens : S → S → World → Type 0
  Shortens old new world = Keeps g old new world × ShowsSame old new

  -- each staged upload is removed, and their number is returned, or the store refused; the world is kept
  abbrev pub Sweeps : World → S → S → Result ℕ StoreFault → Type 0
  Sweeps world old new (Ok n) = Keeps g old new world × HasStaged old n × HasStaged new 0
  Sweeps world old new (Err fault) = Keeps g old new world
