-- Locks that are removed.
use Rattle.std.specs.Prelude.{◌≡◌, ℕ, true, false, List, is_some, Bool, Result, Ok, Err}
use Rattle.store.specs.declared.state.State.{Ghosts}
use Rattle.model.specs.World.{World}
use Rattle.model.specs.Bounds.{changed, unchanged, failed}
use Rattle.tables.specs.declared.fault.StoreFault.{StoreFault}
use Rattle.refinement.specs.Left.{Ends, KeepsTables}
use Rattle.refinement.specs.Removal.{without_found}
use Rattle.locks.specs.Finding.{lock_with}

module _ {S : Type 0} (g : Ghosts S) where
  -- the result is whether there was a lock, which was removed; or the store refused. If none was removed, the tables are
  -- as before
  abbrev pub Removes : World → List ℕ → ℕ → S → S → Result Bool StoreFault → Type 0
  Removes world repo id old new (Ok true) =
      (is_some (lock_with repo id world) ≡ true)
      × Ends g old new changed world (without_found (lock_with repo id world) world) (without_found (lock_with repo id world) world)
  Removes world repo id old new (Ok false) =
      (is_some (lock_with repo id world) ≡ false) × Ends g old new unchanged world world world × KeepsTables g old new
  Removes world repo id old new (Err fault) =
      Ends g old new failed world (without_found (lock_with repo id world) world) world × KeepsTables g old new
