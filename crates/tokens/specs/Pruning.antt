-- Removing tokens.
use Rattle.std.specs.Prelude.{ℕ, Some, None, Result, Ok, Err}
use Rattle.store.specs.declared.state.State.{Ghosts}
use Rattle.model.specs.World.{World, without_expired}
use Rattle.model.specs.Steps.{prunes}
use Rattle.tables.specs.declared.fault.StoreFault.{StoreFault}
use Rattle.refinement.specs.Left.{Takes, KeepsTables}

-- n tokens were removed, in a step to the world without them; or the store refused, and the tables are as before
abbrev pub Prunes : {S : Type 0} (g : Ghosts S) → World → ℕ → S → S → Result ℕ StoreFault → Type 0
Prunes g world now old new (Ok n) = Takes g old new world (prunes now (Some n)) (without_expired now world)
Prunes g world now old new (Err fault) = Takes g old new world (prunes now None) world × KeepsTables g old new
