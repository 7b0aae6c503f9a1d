-- What an operator's command does to the world, and what a stop leaves after it.
use Rattle.std.specs.Prelude.{List, [], ◌∷◌}
use Rattle.store.specs.declared.state.State.{Ghosts}
use Rattle.model.specs.World.{World}
use Rattle.model.specs.Steps.{Event, Run}
use Rattle.model.specs.Bounds.{Bound, next_world, bound_after}
use Rattle.refinement.specs.Left.{Leads}

-- a call takes a step of the definitions, or it keeps the world
pub data Work : Type 0 where
  takes : Event → Work
  keeps : Work

-- the steps of the calls
abbrev pub steps_of : List Work → List Event
steps_of [] = []
steps_of (takes event ∷ works) = event ∷ steps_of works
steps_of (keeps ∷ works) = steps_of works

-- what a stop leaves after the calls: after one that keeps the world, that world or what an earlier stop would have left
abbrev pub bound_of_works : World → List Work → Bound → Bound
bound_of_works world [] bound = bound
bound_of_works world (takes event ∷ works) bound = bound_of_works (next_world world event) works (bound_after world event bound)
bound_of_works world (keeps ∷ works) bound = bound_of_works world works (world ∷ bound)

-- calls led the store from this world to another, by the steps of a run of the definitions
pub record Works {S : Type 0} (g : Ghosts S) (old new : S) (world : World) : Type 0 where
  pub works : List Work
  pub kept : World
  pub run : Run world (steps_of works) kept
  pub leads : Leads g old new kept (bound_of_works world works)
