-- The effect of a call on a store that held a world, and what a stop leaves of it.
use Rattle.std.specs.Prelude.{◌⊎◌, [], ◌∷◌, Some, ⊤}
use Rattle.store.specs.declared.state.State.{Ghosts}
use Rattle.model.specs.World.{World, IsWorld}
use Rattle.model.specs.Answers.{Answer}
use Rattle.model.specs.Steps.{Event, IsStep, after}
use Rattle.model.specs.Bounds.{Bound, Ending, changed, unchanged, failed, left_by, answer_ending, bound_after}
use Rattle.tables.specs.Rows.{Tables}
use Rattle.store.specs.Shown.{IsHonest, IsSafe, Leaves, Moves, AddsNothing}
use Rattle.refinement.specs.Representation.{Represents, Holds}

-- the tables represent one of these worlds
abbrev pub IsAmong : Tables → Bound → Type 0
IsAmong t [] = ⊥
IsAmong t (world ∷ bound) = (IsWorld world × Represents t world) ⊎ IsAmong t bound

module _ {S : Type 0} (g : Ghosts S) where
  -- a stop now may leave tables that represent this world
  abbrev pub IsLeft : S → World → Type 0
  IsLeft s world = (t : Tables) × Leaves g s t × IsWorld world × Represents t world

  -- whatever a stop now leaves is our tables, and they represent one of these worlds
  pub record IsBoundedBy (s : S) (bound : Bound) : Type 0 where
    pub safe : IsHonest g s → IsSafe g s
    pub among : IsHonest g s → (t : Tables) → Leaves g s t → IsAmong t bound

  -- a call led the store to this world, and extended any bound of what a stop leaves to the next bound
  pub record Leads (old new : S) (kept : World) (next : Bound → Bound) : Type 0 where
    pub holds : Holds g new kept
    pub left : (bound : Bound) → IsBoundedBy old bound → IsBoundedBy new (next bound)

  -- a call kept the world: a stop now leaves it, or what an earlier stop would have left
  abbrev pub Keeps : S → S → World → Type 0
  Keeps old new world = Leads old new world (λ bound. world ∷ bound)

  -- a call to change `world` to another world ended this way, and the store holds the resulting world
  abbrev pub Ends : S → S → Ending → World → World → World → Type 0
  Ends old new ending world made kept = Leads old new kept (left_by ending world made)

  -- the tables are as before: while the store is open, it shows what it showed
  abbrev pub KeepsTables : S → S → Type 0
  KeepsTables = Moves g (λ t. t)

  -- unless the call made a change, the tables are as before
  abbrev pub LeavesTables : Ending → S → S → Type 0
  LeavesTables changed old new = ⊤
  LeavesTables unchanged old new = KeepsTables old new
  LeavesTables failed old new = KeepsTables old new

  -- a request with this verdict was given this answer, and the answer was carried out
  abbrev pub Gives : S → S → World → Answer → Answer → Type 0
  Gives old new world verdict given =
      Ends old new (answer_ending world (Some given)) world (after world (Some verdict)) (after world (Some given))

  -- a call took the step of the event, which leads to the resulting world
  pub record Takes (old new : S) (world : World) (event : Event) (kept : World) : Type 0 where
    pub step : IsStep world event kept
    pub leads : Leads old new kept (bound_after world event)

  -- this holds for each world that the store held before a call, if the disk was honest up to the end of the call
  pub record From (old new : S) (P : World → Type 0) : Type 0 where
    pub honest : IsHonest g new → IsHonest g old
    pub each : IsHonest g new → (world : World) → Holds g old world → P world

  -- a call that only reads: the tables are unchanged, a stop leaves no more than before, and this holds
  pub record Reads (old new : S) (P : World → Type 0) : Type 0 where
    pub same : Moves g (λ t. t) old new
    pub adds : AddsNothing g old new
    pub each : IsHonest g new → (world : World) → Holds g old world → P world
