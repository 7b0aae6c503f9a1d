-- The worlds that a stop may leave after steps from the world of a run are worlds of runs.
use Rattle.stops.proofs.Prelude.{◌⊎◌, inl, inr, ℕ, List, [], ◌∷◌, ◌++◌, refl, subst, World, IsWorld, nothing, Event, IsStep, Run, Bound, SameWorld, IsWithin, Ending, changed, unchanged, failed, left_by, ending_of, intended_world, world_by, next_world, bound_after, bound_of_run, all_left, can_make, leaves_one_change, reports_are_true, run_append, IsAmong, Work, takes, keeps, steps_of, bound_of_works}
use Rattle.std.specs.List.{AllByRecursion}
use Rattle.std.proofs.Math.Logic.{∥∥₁_elim}
use Rattle.sqlite_wal.specs.Recovery.{Image}
use Rattle.model.specs.Laws.{IsHalfDone}
use Rattle.tables.specs.Rows.{Tables}
use Rattle.refinement.specs.Representation.{Represents}
use Rattle.refinement.specs.Opening.{HoldsAmong}
use Rattle.reopened.specs.Opening.{HoldAmong}
use Rattle.stops.specs.Reached.{IsReached, HoldReached, HoldsReached}

-- each world of the bound is one of a run
abbrev pub AreReached : Bound → Type 0
AreReached = AllByRecursion IsReached

-- a run, and more steps
pub reached_then : (world kept : World) (events : List Event) → IsReached world → Run world events kept → IsReached kept
reached_then world kept events reached run = (reached.0 ++ events, run_append nothing world kept reached.0 events reached.1 run)

intended_reached : (world mid : World) (event : Event) → IsReached world → IsStep world event mid → IsReached (intended_world world event)
intended_reached world mid event reached step =
    let made = can_make world mid event step in
    reached_then world (intended_world world event) (made.0 ∷ []) reached (intended_world world event, made.1, refl)

-- the steps of calls from the world of a run
pub works_reached : (world kept : World) (works : List Work) (bound : Bound) → IsReached world → AreReached bound → Run world (steps_of works) kept
    → AreReached (bound_of_works world works bound)
works_reached world kept [] bound reached all run = all
works_reached world kept (takes event ∷ works) bound reached all run =
    subst (λ (w : World). AreReached (bound_of_works w works (bound_after world event bound))) (reports_are_true world event run.0 run.1)
    (works_reached run.0 kept works (bound_after world event bound)
    (reached_then world run.0 (event ∷ []) reached (run.0, run.1, refl))
    (all_left IsReached (ending_of world event) world (intended_world world event) bound reached (intended_reached world run.0 event reached run.1) all)
    run.2)
works_reached world kept (keeps ∷ works) bound reached all run = works_reached world kept works (world ∷ bound) reached (reached, all) run

one_of : (t : Tables) (bound : Bound) → AreReached bound → IsAmong t bound → (world : World) × IsReached world × (IsWorld world × Represents t world)
one_of t [] all among = absurd among
one_of t (world ∷ bound) all (inl here) = (world, all.0, here)
one_of t (world ∷ bound) all (inr there) = one_of t bound all.1 there

-- files that hold one of these worlds
pub reached_held : (image : Image) (bound : Bound) → AreReached bound → HoldsAmong image bound → HoldsReached image
reached_held image bound all held =
    ∥∥₁_elim held squash₁ (λ found. let one = one_of _ bound all found.2.3 in
    ∣ (one.0, one.1, ∣ (found.0, found.1, (found.2.0, found.2.1, found.2.2, inl one.2)) ∣₁) ∣₁)

pub reached_beside : (image : Image) (file : List ℕ) (bound : Bound) → AreReached bound → HoldAmong image file bound
    → HoldReached image file
reached_beside image file bound all held =
    ∥∥₁_elim held squash₁ (λ found. let one = one_of _ bound all found.2.3 in
    ∣ (one.0, one.1, ∣ (found.0, found.1, (found.2.0, found.2.1, found.2.2, inl one.2)) ∣₁) ∣₁)

-- ---- the bound of calls, and that of their steps

-- the one bound has no world that does not count as one of the other
abbrev IsSmaller : Bound → Bound → Type 0
IsSmaller one other = (world : World) → IsWithin one world → IsWithin other world

left_smaller : (ending : Ending) (old made : World) (one other : Bound) → IsSmaller one other → IsSmaller (left_by ending old made one) (left_by ending old made other)
left_smaller changed old made one other smaller w within = within
left_smaller unchanged old made one other smaller w (inl same) = inl same
left_smaller unchanged old made one other smaller w (inr within) = inr (smaller w within)
left_smaller failed old made one other smaller w (inl same) = inl same
left_smaller failed old made one other smaller w (inr (inl same)) = inr (inl same)
left_smaller failed old made one other smaller w (inr (inr within)) = inr (inr (smaller w within))

-- the world after a call is in the bound
last_within : (ending : Ending) (old made : World) (bound : Bound) (w : World) → SameWorld (world_by ending old made) w → IsWithin (left_by ending old made bound) w
last_within changed old made bound w same = inl same
last_within unchanged old made bound w same = inl same
last_within failed old made bound w same = inr (inl same)

-- calls that keep the world add no other one
steps_alone : (world : World) (works : List Work) (one other : Bound) → IsSmaller one other → ((w : World) → SameWorld world w → IsWithin other w) → IsSmaller (bound_of_works world works one) (bound_of_run world (steps_of works) other)
steps_alone world [] one other smaller here = smaller
steps_alone world (takes event ∷ works) one other smaller here =
    let ending = ending_of world event in
    let made = intended_world world event in
    steps_alone (next_world world event) works (bound_after world event one) (bound_after world event other) (left_smaller ending world made one other smaller) (last_within ending world made other)
steps_alone world (keeps ∷ works) one other smaller here =
    steps_alone world works (world ∷ one) other (λ w within. elim within [ inl same ↦ here w same | inr rest ↦ smaller w rest ]) here

-- a stop leaves the last world of calls, or that world with one change that the store refused after the last change
pub works_leave_one : (world kept left : World) (works : List Work) → Run world (steps_of works) kept → IsWithin (bound_of_works world works (world ∷ [])) left → SameWorld kept left ⊎ IsHalfDone (steps_of works) kept left
works_leave_one world kept left works run within =
    leaves_one_change world (steps_of works) kept run left (steps_alone world works (world ∷ []) (world ∷ []) (λ w is. is) (λ w same. inl same) left within)
