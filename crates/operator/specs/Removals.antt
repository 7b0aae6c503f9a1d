-- An object that a task removes for good.
use Rattle.std.specs.Prelude.{◌≡◌, ℕ, List, Option, Some, ⊤}
use Rattle.store.specs.declared.state.State.{Ghosts}
use Rattle.model.specs.World.{World}
use Rattle.model.specs.Operator.{Removal, removed_now, removed_before, no_object, after_removal}
use Rattle.model.specs.Steps.{Event, retires}
use Rattle.refinement.specs.Left.{Takes}
use Rattle.operator.specs.Failing.{IsPlain}
use Rattle.operator.specs.declared.faults.TaskFault.{TaskFault}
use Rattle.operator.specs.declared.faults.TaskFault.TheVariants.{NoObject, Output}

-- the object was removed, now or before
abbrev pub IsGone : Removal → Type 0
IsGone removed_now = ⊤
IsGone removed_before = ⊤
IsGone no_object = ⊥

-- the removal of this object, whatever came of it
abbrev pub IsRemovalOf : (repo name : List ℕ) → Event → Type 0
IsRemovalOf repo name event = (given : Option Removal) × (event ≡ retires repo name given)

-- the object is not reported as removed: there is none, or for a plain reason
abbrev pub IsRemovalFault : Removal → TaskFault → Type 0
IsRemovalFault given NoObject = given ≡ no_object
IsRemovalFault given fault = IsPlain fault

-- what became of the object is not reported: there is none, or the line could not be written
abbrev pub IsReportFault : Removal → TaskFault → Type 0
IsReportFault no_object fault = fault ≡ NoObject
IsReportFault _ fault = fault ≡ Output

module _ {S : Type 0} (g : Ghosts S) where
  -- the repository's object of this name is removed in a step of the definitions, or was removed before
  abbrev pub IsRemoved : S → S → World → List ℕ → List ℕ → Type 0
  IsRemoved old new world repo name =
      (given : Removal) × IsGone given
      × Takes g old new world (retires repo name (Some given)) (after_removal world repo name given)
