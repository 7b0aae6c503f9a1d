-- Objects that are removed for good.
use Rattle.std.specs.Prelude.{◌≡◌, ℕ, List, Option, Some, None, Result, Ok, Err}
use Rattle.store.specs.declared.state.State.{Ghosts}
use Rattle.model.specs.World.{World}
use Rattle.model.specs.Operator.{Removal, removed_now, removed_before, no_object, removal_of, after_removal}
use Rattle.model.specs.Steps.{retires}
use Rattle.tables.specs.declared.fault.StoreFault.{StoreFault}
use Rattle.refinement.specs.Left.{Takes, KeepsTables}
use Rattle.refinement.specs.Staging.{StagesNoneIn}
use Rattle.uploads.specs.declared.retiring.Retired.{Retired}
use Rattle.uploads.specs.declared.retiring.Retired.TheVariants.{Now, Already, Unknown}

-- what became of the object, as the definitions say it
abbrev pub removal_seen : Retired → Removal
removal_seen Now = removed_now
removal_seen Already = removed_before
removal_seen Unknown = no_object

-- what becomes of an object, from whether its name is retired and whether it is there: it is to be removed, or not
abbrev pub IsSeen : World → (repo name : List ℕ) → Option Retired → Type 0
IsSeen world repo name None = removal_of world repo name ≡ removed_now
IsSeen world repo name (Some Now) = ⊥
IsSeen world repo name (Some Already) = removal_of world repo name ≡ removed_before
IsSeen world repo name (Some Unknown) = removal_of world repo name ≡ no_object

module _ {S : Type 0} (g : Ghosts S) where
  -- of a repository whose object was removed now, nothing is staged; else the tables are as before
  abbrev pub LeavesStaged : (repo : List ℕ) → S → S → Retired → Type 0
  LeavesStaged repo old new Now = StagesNoneIn g new repo
  LeavesStaged repo old new Already = KeepsTables g old new
  LeavesStaged repo old new Unknown = KeepsTables g old new

  -- the result is what became of the object, in a step to the world after it; or the store refused, and the world is kept
  abbrev pub Retires : World → (repo name : List ℕ) → S → S → Result Retired StoreFault → Type 0
  Retires world repo name old new (Ok given) =
      Takes g old new world (retires repo name (Some (removal_seen given))) (after_removal world repo name (removal_seen given))
      × LeavesStaged repo old new given
  Retires world repo name old new (Err fault) = Takes g old new world (retires repo name None) world
