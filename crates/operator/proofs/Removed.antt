-- An object that a command removes for good, and what the command reports of it.
use Rattle.operator.proofs.Prelude.{⊤, ◌≡◌, List, Some, Result, Ok, Err, IfErr, MatchResult, refl, sym, subst, ℕ, World, IsStep, From, Takes, from_weaker, OnOk, Ghosts, TaskFault}
use Rattle.std.proofs.lemmas.Option.{none-some, same_Some}
use Rattle.model.specs.Operator.{Removal, removed_now, removed_before, no_object, removal_of, after_removal, retire_outcome, Reports, by_success, by_fault}
use Rattle.model.specs.Steps.{retires}
use Rattle.tables.specs.declared.fault.StoreFault.{StoreFault}
use Rattle.tables.specs.declared.fault.StoreFault.TheVariants as tables
use Rattle.operator.specs.Failing.{Fails, IsOutput}
use Rattle.operator.specs.Faults.{of_store}
use Rattle.operator.specs.Removals.{IsGone, IsRemovalFault, IsRemovalOf, IsRemoved, IsReportFault}
use Rattle.operator.proofs.Failing.{fails_after, fails_before, output_follows}

-- what a removal reports is what became of the object
pub reported : (old new : World) (repo name : List ℕ) (given : Removal) → IsStep old (retires repo name (Some given)) new → removal_of old repo name ≡ given
reported old new repo name given step = at step.2
  where
    at : Reports (Some given) (retire_outcome old repo name) old new → removal_of old repo name ≡ given
    at (by_success told is) = sym (same_Some given (removal_of old repo name) told)
    at (by_fault told is) = absurd (none-some given (sym told))

-- a plain fault, whatever becomes of the object
pub plain_removal : (given : Removal) (e : TaskFault) (f : StoreFault) → e ≡ of_store f → IsRemovalFault given e
plain_removal given e f is = subst (IsRemovalFault given) (sym is) (at f)
  where
    at : (f : StoreFault) → IsRemovalFault given (of_store f)
    at tables.Refused = tt
    at tables.Memory = tt

-- why it is not reported is why it fails
cause : (given : Removal) (e : TaskFault) → IsReportFault given e → IsRemovalFault given e
cause removed_now e why = subst (IsRemovalFault removed_now) (sym why) tt
cause removed_before e why = subst (IsRemovalFault removed_before) (sym why) tt
cause no_object e why = subst (IsRemovalFault no_object) (sym why) refl

module _ {S : Type 0} (g : Ghosts S) where
  -- what is left of a removal that was not reported
  unreported : (a b : S) (world : World) (repo name : List ℕ) (given : Removal) (e : TaskFault) → IsReportFault given e
      → Takes g a b world (retires repo name (Some given)) (after_removal world repo name given) → Fails g (IsRemovalOf repo name) (IsOutput e) a b world
  unreported a b world repo name removed_now e why t = fails_after g _ _ a b world _ _ (_, refl) t (output_follows e why)
  unreported a b world repo name removed_before e why t = fails_before g _ _ a b world _ (_, refl) t
  unreported a b world repo name no_object e why t = fails_before g _ _ a b world _ (_, refl) t

  -- the removal, and what the command then reports of it
  pub from_removal : (a b : S) (repo name : List ℕ) (given : Removal) (r : Result ⊤ TaskFault) → OnOk r (IsGone given) → IfErr r (IsReportFault given)
      → From g a b (λ world. Takes g a b world (retires repo name (Some given)) (after_removal world repo name given))
      → From g a b (λ world. MatchResult r (λ _. IsRemoved g a b world repo name) (λ e. Fails g (IsRemovalOf repo name) (IsOutput e) a b world × IsRemovalFault (removal_of world repo name) e))
  from_removal a b repo name given (Ok u) gone why p = from_weaker g a b _ _ (λ world t. (given, gone, t)) p
  from_removal a b repo name given (Err e) gone why p =
      from_weaker g a b _ _
      (λ world t. (
        unreported a b world repo name given e why t,
        subst (λ (x : Removal). IsRemovalFault x e) (sym (reported world _ repo name given t.step)) (cause given e why),
      ))
      p
