-- What a step adds to the objects of a world, and takes from them.
use Rattle.std.proofs.Common.{arith, ◌≡◌, ℕ, ◌+◌, Bool, true, false, not, ◌&&◌, List, ◌∷◌, length, refl, ap, sym, ◌∙◌, add-zero, add_comm, Ok, Err, Option, Some, None, bytes_eq, cond, is_some}
use Rattle.model.specs.World.{World, Object, IsWorld, object_named, total, with_object, without_object}
use Rattle.model.specs.Answers.{stores, makes_lock, offers, serves, confirms, lists, splits, releases, Answer}
use Rattle.model.specs.Operator.{token_verdict, Outcome, issue_outcome, prune_outcome, Removal, removed_now, removed_before, no_object, removal_of, after_removal, retire_outcome, Reports, by_success, by_fault}
use Rattle.model.specs.Steps.{after, Event, IsStep, Exchange, Carries, by_verdict, by_refusal, exchanged, issues, prunes, retires}
use Rattle.model.specs.Laws.{stored_by, object_stored, objects_with, objects_after, size_added, size_removed, Removes, OnlyTheseChangeObjects, TotalsFollowObjects, TotalsGrowByUploads}
use Rattle.model.proofs.Quota.{total_with}
use Rattle.model.proofs.Serving.{token_same}
use Rattle.model.proofs.Totals.{total_without}
use Rattle.std.proofs.lemmas.Option.{none-some, same_Some}

after_adds : (old : World) (given : Option Answer) → (after old given).objects ≡ objects_with (stored_by given) old
after_adds old (Some (Ok (stores o))) = refl
after_adds old (Some (Ok (makes_lock l))) = refl
after_adds old (Some (Ok (releases l))) = refl
after_adds old (Some (Ok (serves o))) = refl
after_adds old (Some (Ok (offers some))) = refl
after_adds old (Some (Ok confirms)) = refl
after_adds old (Some (Ok (lists page))) = refl
after_adds old (Some (Ok (splits user page))) = refl
after_adds old (Some (Err d)) = refl
after_adds old None = refl

exchange_adds : (old : World) (e : Exchange) (new : World) → Carries old e new → new.objects ≡ objects_with (stored_by e.given) old
exchange_adds old e new (by_verdict given is) =
    ap (λ (w : World). w.objects) is ∙ ap (λ (g : Option Answer). (after old g).objects) (sym given) ∙ after_adds old e.given
exchange_adds old e new (by_refusal given sure is) =
    ap (λ (w : World). w.objects) is ∙ ap (λ (g : Option Answer). objects_with (stored_by g) old) (sym given)

report_adds : {A : Type 0} (given : Option A) (outcome : Outcome A) (old new : World) → Reports given outcome old new → outcome.world.objects ≡ old.objects → new.objects ≡ old.objects
report_adds given outcome old new (by_success t is) same = ap (λ (w : World). w.objects) is ∙ same
report_adds given outcome old new (by_fault t is) same = ap (λ (w : World). w.objects) is

-- a removal that is reported as none left the objects
removal_leaves : (old : World) (r n : List ℕ) (given : Option Removal) (new : World) → Reports given (retire_outcome old r n) old new → new.objects ≡ objects_after old (retires r n given)
removal_leaves old r n None new (by_fault none is) = ap (λ (w : World). w.objects) is
removal_leaves old r n (Some x) new (by_fault none is) = absurd (none-some x (sym none))
removal_leaves old r n None new (by_success e is) = absurd (none-some (removal_of old r n) e)
removal_leaves old r n (Some removed_now) new (by_success e is) = ap (λ (w : World). w.objects) (is ∙ ap (after_removal old r n) (sym (same_Some removed_now (removal_of old r n) e)))
removal_leaves old r n (Some removed_before) new (by_success e is) = ap (λ (w : World). w.objects) (is ∙ ap (after_removal old r n) (sym (same_Some removed_before (removal_of old r n) e)))
removal_leaves old r n (Some no_object) new (by_success e is) = ap (λ (w : World). w.objects) (is ∙ ap (after_removal old r n) (sym (same_Some no_object (removal_of old r n) e)))

pub only_these_change_objects : OnlyTheseChangeObjects
only_these_change_objects old (exchanged e) new step = exchange_adds old e new step.carries
only_these_change_objects old (issues asked given) new step = report_adds given (issue_outcome old asked) old new step.1 (token_same old (token_verdict old asked))
only_these_change_objects old (prunes now given) new step = report_adds given (prune_outcome old now) old new step.1 refl
only_these_change_objects old (retires r n given) new step = removal_leaves old r n given new step.2

-- the total of the objects, of which it is a function
total_of : (repo : List ℕ) (a b : World) → a.objects ≡ b.objects → total repo a ≡ total repo b
total_of repo a b same = ap (λ (os : List Object). total repo (record a { objects = os })) same

object_grows : (old : World) (o : Object) (repo : List ℕ) → total repo (with_object o old) ≡ total repo old + size_added repo old (Some o)
object_grows old o repo = at (object_named o.repo o.name old) (bytes_eq o.repo repo) refl
  where
    at : (there : Option Object) (own : Bool) → bytes_eq o.repo repo ≡ own
        → total repo (cond (is_some there) old (record old { objects = o ∷ old.objects })) ≡ total repo old + cond (own && not (is_some there)) (length o.bytes) 0
    at (Some p) true e = sym (add-zero (total repo old))
    at (Some p) false e = sym (add-zero (total repo old))
    at None true e = total_with old o repo true e ∙ add_comm (length o.bytes) (total repo old)
    at None false e = total_with old o repo false e ∙ sym (add-zero (total repo old))

stored_grows : (old new : World) (stored : Option Object) (repo : List ℕ) → new.objects ≡ objects_with stored old → total repo new ≡ total repo old + size_added repo old stored
stored_grows old new (Some o) repo is = total_of repo new (with_object o old) is ∙ object_grows old o repo
stored_grows old new None repo is = total_of repo new old is ∙ sym (add-zero (total repo old))

-- a step that removes nothing adds what it stored, and no more
stays_but_stored : (old : World) (event : Event) → ((r name : List ℕ) → Removes r name event → ⊥) → objects_after old event ≡ objects_with (object_stored event) old
stays_but_stored old (exchanged e) none = refl
stays_but_stored old (issues asked given) none = refl
stays_but_stored old (prunes now given) none = refl
stays_but_stored old (retires r n (Some removed_now)) none = absurd (none r n (refl, refl))
stays_but_stored old (retires r n (Some removed_before)) none = refl
stays_but_stored old (retires r n (Some no_object)) none = refl
stays_but_stored old (retires r n None) none = refl

pub totals_grow_by_uploads : TotalsGrowByUploads
totals_grow_by_uploads old event new repo step none =
    stored_grows old new (object_stored event) repo (only_these_change_objects old event new step ∙ stays_but_stored old event none)

-- a step that removes nothing
grows : (old : World) (event : Event) (new : World) (repo : List ℕ) → new.objects ≡ objects_with (object_stored event) old → size_removed repo old event ≡ 0
    → total repo new + size_removed repo old event ≡ total repo old + size_added repo old (object_stored event)
grows old event new repo is none = omega (arith, none, stored_grows old new (object_stored event) repo is)

pub totals_follow_objects : TotalsFollowObjects
totals_follow_objects old (exchanged e) new repo w step = grows old (exchanged e) new repo (only_these_change_objects old (exchanged e) new step) refl
totals_follow_objects old (issues asked given) new repo w step = grows old (issues asked given) new repo (only_these_change_objects old (issues asked given) new step) refl
totals_follow_objects old (prunes now given) new repo w step = grows old (prunes now given) new repo (only_these_change_objects old (prunes now given) new step) refl
totals_follow_objects old (retires r n (Some removed_now)) new repo w step =
    ap (λ (t : ℕ). t + size_removed repo old (retires r n (Some removed_now))) (total_of repo new (without_object r n old) (only_these_change_objects old (retires r n (Some removed_now)) new step))
    ∙ total_without old r n repo w (bytes_eq r repo) refl ∙ sym (add-zero (total repo old))
totals_follow_objects old (retires r n (Some removed_before)) new repo w step = grows old (retires r n (Some removed_before)) new repo (only_these_change_objects old (retires r n (Some removed_before)) new step) refl
totals_follow_objects old (retires r n (Some no_object)) new repo w step = grows old (retires r n (Some no_object)) new repo (only_these_change_objects old (retires r n (Some no_object)) new step) refl
totals_follow_objects old (retires r n None) new repo w step = grows old (retires r n None) new repo (only_these_change_objects old (retires r n None) new step) refl
