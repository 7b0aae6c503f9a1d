-- The worlds that a stop may leave.
use Rattle.std.proofs.Common.{◌≡◌, ℕ, inl, inr, ◌⊎◌, Bool, true, false, not, nat_lt, List, [], ◌∷◌, ◌++◌, length, filter, refl, sym, ap, subst, ◌∙◌, arith, Result, Ok, Err, Option, Some, None, cond, is_some, is_none, append_assoc, append-nil}
use Rattle.std.specs.List.{AllByRecursion}
use Rattle.std.proofs.lemmas.Bool.{true≢false, ltb-false}
use Rattle.std.proofs.lemmas.Option.{none-some, same_Some}
use Rattle.std.proofs.lemmas.List.Elements.{All-from_recursion, recursion_from_All}
use Rattle.model.specs.World.{World, Object, Token, object_named, with_object, without_expired, expired_count}
use Rattle.model.specs.Answers.{stores, makes_lock, offers, serves, confirms, lists, splits, releases, Answer, Grant, is_store_refusal}
use Rattle.model.specs.Operator.{TokenRequest, TokenDenial, token_verdict, after_token, issue_outcome, prune_outcome, Removal, removed_now, removed_before, no_object, removal_of, after_removal, retire_outcome, Reports, by_success, by_fault}
use Rattle.model.specs.Steps.{Exchange, judgement, Carries, by_verdict, by_refusal, after, after_grant, Event, exchanged, issues, prunes, retires, IsStep, Run}
use Rattle.model.specs.Bounds.{SameWorld, Bound, IsWithin, Ending, changed, unchanged, failed, is_changed, left_by, is_change, answer_ending, ending_of, intended_world, world_by, next_world, bound_after, bound_of_run}
use Rattle.model.specs.Laws.{ReportsAreTrue, OnlyReportedChanges, IsHalfDone, LeavesOneChange}

-- ---- each step leads to the world that its report says

same_object : (o : Object) (world : World) → is_none (object_named o.repo o.name world) ≡ false → with_object o world ≡ world
same_object o world e = at (object_named o.repo o.name world) e
  where
    at : (there : Option Object) → is_none there ≡ false → cond (is_some there) world (record world { objects = o ∷ world.objects }) ≡ world
    at (Some p) h = refl
    at None h = absurd (true≢false h)

-- a grant that is not a change leaves the world unchanged
same_grant : (world : World) (g : Grant) → is_change world g ≡ false → after_grant world g ≡ world
same_grant world (stores o) e = same_object o world e
same_grant world (makes_lock l) e = absurd (true≢false e)
same_grant world (releases l) e = absurd (true≢false e)
same_grant world (serves o) e = refl
same_grant world (offers some) e = refl
same_grant world confirms e = refl
same_grant world (lists page) e = refl
same_grant world (splits user page) e = refl

-- the world after a verdict is the one that its ending gives
after_is : (world : World) (given : Option Answer) → after world given ≡ world_by (answer_ending world given) world (after world given)
after_is world (Some (Ok g)) = at (is_change world g) refl
  where
    at : (v : Bool) → is_change world g ≡ v → after_grant world g ≡ world_by (cond v changed unchanged) world (after_grant world g)
    at true e = refl
    at false e = same_grant world g e
after_is world (Some (Err d)) = at (is_store_refusal (Err d))
  where
    at : (v : Bool) → world ≡ world_by (cond v failed unchanged) world world
    at true = refl
    at false = refl
after_is world None = refl

exchange_true : (old : World) (e : Exchange) (new : World) → Carries old e new → new ≡ next_world old (exchanged e)
exchange_true old e new (by_verdict given is) =
    is ∙ after_is old (judgement old e) ∙ ap (λ (a : Option Answer). world_by (answer_ending old a) old (after old (judgement old e))) (sym given)
exchange_true old e new (by_refusal given sure is) =
    is ∙ ap (λ (a : Option Answer). world_by (answer_ending old a) old (after old (judgement old e))) (sym given)

none_expired : {A : Type 0} (p : A → Bool) (xs : List A) → length (filter (λ x. not (p x)) xs) ≡ 0 → filter p xs ≡ xs
none_expired p [] e = refl
none_expired {A = A} p (x ∷ xs) e = at (p x) e (none_expired p xs)
  where
    at : (v : Bool) → length (cond (not v) (x ∷ filter (λ y. not (p y)) xs) (filter (λ y. not (p y)) xs)) ≡ 0 → (length (filter (λ y. not (p y)) xs) ≡ 0 → filter p xs ≡ xs)
        → cond v (x ∷ filter p xs) (filter p xs) ≡ x ∷ xs
    at true h rest = ap (λ ys. x ∷ ys) (rest h)
    at false h rest = absurd (omega (arith, h))

pruned_true : (now n : ℕ) (world : World) → expired_count now world ≡ n → without_expired now world ≡ next_world world (prunes now (Some n))
pruned_true now n world e = at (nat_lt 0 n) refl
  where
    at : (v : Bool) → nat_lt 0 n ≡ v → without_expired now world ≡ world_by (cond v changed unchanged) world (without_expired now world)
    at true some = refl
    at false none =
        ap (λ (tokens : List Token). record world { tokens = tokens }) (none_expired (λ (t : Token). nat_lt now t.expires) world.tokens (let few = ltb-false 0 n none in omega (arith, e, few)))

issue_true : (old : World) (asked : TokenRequest) (given : Option (Result Token TokenDenial)) (new : World) → Reports given (issue_outcome old asked) old new
    → new ≡ next_world old (issues asked given)
issue_true old asked None new (by_fault none is) = is
issue_true old asked (Some x) new (by_fault none is) = absurd (none-some x (sym none))
issue_true old asked None new (by_success e is) = absurd (none-some (token_verdict old asked) e)
issue_true old asked (Some (Ok t)) new (by_success e is) = is
issue_true old asked (Some (Err d)) new (by_success e is) = is ∙ ap (after_token old) (sym (same_Some (Err d) (token_verdict old asked) e))

prune_true : (old : World) (now : ℕ) (given : Option ℕ) (new : World) → Reports given (prune_outcome old now) old new → new ≡ next_world old (prunes now given)
prune_true old now None new (by_fault none is) = is
prune_true old now (Some n) new (by_fault none is) = absurd (none-some n (sym none))
prune_true old now None new (by_success e is) = absurd (none-some (expired_count now old) e)
prune_true old now (Some n) new (by_success e is) = is ∙ pruned_true now n old (sym (same_Some n (expired_count now old) e))

-- a removal that is reported as none left the world
removed_true : (r n : List ℕ) (old new : World) (removal : Removal) → removal_of old r n ≡ removal → new ≡ after_removal old r n removal → new ≡ next_world old (retires r n (Some removal))
removed_true r n old new removed_now e is = is ∙ sym (ap (after_removal old r n) e)
removed_true r n old new removed_before e is = is
removed_true r n old new no_object e is = is

retire_true : (old : World) (r n : List ℕ) (given : Option Removal) (new : World) → Reports given (retire_outcome old r n) old new → new ≡ next_world old (retires r n given)
retire_true old r n None new (by_fault none is) = is
retire_true old r n (Some x) new (by_fault none is) = absurd (none-some x (sym none))
retire_true old r n None new (by_success e is) = absurd (none-some (removal_of old r n) e)
retire_true old r n (Some x) new (by_success e is) =
    let same = sym (same_Some x (removal_of old r n) e) in removed_true r n old new x same (is ∙ ap (after_removal old r n) same)

pub reports_are_true : ReportsAreTrue
reports_are_true old (exchanged e) new step = exchange_true old e new step.carries
reports_are_true old (issues asked given) new step = issue_true old asked given new step.1
reports_are_true old (prunes now given) new step = prune_true old now given new step.1
reports_are_true old (retires r n given) new step = retire_true old r n given new step.2

-- ---- the worlds of a bound

-- the world that a step was to make is that of a step, whether the store made it or not
abbrev pub can_make : (world mid : World) (event : Event) → IsStep world event mid → (other : Event) × IsStep world other (intended_world world event)
can_make world mid (exchanged e) step = (
  exchanged (record e { given = judgement world e }),
  record { policy = step.policy; now = step.now; asked = step.asked; carries = by_verdict refl refl },
)
can_make world mid (issues asked given) step = (issues asked (Some (issue_outcome world asked).answer), (step.0, by_success refl refl))
can_make world mid (prunes now given) step = (prunes now (Some (prune_outcome world now).answer), (step.0, by_success refl refl))
can_make world mid (retires r n given) step = (retires r n (Some (retire_outcome world r n).answer), (step.0, step.1, by_success refl refl))

-- what holds of the world before a call, of the one that it was to make, and of a bound, holds of the next bound
pub all_left : (P : World → Type 0) (ending : Ending) (old made : World) (bound : Bound) → P old → P made → AllByRecursion P bound → AllByRecursion P (left_by ending old made bound)
all_left P changed old made bound before after all = (after, tt)
all_left P unchanged old made bound before after all = (before, all)
all_left P failed old made bound before after all = (after, (before, all))

-- the worlds left by a run with one more event
pub bound_one : (old : World) (events : List Event) (mid : World) (event : Event) (bound : Bound) → Run old events mid
    → bound_of_run old (events ++ event ∷ []) bound ≡ bound_after mid event (bound_of_run old events bound)
bound_one old [] mid event bound run = ap (λ (w : World). bound_after w event bound) (sym run)
bound_one old (e ∷ events) mid event bound run =
    bound_one (next_world old e) events mid event (bound_after old e bound)
    (subst (λ (w : World). Run w events mid) (reports_are_true old e run.0 run.1) run.2)

unchanged_world : (v : Ending) (old made : World) → is_changed v ≡ false → world_by v old made ≡ old
unchanged_world changed old made e = absurd (true≢false e)
unchanged_world unchanged old made e = refl
unchanged_world failed old made e = refl

pub only_reported_changes : OnlyReportedChanges
only_reported_changes old event new step quiet =
    reports_are_true old event new step ∙ unchanged_world (ending_of old event) old (intended_world old event) quiet

-- ---- the bound of a run

-- the world is the last one, or one that the store refused to make after the last change; the events are in order
abbrev IsLeft : List Event → World → World → Type 0
IsLeft done new world = SameWorld new world ⊎ IsHalfDone done new world

each_append : {A : Type 0} (P : A → Type 0) (xs : List A) (x : A) → AllByRecursion P xs → P x → AllByRecursion P (xs ++ x ∷ [])
each_append P [] x all is = (is, tt)
each_append P (y ∷ xs) x all is = (all.0, each_append P xs x all.1 is)

-- one more event, which made no change
half_done_on : (done : List Event) (event : Event) (world left : World) → is_changed (ending_of world event) ≡ false → IsHalfDone done world left
    → IsHalfDone (done ++ event ∷ []) world left
half_done_on done event world left quiet h = record {
  before = h.before;
  event = h.event;
  later = h.later ++ event ∷ [];
  order = ap (λ (es : List Event). es ++ event ∷ []) h.order ∙ append_assoc h.before (h.event ∷ h.later) (event ∷ []);
  refused = h.refused;
  same = h.same;
  since = All-from_recursion (λ (e : Event). is_changed (ending_of world e) ≡ false) (h.later ++ event ∷ [])
      (each_append (λ e. is_changed (ending_of world e) ≡ false) h.later event (recursion_from_All (λ (e : Event). is_changed (ending_of world e) ≡ false) h.later h.since) quiet);
}

left_on : (done : List Event) (event : Event) (world left : World) → is_changed (ending_of world event) ≡ false → IsLeft done world left → IsLeft (done ++ event ∷ []) world left
left_on done event world left quiet (inl same) = inl same
left_on done event world left quiet (inr h) = inr (half_done_on done event world left quiet h)

-- the event that the store refused
half_done_now : (done : List Event) (event : Event) (world left : World) → ending_of world event ≡ failed → SameWorld (intended_world world event) left
    → IsHalfDone (done ++ event ∷ []) world left
half_done_now done event world left refused same = record {
  before = done;
  event = event;
  later = [];
  order = refl;
  refused = refused;
  same = same;
  since = All-from_recursion (λ (e : Event). is_changed (ending_of world e) ≡ false) [] tt;
}

step_left : (bound : Bound) (done : List Event) (old : World) (event : Event) → ((w : World) → IsWithin bound w → IsLeft done old w)
    → (left : World) → IsWithin (bound_after old event bound) left → IsLeft (done ++ event ∷ []) (next_world old event) left
step_left bound done old event so_far left = at (ending_of old event) refl
  where
    made : World
    made = intended_world old event

    at : (v : Ending) → ending_of old event ≡ v → IsWithin (left_by v old made bound) left → IsLeft (done ++ event ∷ []) (world_by v old made) left
    at changed e (inl same) = inl same
    at changed e (inr none) = absurd none
    at unchanged e (inl same) = inl same
    at unchanged e (inr is) = left_on done event old left (ap is_changed e) (so_far left is)
    at failed e (inl same) = inr (half_done_now done event old left e same)
    at failed e (inr (inl same)) = inl same
    at failed e (inr (inr is)) = left_on done event old left (ap is_changed e) (so_far left is)

run_left : (bound : Bound) (done : List Event) (old : World) (events : List Event) (new : World) → Run old events new
    → ((w : World) → IsWithin bound w → IsLeft done old w) → (left : World) → IsWithin (bound_of_run old events bound) left → IsLeft (done ++ events) new left
run_left bound done old [] new run so_far left is =
    subst (λ (es : List Event). IsLeft es new left) (sym (append-nil done)) (subst (λ (w : World). IsLeft done w left) (sym run) (so_far left is))
run_left bound done old (event ∷ events) new run so_far left is =
    let there : next_world old event ≡ run.0 = sym (reports_are_true old event run.0 run.1) in
    subst (λ (es : List Event). IsLeft es new left) (append_assoc done (event ∷ []) events)
    (run_left (bound_after old event bound) (done ++ event ∷ []) run.0 events new run.2
    (λ w within. subst (λ (mid : World). IsLeft (done ++ event ∷ []) mid w) there (step_left bound done old event so_far w within)) left
    (subst (λ (mid : World). IsWithin (bound_of_run mid events (bound_after old event bound)) left) there is))

first_left : (old w : World) → IsWithin (old ∷ []) w → IsLeft [] old w
first_left old w (inl same) = inl same
first_left old w (inr none) = absurd none

pub leaves_one_change : LeavesOneChange
leaves_one_change old events new run left is = run_left (old ∷ []) [] old events new run (first_left old) left is
