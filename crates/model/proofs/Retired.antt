-- A retired name stays retired, and no object has it.
use Rattle.std.proofs.Common.{◌≡◌, ◌∙◌, ℕ, Bool, true, false, not, ◌&&◌, List, [], ◌∷◌, find, Option, Some, None, Result, Ok, Err, is_some, IsTrue, bytes_eq, cond, refl, sym, ap, subst}
use Rattle.std.specs.List.{AllByRecursion}
use Rattle.std.proofs.lemmas.Bool.{and_from, true≢false}
use Rattle.std.proofs.lemmas.Option.{none-some, same_Some}
use Rattle.std.proofs.lemmas.List.Elements.{recursion_from_All}
use Rattle.std.proofs.lemmas.Slice.Eq.{bytes_eq-Decides}
use Rattle.model.specs.World.{World, Object, Token, Retired, IsWorld, IsUnretired, is_retired, object_named, with_object, without_object}
use Rattle.model.specs.Answers.{stores, makes_lock, offers, serves, confirms, lists, splits, releases, Answer}
use Rattle.model.specs.Operator.{TokenDenial, token_verdict, after_token, Outcome, issue_outcome, prune_outcome, Removal, removed_now, removed_before, no_object, removal_of, after_removal, retire_outcome, Reports, by_success, by_fault}
use Rattle.model.specs.Steps.{after, Exchange, judgement, Carries, by_verdict, by_refusal, Event, exchanged, issues, prunes, retires, IsStep, Run}
use Rattle.model.specs.Laws.{Removes, RetiredForGood, RemovedIsRetired}
use Rattle.model.proofs.Keeping.{keeps_run}
use Rattle.model.proofs.Lists.{In, each_in, in_found, found_passes}
use Rattle.model.proofs.Tests.{both_true}

-- ---- a step

object_retires : (old : World) (o : Object) → (with_object o old).retired ≡ old.retired
object_retires old o = at (object_named o.repo o.name old)
  where
    at : (there : Option Object) → (cond (is_some there) old (record old { objects = o ∷ old.objects })).retired ≡ old.retired
    at (Some p) = refl
    at None = refl

after_retires : (old : World) (given : Option Answer) → (after old given).retired ≡ old.retired
after_retires old (Some (Ok (stores o))) = object_retires old o
after_retires old (Some (Ok (makes_lock l))) = refl
after_retires old (Some (Ok (releases l))) = refl
after_retires old (Some (Ok (serves o))) = refl
after_retires old (Some (Ok (offers some))) = refl
after_retires old (Some (Ok confirms)) = refl
after_retires old (Some (Ok (lists page))) = refl
after_retires old (Some (Ok (splits user page))) = refl
after_retires old (Some (Err d)) = refl
after_retires old None = refl

exchange_retires : (old : World) (e : Exchange) (new : World) → Carries old e new → new.retired ≡ old.retired
exchange_retires old e new (by_verdict given is) = ap (λ (w : World). w.retired) is ∙ after_retires old (judgement old e)
exchange_retires old e new (by_refusal given sure is) = ap (λ (w : World). w.retired) is

token_retires : (old : World) (v : Result Token TokenDenial) → (after_token old v).retired ≡ old.retired
token_retires old (Ok t) = refl
token_retires old (Err d) = refl

-- whether a name is retired, by the list alone
abbrev retired_in : List ℕ → List ℕ → List Retired → Bool
retired_in repo name names = is_some (find (λ r. bytes_eq r.repo repo && bytes_eq r.name name) names)

by_list : (repo name : List ℕ) (old new : World) → new.retired ≡ old.retired → is_retired repo name old ≡ true → is_retired repo name new ≡ true
by_list repo name old new same is = ap (retired_in repo name) same ∙ is

one_more : (repo name : List ℕ) (r : Retired) (names : List Retired) → retired_in repo name names ≡ true → retired_in repo name (r ∷ names) ≡ true
one_more repo name r names is = at (bytes_eq r.repo repo && bytes_eq r.name name)
  where
    at : (v : Bool) → is_some (cond v (Some r) (find (λ r. bytes_eq r.repo repo && bytes_eq r.name name) names)) ≡ true
    at true = refl
    at false = is

removal_stays : (repo name r n : List ℕ) (old : World) (removal : Removal) → is_retired repo name old ≡ true → is_retired repo name (after_removal old r n removal) ≡ true
removal_stays repo name r n old removed_now is = one_more repo name (record { repo = r; name = n }) old.retired is
removal_stays repo name r n old removed_before is = is
removal_stays repo name r n old no_object is = is

report_stays : {A : Type 0} (repo name : List ℕ) (given : Option A) (outcome : Outcome A) (old new : World) → Reports given outcome old new
    → (is_retired repo name old ≡ true → is_retired repo name outcome.world ≡ true) → is_retired repo name old ≡ true → is_retired repo name new ≡ true
report_stays repo name given outcome old new (by_success t is) then there = ap (is_retired repo name) is ∙ then there
report_stays repo name given outcome old new (by_fault t is) then there = ap (is_retired repo name) is ∙ there

step_stays : (old : World) (event : Event) (new : World) (repo name : List ℕ) → IsStep old event new → is_retired repo name old ≡ true → is_retired repo name new ≡ true
step_stays old (exchanged e) new repo name step is = by_list repo name old new (exchange_retires old e new step.carries) is
step_stays old (issues asked given) new repo name step is =
    report_stays repo name given (issue_outcome old asked) old new step.1 (by_list repo name old (issue_outcome old asked).world (token_retires old (token_verdict old asked))) is
step_stays old (prunes now given) new repo name step is = report_stays repo name given (prune_outcome old now) old new step.1 (λ there. there) is
step_stays old (retires r n given) new repo name step is =
    report_stays repo name given (retire_outcome old r n) old new step.2 (removal_stays repo name r n old (removal_of old r n)) is

run_stays : (old : World) (events : List Event) (new : World) (repo name : List ℕ) → Run old events new → is_retired repo name old ≡ true → is_retired repo name new ≡ true
run_stays old [] new repo name run is = ap (is_retired repo name) run ∙ is
run_stays old (event ∷ events) new repo name run is = run_stays run.0 events new repo name run.2 (step_stays old event run.0 repo name run.1 is)

-- ---- a removal

removed_there : (repo name : List ℕ) (old : World) → is_retired repo name (without_object repo name old) ≡ true
removed_there repo name old =
    ap (λ (v : Bool). is_some (cond v (Some (record { repo = repo; name = name })) (find (λ r. bytes_eq r.repo repo && bytes_eq r.name name) old.retired)))
    (and_from _ _ ((bytes_eq-Decides repo repo).1 refl) ((bytes_eq-Decides name name).1 refl))

reported_now : (r n : List ℕ) (old new : World) → Reports (Some removed_now) (retire_outcome old r n) old new → is_retired r n new ≡ true
reported_now r n old new (by_success t is) =
    ap (is_retired r n) (is ∙ ap (after_removal old r n) (sym (same_Some removed_now (removal_of old r n) t))) ∙ removed_there r n old
reported_now r n old new (by_fault t is) = absurd (none-some removed_now (sym t))

pub removed_is_retired : RemovedIsRetired
removed_is_retired old (retires r n (Some removed_now)) new repo name step removes =
    ap (λ (k : List ℕ). is_retired k name new) (sym removes.0) ∙ ap (λ (k : List ℕ). is_retired r k new) (sym removes.1) ∙ reported_now r n old new step.2
removed_is_retired old (retires r n (Some removed_before)) new repo name step removes = absurd removes
removed_is_retired old (retires r n (Some no_object)) new repo name step removes = absurd removes
removed_is_retired old (retires r n None) new repo name step removes = absurd removes
removed_is_retired old (exchanged e) new repo name step removes = absurd removes
removed_is_retired old (issues asked given) new repo name step removes = absurd removes
removed_is_retired old (prunes now given) new repo name step removes = absurd removes

-- no event of a run removed an object that has its name in the end
pub none_removes : (old : World) (events : List Event) (new : World) (repo name : List ℕ) → Run old events new → IsTrue (not (is_retired repo name new))
    → AllByRecursion (λ event. ¬ (Removes repo name event)) events
none_removes old [] new repo name run un = tt
none_removes old (event ∷ events) new repo name run un = (
  λ removes. differ (run_stays run.0 events new repo name run.2 (removed_is_retired old event run.0 repo name run.1 removes)),
  none_removes run.0 events new repo name run.2 un,
)
  where
    differ : is_retired repo name new ≡ true → ⊥
    differ is = true≢false (sym un ∙ ap not is)

-- ---- for good

-- no object has a retired name
unnamed : (world : World) (repo name : List ℕ) → IsWorld world → is_retired repo name world ≡ true → (there : Option Object) → object_named repo name world ≡ there → object_named repo name world ≡ None
unnamed world repo name w is None e = e
unnamed world repo name w is (Some o) e =
    let has = both_true (bytes_eq o.repo repo) (bytes_eq o.name name) (found_passes (λ (p : Object). bytes_eq p.repo repo && bytes_eq p.name name) world.objects o e) in
    let un : IsUnretired world o = each_in (IsUnretired world) world.objects o (recursion_from_All (IsUnretired world) world.objects w.gone) (in_found (λ (p : Object). bytes_eq p.repo repo && bytes_eq p.name name) world.objects o e) in
    let there : is_retired o.repo o.name world ≡ true =
    ap (λ (k : List ℕ). is_retired k o.name world) ((bytes_eq-Decides o.repo repo).0 has.0) ∙ ap (λ (k : List ℕ). is_retired repo k world) ((bytes_eq-Decides o.name name).0 has.1) ∙ is in
    absurd (true≢false (sym un ∙ ap not there))

pub retired_for_good : RetiredForGood
retired_for_good old events new repo name w run is =
    let there = run_stays old events new repo name run is in
    (there, unnamed new repo name (keeps_run old events new run w) there (object_named repo name new) refl)
