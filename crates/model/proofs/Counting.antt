-- The counts of made locks.
use Rattle.std.proofs.Common.{◌≡◌, ℕ, ◌+◌, ◌≤◌, List, [], ◌∷◌, refl, sym, ap, subst, ◌∙◌, arith, Result, Ok, Err, Option, Some, None, cond, is_some}
use Rattle.model.specs.World.{World, Object, Lock, Token, object_named, with_object}
use Rattle.model.specs.Answers.{stores, makes_lock, offers, serves, confirms, lists, splits, releases, Answer}
use Rattle.model.specs.Operator.{TokenDenial, token_verdict, after_token, Outcome, issue_outcome, prune_outcome, Removal, removed_now, removed_before, no_object, removal_of, after_removal, retire_outcome, Reports, by_success, by_fault}
use Rattle.model.specs.Steps.{Exchange, judgement, Carries, by_verdict, by_refusal, after, Event, exchanged, issues, prunes, retires, IsStep}
use Rattle.model.specs.Laws.{CountsOn, NewIdIsNext, NoIdComesAgain}
use Rattle.model.proofs.Keeping.{counted_itself, counted_above, IsNewLock, IfGranted, exchange_grantable, keeps_step, keeps_run}

object_counts : (o : Object) (world : World) (repo : List ℕ) → world.made repo ≤ (with_object o world).made repo
object_counts o world repo = at (object_named o.repo o.name world)
  where
    at : (there : Option Object) → world.made repo ≤ (cond (is_some there) world (record world { objects = o ∷ world.objects })).made repo
    at (Some p) = omega arith
    at None = omega arith

after_counts : (world : World) (given : Option Answer) (repo : List ℕ) → world.made repo ≤ (after world given).made repo
after_counts world (Some (Ok (makes_lock l))) repo = counted_above l.repo world.made repo
after_counts world (Some (Ok (stores o))) repo = object_counts o world repo
after_counts world (Some (Ok (releases l))) repo = omega arith
after_counts world (Some (Ok (serves o))) repo = omega arith
after_counts world (Some (Ok (offers some))) repo = omega arith
after_counts world (Some (Ok confirms)) repo = omega arith
after_counts world (Some (Ok (lists page))) repo = omega arith
after_counts world (Some (Ok (splits user page))) repo = omega arith
after_counts world (Some (Err d)) repo = omega arith
after_counts world None repo = omega arith

exchange_counts : (old : World) (e : Exchange) (new : World) (repo : List ℕ) → Carries old e new → old.made repo ≤ new.made repo
exchange_counts old e new repo (by_verdict given is) = omega (arith, after_counts old (judgement old e) repo, ap (λ (w : World). w.made repo) is)
exchange_counts old e new repo (by_refusal given sure is) = omega (arith, ap (λ (w : World). w.made repo) is)

report_counts : {A : Type 0} (given : Option A) (outcome : Outcome A) (old new : World) (repo : List ℕ) → Reports given outcome old new
    → outcome.world.made repo ≡ old.made repo → old.made repo ≤ new.made repo
report_counts given outcome old new repo (by_success t is) same = omega (arith, same, ap (λ (w : World). w.made repo) is)
report_counts given outcome old new repo (by_fault t is) same = omega (arith, ap (λ (w : World). w.made repo) is)

token_counts : (old : World) (v : Result Token TokenDenial) (repo : List ℕ) → (after_token old v).made repo ≡ old.made repo
token_counts old (Ok i) repo = refl
token_counts old (Err d) repo = refl

removal_counts : (old : World) (r n : List ℕ) (removal : Removal) (repo : List ℕ) → (after_removal old r n removal).made repo ≡ old.made repo
removal_counts old r n removed_now repo = refl
removal_counts old r n removed_before repo = refl
removal_counts old r n no_object repo = refl

step_counts : (old : World) (event : Event) (new : World) (repo : List ℕ) → IsStep old event new → old.made repo ≤ new.made repo
step_counts old (exchanged e) new repo step = exchange_counts old e new repo step.carries
step_counts old (issues asked given) new repo step = report_counts given (issue_outcome old asked) old new repo step.1 (token_counts old (token_verdict old asked) repo)
step_counts old (prunes now given) new repo step = report_counts given (prune_outcome old now) old new repo step.1 refl
step_counts old (retires r n given) new repo step = report_counts given (retire_outcome old r n) old new repo step.2 (removal_counts old r n (removal_of old r n) repo)

pub counts_on : CountsOn
counts_on old [] new run repo = omega (arith, ap (λ (w : World). w.made repo) run)
counts_on old (event ∷ events) new run repo = omega (arith, step_counts old event run.0 repo run.1, counts_on run.0 events new run.2 repo)

next_of : (old : World) (given : Option Answer) (l : Lock) → given ≡ Some (Ok (makes_lock l)) → IfGranted old given → (l.id ≡ old.made l.repo + 1) × ((after old given).made l.repo ≡ l.id)
next_of old given l e may =
    let is : IsNewLock old l = subst (IfGranted old) e may in
    (is.next, ap (λ (g : Option Answer). (after old g).made l.repo) e ∙ counted_itself l.repo old.made ∙ sym is.next)

new_next : (old : World) (e : Exchange) (l : Lock) (new : World) → IfGranted old (judgement old e) → Carries old e new → e.given ≡ Some (Ok (makes_lock l)) → (l.id ≡ old.made l.repo + 1) × (new.made l.repo ≡ l.id)
new_next old e l new may (by_verdict given is) given_is =
    let n = next_of old (judgement old e) l (sym given ∙ given_is) may in (n.0, ap (λ (w : World). w.made l.repo) is ∙ n.1)
new_next old e l new may (by_refusal given sure is) given_is = absurd (cc)

pub new_id_is_next : NewIdIsNext
new_id_is_next old e l new w step given_is =
    new_next old e l new (exchange_grantable old e new w step) step.carries given_is

pub no_id_comes_again : NoIdComesAgain
no_id_comes_again l m t =
    let a = t.first in
    let b = t.second in
    let one = new_id_is_next a.old a.exchange l a.new t.laws a.step a.made in
    let start = keeps_step a.old (exchanged a.exchange) a.new a.step t.laws in
    let other = new_id_is_next b.old b.exchange m b.new (keeps_run a.new t.between b.old t.run start) b.step b.made in
    omega (arith, one.1, counts_on a.new t.between b.old t.run l.repo, other.0, ap (λ (r : List ℕ). b.old.made r) t.repo)
