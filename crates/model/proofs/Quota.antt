-- A stored total within its quota stays within it.
use Rattle.std.proofs.Common.{not, ◌≡◌, ℕ, ◌+◌, ◌≤◌, Bool, true, false, ◌||◌, List, [], ◌∷◌, length, filter, refl, sym, ap, subst, ◌∙◌, arith, Result, Ok, Err, Option, Some, None, bytes_eq, cond, IfOk, IfSome, IsTrue, is_some, is_err, sum_by, option_map}
use Rattle.std.specs.Bool.{⊤}
use Rattle.std.specs.List.{AllByRecursion}
use Rattle.std.proofs.lemmas.Bool.{true≢false}
use Rattle.std.proofs.lemmas.List.Elements.{recursion_from_All}
use Rattle.std.proofs.lemmas.List.Sums.{sum_by-cons}
use Rattle.std.proofs.lemmas.Slice.Eq.{bytes_eq-Decides}
use Rattle.httparse.specs.Grammar.{RequestHead}
use Rattle.names.specs.declared.rules.Rule.{Rule}
use Rattle.names.specs.declared.rules.Rule.TheVariants as rule
use Rattle.model.specs.declared.Form.{Form}
use Rattle.model.specs.declared.Form.TheVariants as form
use Rattle.model.specs.Reading.{check, ok_or, or_default}
use Rattle.model.specs.Policy.{Policy, Repo, repo_named}
use Rattle.model.specs.World.{World, Object, Token, IsWorld, object_named, name_of, with_object, total}
use Rattle.model.specs.RepoState.{ObjectSize, object_size, repo_state, size_of, is_gone, has_room}
use Rattle.model.specs.Forms.{Request, asks_batch, asks_get, asks_put, asks_verify, asks_lock, asks_list, asks_verify_locks, asks_unlock}
use Rattle.model.specs.Heads.{Target, head_verdict, query_of, content_length, body_length}
use Rattle.model.specs.Callers.{caller_by, Caller}
use Rattle.model.specs.Cases.{Setting, Case, case_in, DeskRequest}
use Rattle.model.specs.Answers.{Grant, stores, makes_lock, offers, serves, confirms, lists, splits, releases, Answer, Denial, by_rules, may_pull, may_push, Plan, grants, sends, receives}
use Rattle.model.specs.Locks.{ref_or_default, lock_verdict, list_verdict, verify_locks_verdict, unlock_verdict}
use Rattle.model.specs.Batch.{batch_verdict}
use Rattle.model.specs.Objects.{finish, verify_verdict}
use Rattle.model.specs.Verdict.{plan_to, plan_for, is_covered, desk_plan, desk_request, verdict, early_verdict, desk_verdict}
use Rattle.model.specs.Operator.{TokenDenial, token_verdict, after_token, Outcome, issue_outcome, prune_outcome, Removal, removed_now, removed_before, no_object, removal_of, after_removal, retire_outcome, Reports, by_success, by_fault}
use Rattle.model.specs.Steps.{verdict_on, denial_alone, after, after_grant, Message, message, bad_head, IsMessage, Exchange, Carries, by_verdict, by_refusal, Event, exchanged, issues, prunes, retires, IsStep, Run}
use Rattle.model.specs.Bounds.{Bound, ending_of, intended_world, bound_after, bound_of_run}
use Rattle.model.specs.Laws.{quota_of, HasQuotaWithin, StaysInQuota}
use Rattle.model.proofs.Checks.{passed, then_any, by_rules_ok, found_ok, rules_check_ok}
use Rattle.model.proofs.Keeping.{keeps_step}
use Rattle.model.proofs.Left.{all_left, can_make, reports_are_true}
use Rattle.model.proofs.Refusals.{verdict_at, verdict_refused}
use Rattle.model.proofs.Rooms.{room_is_quota}
use Rattle.model.proofs.Serving.{IsPlain, IsFrom, IsAsked, desk_from}
use Rattle.model.proofs.Totals.{total_without}
use Rattle.model.proofs.Views.{size_stored}
use Rattle.model.proofs.Lists.{found_passes}

-- ---- an upload that is planned fits

-- the quota of the repository's entry holds the upload, or the name is stored
pub record Fits (world : World) (policy : Policy) (repo : List ℕ) (left : ℕ) (name : List ℕ) : Type 0 where
  pub entry : Repo
  pub named : entry.name ≡ repo
  pub quota : quota_of repo policy ≡ entry.quota
  pub fits : IsTrue (has_room left (repo_state entry world) || is_some (size_of name (repo_state entry world)))

abbrev PlanFits : World → Policy → List ℕ → ℕ → Plan → Type 0
PlanFits world policy repo left (receives name) = Fits world policy repo left name
PlanFits world policy repo left _ = ⊤

plan_fits : (world : World) (policy : Policy) (repo : List ℕ) (left : ℕ) (answer : Answer) → IfOk (plan_to answer) (PlanFits world policy repo left)
plan_fits world policy repo left (Ok g) = tt
plan_fits world policy repo left (Err d) = tt

module _ (world : World) (setting : Setting) (caller : Caller) (entry : Repo) (name : List ℕ) (named : entry.name ≡ name) (quota : quota_of name setting.policy ≡ entry.quota) where
  abbrev c : Case
  c = case_in world setting caller entry

  plans_fit : (left : ℕ) (asked : Request) → IfOk (plan_for c left asked) (PlanFits world setting.policy name left)
  plans_fit left (asks_batch asked) = plan_fits world setting.policy name left (batch_verdict c asked)
  plans_fit left (asks_verify asked) = plan_fits world setting.policy name left (verify_verdict c asked)
  plans_fit left (asks_lock asked) = plan_fits world setting.policy name left (lock_verdict c asked)
  plans_fit left (asks_list asked) = plan_fits world setting.policy name left (list_verdict c asked)
  plans_fit left (asks_verify_locks asked) = plan_fits world setting.policy name left (verify_locks_verdict c asked)
  plans_fit left (asks_unlock asked) = plan_fits world setting.policy name left (unlock_verdict c asked)
  plans_fit left (asks_get oid) =
      let P = PlanFits world setting.policy name left in
      then_any P (may_pull setting.policy caller.user entry.name 404) _ (λ may.
      then_any P (by_rules (check (not (is_gone oid c.state)) rule.X4)) _ (λ there.
      then_any P (by_rules (ok_or (size_of oid c.state) rule.X1)) _ (λ size. tt)))
  plans_fit left (asks_put asked) =
      let P = PlanFits world setting.policy name left in
      let room = has_room left c.state || is_some (size_of asked.name c.state) in
      then_any P (may_push setting.policy caller.user entry.name (ref_or_default asked.ref entry)) _ (λ may.
      then_any P (by_rules (check (not (is_gone asked.name c.state)) rule.X4)) _ (λ there.
      passed (λ _. IsTrue room) P (by_rules (check room rule.X3)) _ (rules_check_ok room rule.X3) (λ _ fits. record { entry = entry; named = named; quota = quota; fits = fits })))

-- the policy's entry
pub record IsEntry (policy : Policy) (name : List ℕ) (entry : Repo) : Type 0 where
  pub named : entry.name ≡ name
  pub quota : quota_of name policy ≡ entry.quota

entry_is : (policy : Policy) (name : List ℕ) (o : Option Repo) → repo_named name policy ≡ o → IfSome o (IsEntry policy name)
entry_is policy name None e = tt
entry_is policy name (Some entry) e = record {
  named = (bytes_eq-Decides entry.name name).0 (found_passes (λ (r : Repo). bytes_eq r.name name) policy.repos entry e);
  quota = ap (λ (o : Option Repo). or_default (option_map (λ (r : Repo). r.quota) o) 0) e;
}

desk_fits : (world : World) (setting : Setting) (asked : DeskRequest) → IfOk (desk_plan world setting asked) (PlanFits world setting.policy asked.repo asked.left)
desk_fits world setting asked =
    let P = PlanFits world setting.policy asked.repo asked.left in
    let Q = IsEntry setting.policy asked.repo in
    let entry = repo_named asked.repo setting.policy in
    then_any P (by_rules (caller_by world setting.now asked.bearers)) _ (λ caller.
    then_any P (by_rules (check (bytes_eq caller.repo asked.repo) rule.A4)) _ (λ own.
    passed Q P (by_rules (ok_or entry rule.R1)) _ (by_rules_ok Q (ok_or entry rule.R1) (found_ok Q entry rule.R1 (entry_is setting.policy asked.repo entry refl))) (λ repo is.
    then_any P (by_rules asked.request) _ (λ request.
    then_any P (by_rules (check (is_covered caller request) rule.A5)) _ (λ covered.
    plans_fit world setting caller repo asked.repo is.named is.quota asked.left request)))))

-- ---- an object that is stored fits

abbrev GrantFits : World → Policy → List ℕ → ℕ → List ℕ → Grant → Type 0
GrantFits world policy repo left body (stores o) = (o.repo ≡ repo) × (o.bytes ≡ body) × Fits world policy repo left o.name
GrantFits world policy repo left body _ = ⊤

plain_fits : (world : World) (policy : Policy) (repo : List ℕ) (left : ℕ) (body : List ℕ) (g : Grant) → IsPlain g → GrantFits world policy repo left body g
plain_fits world policy repo left body (stores o) is = absurd is
plain_fits world policy repo left body (serves o) is = tt
plain_fits world policy repo left body (makes_lock l) is = tt
plain_fits world policy repo left body (offers some) is = tt
plain_fits world policy repo left body confirms is = tt
plain_fits world policy repo left body (lists page) is = tt
plain_fits world policy repo left body (splits user page) is = tt
plain_fits world policy repo left body (releases l) is = tt

both_if : {A E : Type 0} (P Q : A → Type 0) (r : Result A E) → IfOk r P → IfOk r Q → IfOk r (λ x. P x × Q x)
both_if P Q (Ok x) a b = (a, b)
both_if P Q (Err e) a b = tt

finished_fits : (world : World) (policy : Policy) (repo : List ℕ) (left : ℕ) (body : List ℕ) (f : Form) (parameter : List ℕ) (plan : Plan) → PlanFits world policy repo left plan → IsFrom f parameter plan
    → IfOk (finish world repo body plan) (GrantFits world policy repo left body)
finished_fits world policy repo left body f parameter (grants g) fits from = plain_fits world policy repo left body g from
finished_fits world policy repo left body f parameter (sends name size) fits from = then_any (GrantFits world policy repo left body) (by_rules (ok_or (object_named repo name world) rule.X1)) _ (λ o. tt)
finished_fits world policy repo left body f parameter (receives name) fits from = then_any (GrantFits world policy repo left body) (by_rules (check (bytes_eq name (name_of body)) rule.X2)) _ (λ same. (refl, refl, fits))

-- each request has a form, and an upload or a download a parameter
asked_as : (r : Result Request Rule) → (f : Form) × (parameter : List ℕ) × IfOk r (IsAsked f parameter)
asked_as (Err e) = (form.Batch, [], tt)
asked_as (Ok (asks_batch asked)) = (form.Batch, [], tt)
asked_as (Ok (asks_get name)) = (form.Get, name, (refl, refl))
asked_as (Ok (asks_put asked)) = (form.Put, asked.name, (refl, refl))
asked_as (Ok (asks_verify asked)) = (form.Verify, [], tt)
asked_as (Ok (asks_lock asked)) = (form.Lock, [], tt)
asked_as (Ok (asks_list asked)) = (form.List, [], tt)
asked_as (Ok (asks_verify_locks asked)) = (form.VerifyLocks, [], tt)
asked_as (Ok (asks_unlock asked)) = (form.Unlock, [], tt)

answer_fits : (world : World) (setting : Setting) (asked : DeskRequest) (body : List ℕ) → IfOk (desk_verdict world setting asked body) (GrantFits world setting.policy asked.repo asked.left body)
answer_fits world setting asked body =
    let it = asked_as asked.request in
    let P = PlanFits world setting.policy asked.repo asked.left in
    let Q = IsFrom it.0 it.1 in
    passed (λ plan. P plan × Q plan) (GrantFits world setting.policy asked.repo asked.left body) (desk_plan world setting asked) _
    (both_if P Q (desk_plan world setting asked) (desk_fits world setting asked) (desk_from world setting asked it.0 it.1 it.2))
    (λ plan is. finished_fits world setting.policy asked.repo asked.left body it.0 it.1 plan is.0 is.1)

-- ---- the total

-- the total of a repository with one more object
pub total_with : (old : World) (o : Object) (n : List ℕ) (v : Bool) → bytes_eq o.repo n ≡ v
    → total n (record old { objects = o ∷ old.objects }) ≡ cond v (length o.bytes + total n old) (total n old)
total_with old o n true e =
    ap (λ (b : Bool). sum_by (λ (p : Object). length p.bytes) (cond b (o ∷ filter (λ p. bytes_eq p.repo n) old.objects) (filter (λ p. bytes_eq p.repo n) old.objects))) e
    ∙ sum_by-cons (λ (p : Object). length p.bytes) o (filter (λ p. bytes_eq p.repo n) old.objects)
total_with old o n false e =
    ap (λ (b : Bool). sum_by (λ (p : Object). length p.bytes) (cond b (o ∷ filter (λ p. bytes_eq p.repo n) old.objects) (filter (λ p. bytes_eq p.repo n) old.objects))) e

-- an object that is new and fits is within the quota
new_within : (old : World) (policy : Policy) (repo : List ℕ) (left : ℕ) (name : List ℕ) (most : ℕ) → IsWorld old → Fits old policy repo left name
    → object_named repo name old ≡ None → quota_of repo policy ≤ most → left + total repo old ≤ most
new_within old policy repo left name most w f none quota = at (has_room left (repo_state f.entry old)) refl f.fits
  where
    there : is_some (size_of name (repo_state f.entry old)) ≡ false
    there =
        ap (λ (o : Option ℕ). is_some o) (size_stored old f.entry name w
        ∙ ap (λ (n : List ℕ). option_map (λ (s : ObjectSize). s.size) (option_map object_size (object_named n name old))) f.named
        ∙ ap (λ (o : Option Object). option_map (λ (s : ObjectSize). s.size) (option_map object_size o)) none)

    at : (v : Bool) → has_room left (repo_state f.entry old) ≡ v → IsTrue (v || is_some (size_of name (repo_state f.entry old))) → left + total repo old ≤ most
    at true room is =
        let within = (room_is_quota old f.entry left).0 room in
        omega (arith, within, quota, f.quota, ap (λ (n : List ℕ). total n old) f.named)
    at false room is = absurd (true≢false (sym is ∙ there))

object_stays : (old : World) (policy : Policy) (repo : List ℕ) (left : ℕ) (o : Object) (n : List ℕ) (most : ℕ) → IsWorld old → Fits old policy repo left o.name → o.repo ≡ repo → length o.bytes ≡ left
    → total n old ≤ most → quota_of n policy ≤ most → total n (with_object o old) ≤ most
object_stays old policy repo left o n most w fits is size within quota = at (object_named o.repo o.name old) refl
  where
    added : object_named o.repo o.name old ≡ None → (v : Bool) → bytes_eq o.repo n ≡ v → total n (record old { objects = o ∷ old.objects }) ≤ most
    added none false e = omega (arith, total_with old o n false e, within)
    added none true e =
        let same : repo ≡ n = sym is ∙ (bytes_eq-Decides o.repo n).0 e in
        let fit = new_within old policy repo left o.name most w fits (ap (λ r. object_named r o.name old) (sym is) ∙ none) (omega (arith, quota, ap (λ r. quota_of r policy) same)) in
        omega (arith, total_with old o n true e, fit, size, ap (λ (r : List ℕ). total r old) same)

    at : (there : Option Object) → object_named o.repo o.name old ≡ there → total n (cond (is_some there) old (record old { objects = o ∷ old.objects })) ≤ most
    at (Some p) e = within
    at None e = added e (bytes_eq o.repo n) refl

grant_stays : (old : World) (policy : Policy) (repo : List ℕ) (left : ℕ) (body : List ℕ) (g : Grant) (n : List ℕ) (most : ℕ) → IsWorld old
    → GrantFits old policy repo left body g → length body ≡ left → total n old ≤ most → quota_of n policy ≤ most → total n (after_grant old g) ≤ most
grant_stays old policy repo left body (stores o) n most w fits size within quota =
    object_stays old policy repo left o n most w fits.2 fits.0 (ap length fits.1 ∙ size) within quota
grant_stays old policy repo left body (serves o) n most w fits size within quota = within
grant_stays old policy repo left body (makes_lock l) n most w fits size within quota = within
grant_stays old policy repo left body (offers some) n most w fits size within quota = within
grant_stays old policy repo left body confirms n most w fits size within quota = within
grant_stays old policy repo left body (lists page) n most w fits size within quota = within
grant_stays old policy repo left body (splits user page) n most w fits size within quota = within
grant_stays old policy repo left body (releases l) n most w fits size within quota = within

-- ---- steps and runs

-- a request to the desk, with the whole body of an upload
pub desk_stays : (old : World) (setting : Setting) (asked : DeskRequest) (body n : List ℕ) (most : ℕ) → IsWorld old → length body ≡ asked.left
    → total n old ≤ most → quota_of n setting.policy ≤ most → total n (after old (Some (desk_verdict old setting asked body))) ≤ most
desk_stays old setting asked body n most w size within quota = by_answer (desk_verdict old setting asked body) (answer_fits old setting asked body)
  where
    by_answer : (answer : Answer) → IfOk answer (GrantFits old setting.policy asked.repo asked.left body) → total n (after old (Some answer)) ≤ most
    by_answer (Ok g) fits = grant_stays old setting.policy asked.repo asked.left body g n most w fits size within quota
    by_answer (Err d) fits = within

answer_stays : (old : World) (setting : Setting) (head : RequestHead) (body n : List ℕ) (most : ℕ) → IsWorld old → length body ≡ body_length head
    → total n old ≤ most → quota_of n setting.policy ≤ most → total n (after old (Some (verdict old setting head body))) ≤ most
answer_stays old setting head body n most w size within quota = at (head_verdict head) refl
  where
    same : (target : Target) → head_verdict head ≡ Ok target → length body ≡ content_length head
    same target j = size ∙ ap (λ (r : Result Target Rule). cond (is_err r) 0 (content_length head)) j

    at : (r : Result Target Rule) → head_verdict head ≡ r → total n (after old (Some (verdict old setting head body))) ≤ most
    at (Ok target) j =
        subst (λ (a : Answer). total n (after old (Some a)) ≤ most) (sym (verdict_at old setting head body target j))
        (desk_stays old setting (desk_request head target body) body n most w (same target j) within quota)
    at (Err x) j = subst (λ (a : Answer). total n (after old (Some a)) ≤ most) (sym (verdict_refused old setting head body x j)) within

message_stays : (old : World) (setting : Setting) (asked : Message) (n : List ℕ) (most : ℕ) → IsWorld old → IsMessage asked
    → total n old ≤ most → quota_of n setting.policy ≤ most → total n (after old (verdict_on old setting asked)) ≤ most
message_stays old setting (message head body true) n most w size within quota = answer_stays old setting head body n most w size within quota
message_stays old setting (message head body false) n most w size within quota = cut (early_verdict old setting head)
  where
    cut : (r : Result ⊤ Denial) → total n (after old (denial_alone r)) ≤ most
    cut (Ok x) = within
    cut (Err d) = within
message_stays old setting bad_head n most w size within quota = within

exchange_stays : (old : World) (e : Exchange) (new : World) (n : List ℕ) (most : ℕ) → IsWorld old → IsMessage e.asked → Carries old e new
    → total n old ≤ most → quota_of n e.setting.policy ≤ most → total n new ≤ most
exchange_stays old e new n most w asked (by_refusal given sure is) within quota = subst (λ (x : World). total n x ≤ most) (sym is) within
exchange_stays old e new n most w asked (by_verdict given is) within quota =
    subst (λ (x : World). total n x ≤ most) (sym is) (message_stays old e.setting e.asked n most w asked within quota)

report_stays : {A : Type 0} (given : Option A) (outcome : Outcome A) (old new : World) (n : List ℕ) (most : ℕ) → Reports given outcome old new
    → total n outcome.world ≤ total n old → total n old ≤ most → total n new ≤ most
report_stays given outcome old new n most (by_success t is) same within = omega (arith, within, same, ap (λ (x : World). total n x) is)
report_stays given outcome old new n most (by_fault t is) same within = omega (arith, within, ap (λ (x : World). total n x) is)

token_total : (old : World) (v : Result Token TokenDenial) (n : List ℕ) → total n (after_token old v) ≡ total n old
token_total old (Ok t) n = refl
token_total old (Err d) n = refl

removal_total : (old : World) (r n : List ℕ) (removal : Removal) (repo : List ℕ) → IsWorld old → total repo (after_removal old r n removal) ≤ total repo old
removal_total old r n removed_now repo w = omega (arith, total_without old r n repo w (bytes_eq r repo) refl)
removal_total old r n removed_before repo w = omega arith
removal_total old r n no_object repo w = omega arith

step_stays : (old : World) (event : Event) (new : World) (n : List ℕ) (most : ℕ) → IsWorld old → IsStep old event new → HasQuotaWithin n most event
    → total n old ≤ most → total n new ≤ most
step_stays old (exchanged e) new n most w step quota within = exchange_stays old e new n most w step.asked step.carries within quota
step_stays old (issues asked given) new n most w step quota within = report_stays given (issue_outcome old asked) old new n most step.1 (omega (arith, token_total old (token_verdict old asked) n)) within
step_stays old (prunes now given) new n most w step quota within = report_stays given (prune_outcome old now) old new n most step.1 (omega arith) within
step_stays old (retires r name given) new n most w step quota within = report_stays given (retire_outcome old r name) old new n most step.2 (removal_total old r name (removal_of old r name) n w) within

run_stays : (n : List ℕ) (most : ℕ) (old : World) (events : List Event) (new : World) → IsWorld old → Run old events new → AllByRecursion (HasQuotaWithin n most) events
    → total n old ≤ most → total n new ≤ most
run_stays n most old [] new w run quotas within = subst (λ (x : World). total n x ≤ most) (sym run) within
run_stays n most old (event ∷ events) new w run quotas within =
    run_stays n most run.0 events new (keeps_step old event run.0 run.1 w) run.2 quotas.1 (step_stays old event run.0 n most w run.1 quotas.0 within)

pub stays_in_quota : StaysInQuota
stays_in_quota repo most old events new w run quotas within =
    run_stays repo most old events new w run (recursion_from_All (HasQuotaWithin repo most) events quotas) within

same_quota : (repo : List ℕ) (most : ℕ) (old mid : World) (event : Event) (step : IsStep old event mid) → HasQuotaWithin repo most event → HasQuotaWithin repo most (can_make old mid event step).0
same_quota repo most old mid (exchanged e) step quota = quota
same_quota repo most old mid (issues asked given) step quota = tt
same_quota repo most old mid (prunes now given) step quota = tt
same_quota repo most old mid (retires r n given) step quota = tt

-- so do the totals of all worlds that a stop may leave, if they were within the bound before
pub bound_in_quota : (repo : List ℕ) (most : ℕ) (old : World) (events : List Event) (new : World) → IsWorld old → Run old events new → AllByRecursion (HasQuotaWithin repo most) events → total repo old ≤ most
    → (bound : Bound) → AllByRecursion (λ w. total repo w ≤ most) bound → AllByRecursion (λ w. total repo w ≤ most) (bound_of_run old events bound)
bound_in_quota repo most old [] new w run quotas within bound all = all
bound_in_quota repo most old (event ∷ events) new w run quotas within bound all =
    let small : World → Type 0 = λ v. total repo v ≤ most in
    let made = can_make old run.0 event run.1 in
    let mid_small = step_stays old event run.0 repo most w run.1 quotas.0 within in
    let made_small = step_stays old made.0 (intended_world old event) repo most w made.1 (same_quota repo most old run.0 event run.1 quotas.0) within in
    let next = bound_after old event bound in
    subst (λ (v : World). AllByRecursion small (bound_of_run v events next)) (reports_are_true old event run.0 run.1)
    (bound_in_quota repo most run.0 events new (keeps_step old event run.0 run.1 w) run.2 quotas.1 mid_small next (all_left small (ending_of old event) old (intended_world old event) bound within made_small all))
