-- Each step keeps the laws of worlds.
use Rattle.std.proofs.Common.{◌≡◌, ℕ, ◌+◌, ◌<◌, ◌≤◌, Bool, true, false, not, ◌||◌, ◌&&◌, nat_lt, nat_le, List, [], ◌∷◌, length, filter, refl, sym, ap, subst, ◌∙◌, arith, Result, Ok, Err, Option, Some, None, find, bytes_eq, cond, IfOk, IfSome, IsTrue, codes, is_err, is_some, ◌==◌}
use Rattle.std.specs.Bool.{⊤}
use Rattle.std.specs.List.{AllByRecursion}
use Rattle.std.proofs.lemmas.List.Elements.{recursion_from_All, All-from_recursion, All-cons, All-filter}
use Rattle.std.proofs.lemmas.List.Kept.{AllPairs-cons, AllPairs-filter}
use Rattle.std.proofs.lemmas.Bool.{ltb-true, leb-true, cond_both, and_from, true≢false}
use Rattle.std.proofs.lemmas.Option.{none-some}
use Rattle.std.proofs.lemmas.Slice.Eq.{bytes_eq-Decides}
use Rattle.httparse.specs.Grammar.{RequestHead}
use Rattle.sha2.specs.Sha256.{sha256}
use Rattle.serde_json.specs.Find.{as_str}
use Rattle.names.specs.Texts.{last_lock_id, last_moment, is_hex_64, is_user, is_repo, is_ref, is_lock_path, largest_object}
use Rattle.names.specs.declared.rules.Rule.{Rule}
use Rattle.names.specs.declared.rules.Rule.TheVariants as rule
use Rattle.model.specs.declared.Form.{Form}
use Rattle.model.specs.declared.Form.TheVariants as form
use Rattle.model.specs.declared.Right.TheVariants as right
use Rattle.model.specs.Reading.{◌>>=◌, check, ok_or, none_or, or_default}
use Rattle.model.specs.Policy.{Policy, IsPolicy, Repo, repo_named}
use Rattle.model.specs.World.{World, Object, Lock, Token, Retired, IsWorld, IsObject, IsLock, IsToken, IsRetired, IsUnretired, DiffersInName, DiffersInId, DiffersInPlace, DiffersInDigest, DiffersInRetired, object_named, is_retired, find_token, with_lock, without_lock, with_object, without_object, with_token, without_expired, has_id, has_name, one_more, nothing, name_of}
use Rattle.model.specs.RepoState.{lock_at, locks_of, size_of, is_gone, has_room}
use Rattle.model.specs.Forms.{LockForm, Request, asks_batch, asks_get, asks_put, asks_verify, asks_lock, asks_list, asks_verify_locks, asks_unlock, lock_form, batch_form, put_form, verify_form, list_form, verify_locks_form, unlock_form, is_if_given, members_of, required_member, optional, as_name, request_of}
use Rattle.model.specs.Heads.{Target, head_verdict, query_of, content_length, body_length}
use Rattle.model.specs.Callers.{Caller, bearer, caller_by, lock_question, push_question}
use Rattle.model.specs.Cases.{Setting, Case, case_in, DeskRequest}
use Rattle.model.specs.Answers.{Grant, stores, makes_lock, offers, serves, confirms, lists, splits, releases, Answer, Denial, by_lock, by_rules, permit, may_pull, may_push, Plan, grants, sends, receives}
use Rattle.model.specs.Locks.{ref_or_default, new_lock, lock_verdict, list_verdict, verify_locks_verdict, unlock_verdict, visible_lock, release_verdict}
use Rattle.model.specs.Batch.{may_batch, batch_verdict}
use Rattle.model.specs.Pages.{cursor_in}
use Rattle.model.specs.Objects.{finish, verify_verdict}
use Rattle.model.specs.Verdict.{plan_to, plan_for, is_covered, caller_plan, desk_plan, desk_request, verdict, early_verdict}
use Rattle.model.specs.Operator.{TokenRequest, IsTokenRequest, new_token, already_issued, expires_too_late, token_verdict, after_token, Outcome, issue_outcome, prune_outcome, Removal, removed_now, removed_before, no_object, removal_of, after_removal, retire_outcome, Reports, by_success, by_fault}
use Rattle.model.specs.Steps.{verdict_on, denial_alone, after, after_grant, Message, message, bad_head, IsMessage, Exchange, judgement, Carries, by_verdict, by_refusal, IsExchange, exchanged, issues, prunes, retires}
use Rattle.model.specs.Laws.{StepsKeepWorlds, RunsKeepWorlds, RunsMakeWorlds, NeverLocksTwice, DenialsChangeNothing, SilenceChangesNothing}
use Rattle.model.proofs.Tests.{both_true}
use Rattle.model.proofs.Checks.{passed, then_any, by_rules_ok, found_ok, check_ok, rules_check_ok, find_ok}
use Rattle.model.proofs.Lists.{not_found, none_rising, none_filter}
use Rattle.model.proofs.Once.{gone_is}
use Rattle.model.proofs.Sizes.{judged_small}

-- ---- what is in range

pub record IsRepoInRange (r : Repo) : Type 0 where
  pub name : IsTrue (is_repo r.name)
  pub default_ref : IsTrue (is_ref r.default_ref)

pub record IsLockForm (asked : LockForm) : Type 0 where
  pub path : IsTrue (is_lock_path asked.path)
  pub ref : IsTrue (is_if_given is_ref asked.ref)

abbrev IsRequest : Request → Type 0
IsRequest (asks_lock asked) = IsLockForm asked
IsRequest _ = ⊤

pub record IsCaller (c : Caller) : Type 0 where
  pub user : IsTrue (is_user c.user)
  pub repo : IsTrue (is_repo c.repo)

caller_in_range : (world : World) (now : ℕ) (values : List (List ℕ)) → IsWorld world → IfOk (caller_by world now values) IsCaller
caller_in_range world now values w =
    then_any IsCaller (ok_or (bearer values) rule.A1) _ (λ text.
    passed IsToken IsCaller (ok_or (find_token text world) rule.A2) _ (found_ok IsToken (find_token text world) rule.A2 (find_ok IsToken _ world.tokens (recursion_from_All IsToken world.tokens w.tokens))) (λ t is.
    then_any IsCaller (check (nat_lt now t.expires) rule.A3) _ (λ good. record { user = is.user; repo = is.repo })))

repos_in_range : (repos : List Repo) → AllByRecursion (λ r. IsTrue (is_repo r.name) × IsTrue (is_ref r.default_ref)) repos → AllByRecursion IsRepoInRange repos
repos_in_range [] all = tt
repos_in_range (r ∷ repos) all = (record { name = all.0.0; default_ref = all.0.1 }, repos_in_range repos all.1)

-- the entry that a name finds is in range, and has the name
abbrev IsEntryOf : List ℕ → Repo → Type 0
IsEntryOf name r = IsRepoInRange r × (bytes_eq r.name name ≡ true)

entry_found : (name : List ℕ) (repos : List Repo) → AllByRecursion IsRepoInRange repos → IfSome (find (λ r. bytes_eq r.name name) repos) (IsEntryOf name)
entry_found name [] all = tt
entry_found name (r ∷ repos) all = at (bytes_eq r.name name) refl (entry_found name repos all.1)
  where
    at : (v : Bool) → bytes_eq r.name name ≡ v → IfSome (find (λ r. bytes_eq r.name name) repos) (IsEntryOf name) → IfSome (cond v (Some r) (find (λ r. bytes_eq r.name name) repos)) (IsEntryOf name)
    at true e rest = (all.0, e)
    at false e rest = rest

repo_in_range : (name : List ℕ) (policy : Policy) → IsPolicy policy → IfSome (repo_named name policy) (IsEntryOf name)
repo_in_range name policy p = entry_found name policy.repos (repos_in_range policy.repos (recursion_from_All _ policy.repos p))

form_is : (path : List ℕ) (ref : Option (List ℕ)) → IfOk (check {E = Rule} (is_lock_path path && is_if_given is_ref ref) rule.J2 >>= λ _. Ok (record { path = path; ref = ref })) IsLockForm
form_is path ref =
    passed (λ _. IsTrue (is_lock_path path && is_if_given is_ref ref)) IsLockForm (check (is_lock_path path && is_if_given is_ref ref) rule.J2) (λ _. Ok (record { path = path; ref = ref })) (check_ok _ rule.J2)
    (λ _ is. record { path = (both_true _ _ is).0; ref = (both_true _ _ is).1 })

form_in_range : (body : List ℕ) → IfOk (lock_form body) IsLockForm
unfolding lock_form
form_in_range body =
    then_any IsLockForm (ok_or (members_of body) rule.J1) _ (λ members.
    then_any IsLockForm (required_member as_str (codes "path") members) _ (λ path.
    then_any IsLockForm (optional as_name (codes "ref") members) _ (λ ref. form_is path ref)))

request_in_range : (form : Form) (parameter query body : List ℕ) → IfOk (request_of form parameter query body) IsRequest
request_in_range form.Lock parameter query body = passed IsLockForm IsRequest (lock_form body) _ (form_in_range body) (λ asked is. is)
request_in_range form.Batch parameter query body = then_any IsRequest (batch_form body) _ (λ asked. tt)
request_in_range form.Get parameter query body = then_any IsRequest (check (is_hex_64 parameter) rule.J2) _ (λ asked. tt)
request_in_range form.Put parameter query body = then_any IsRequest (put_form parameter query) _ (λ asked. tt)
request_in_range form.Verify parameter query body = then_any IsRequest (verify_form query body) _ (λ asked. tt)
request_in_range form.List parameter query body = then_any IsRequest (list_form query) _ (λ asked. tt)
request_in_range form.VerifyLocks parameter query body = then_any IsRequest (verify_locks_form body) _ (λ asked. tt)
request_in_range form.Unlock parameter query body = then_any IsRequest (unlock_form parameter body) _ (λ asked. tt)

ref_in_range : (ref : Option (List ℕ)) (default_ref : List ℕ) → IsTrue (is_if_given is_ref ref) → IsTrue (is_ref default_ref) → IsTrue (is_ref (or_default ref default_ref))
ref_in_range (Some ref) default_ref given default = given
ref_in_range None default_ref given default = default

-- ---- grants in a world

-- the lock is in range, its place is free, and its id is the next
pub record IsNewLock (world : World) (l : Lock) : Type 0 where
  pub is : IsLock (one_more l.repo world.made) l
  pub free : find (λ (k : Lock). bytes_eq k.ref l.ref && bytes_eq k.path l.path) (locks_of l.repo world) ≡ None
  pub room : world.made l.repo < last_lock_id
  pub next : l.id ≡ world.made l.repo + 1

abbrev pub IsGrantable : World → Grant → Type 0
IsGrantable world (makes_lock l) = IsNewLock world l
IsGrantable world (stores o) = IsObject o × IsUnretired world o
IsGrantable world _ = ⊤

abbrev pub IsFeasible : World → List ℕ → Plan → Type 0
IsFeasible world repo (grants grant) = IsGrantable world grant
IsFeasible world repo (sends name size) = ⊤
IsFeasible world repo (receives name) = IsTrue (not (is_retired repo name world))

pub counted_itself : (repo : List ℕ) (made : List ℕ → ℕ) → one_more repo made repo ≡ made repo + 1
counted_itself repo made = rw ((bytes_eq-Decides repo repo).1 refl) refl

-- the setting of an exchange is in range
pub record IsSetting (setting : Setting) : Type 0 where
  pub policy : IsPolicy setting.policy
  pub now : setting.now ≤ last_moment

-- and so is a case in a world
pub record IsCase (setting : Setting) (who : Caller) (entry : Repo) : Type 0 where
  pub now : setting.now ≤ last_moment
  pub caller : IsCaller who
  pub repo : IsRepoInRange entry

lock_passed : (P : Grant → Type 0) (may : Result ⊤ Denial) (there : Option Lock) (room : Bool) (g : Grant)
    → (there ≡ None → room ≡ true → P g)
    → IfOk (may >>= λ _. none_or there by_lock >>= λ _. by_rules (check room rule.L5) >>= λ _. Ok g) P
lock_passed P (Ok x) None true g then = then refl refl
lock_passed P (Ok x) None false g then = tt
lock_passed P (Ok x) (Some l) room g then = tt
lock_passed P (Err e) there room g then = tt

module _ (world : World) (setting : Setting) (caller : Caller) (repo : Repo) where
  abbrev c : Case
  c = case_in world setting caller repo

  lock_grantable : (asked : LockForm) → IsCase setting caller repo → IsLockForm asked → IfOk (lock_verdict c asked) (IsGrantable world)
  lock_grantable asked is what =
      lock_passed (IsGrantable world) (permit setting.policy (lock_question right.Lock caller.user (new_lock c asked)) 403) (lock_at (ref_or_default asked.ref repo) asked.path c.state)
      (nat_lt (world.made repo.name) last_lock_id) (makes_lock (new_lock c asked))
      (λ free room. record {
        is = record {
          repo = is.repo.name;
          ref = ref_in_range asked.ref repo.default_ref what.ref is.repo.default_ref;
          path = what.path;
          owner = is.caller.user;
          at = is.now;
          first = omega arith;
          last = omega (arith, counted_itself repo.name world.made);
        };
        free = free;
        room = ltb-true (world.made repo.name) last_lock_id room;
        next = refl;
      })

  release_grantable : (force : Bool) (l : Lock) → IfOk (release_verdict c force l) (IsGrantable world)
  release_grantable force l =
      cond_both (bytes_eq l.owner caller.user) _ _ (λ a. IfOk a (IsGrantable world))
      (λ _. then_any (IsGrantable world) (permit setting.policy (lock_question right.Lock caller.user l) 403) _ (λ may. tt))
      (λ _. then_any (IsGrantable world) (by_rules (check force rule.L3)) _ (λ forced. then_any (IsGrantable world) (permit setting.policy (lock_question right.Force caller.user l) 403) _ (λ may. tt)))

  plan_feasible : (answer : Answer) → IfOk answer (IsGrantable world) → IfOk (plan_to answer) (IsFeasible world repo.name)
  plan_feasible answer is = passed (IsGrantable world) (IsFeasible world repo.name) answer _ is (λ g good. good)

  plans_feasible : (left : ℕ) (asked : Request) → IsWorld world → IsCase setting caller repo → IsRequest asked → IfOk (plan_for c left asked) (IsFeasible world repo.name)
  plans_feasible left (asks_lock asked) w is what = plan_feasible _ (lock_grantable asked is what)
  plans_feasible left (asks_batch asked) w is what = plan_feasible (batch_verdict c asked) (then_any (IsGrantable world) (may_batch c asked asked.operation) _ (λ may. tt))
  plans_feasible left (asks_get name) w is what =
      then_any (IsFeasible world repo.name) (may_pull setting.policy caller.user repo.name 404) _ (λ may.
      then_any (IsFeasible world repo.name) (by_rules (check (not (is_gone name c.state)) rule.X4)) _ (λ there.
      then_any (IsFeasible world repo.name) (by_rules (ok_or (size_of name c.state) rule.X1)) _ (λ size. tt)))
  plans_feasible left (asks_put asked) w is what =
      then_any (IsFeasible world repo.name) (may_push setting.policy caller.user repo.name (ref_or_default asked.ref repo)) _ (λ may.
      passed (λ _. IsTrue (not (is_gone asked.name c.state))) (IsFeasible world repo.name) (by_rules (check (not (is_gone asked.name c.state)) rule.X4)) _ (rules_check_ok (not (is_gone asked.name c.state)) rule.X4) (λ _ there.
      then_any (IsFeasible world repo.name) (by_rules (check (has_room left c.state || is_some (size_of asked.name c.state)) rule.X3)) _ (λ fits.
      subst (λ (v : Bool). IsTrue (not v)) (gone_is world repo asked.name w) there)))
  plans_feasible left (asks_verify asked) w is what =
      plan_feasible (verify_verdict c asked)
      (then_any (IsGrantable world) (may_push setting.policy caller.user repo.name (ref_or_default asked.ref repo)) _ (λ may.
      then_any (IsGrantable world) (by_rules (ok_or (size_of asked.name c.state) rule.V1)) _ (λ size.
      then_any (IsGrantable world) (by_rules (check (size == asked.size) rule.V2)) _ (λ same. tt))))
  plans_feasible left (asks_list asked) w is what =
      plan_feasible (list_verdict c asked)
      (then_any (IsGrantable world) (may_pull setting.policy caller.user repo.name 403) _ (λ may. then_any (IsGrantable world) (by_rules (cursor_in asked.cursor)) _ (λ cursor. tt)))
  plans_feasible left (asks_verify_locks asked) w is what =
      plan_feasible (verify_locks_verdict c asked)
      (then_any (IsGrantable world) (permit setting.policy (push_question caller.user repo.name (ref_or_default asked.ref repo)) 403) _ (λ may.
      then_any (IsGrantable world) (by_rules (cursor_in asked.cursor)) _ (λ cursor. tt)))
  plans_feasible left (asks_unlock asked) w is what =
      plan_feasible (unlock_verdict c asked)
      (then_any (IsGrantable world) (by_rules (ok_or (visible_lock c asked.id) rule.L2)) _ (λ l. release_grantable asked.force l))

both_ok : {A B : Type 0} (P : A → Type 0) (r : Result A B) (Q : Type 0) → IfOk r P → Q → IfOk r (λ x. P x × Q)
both_ok P (Ok x) Q is also = (is, also)
both_ok P (Err e) Q is also = tt

-- the plan of a caller's request is feasible, and its repository is in range
abbrev IsGoodPlan : World → List ℕ → Plan → Type 0
IsGoodPlan world repo plan = IsFeasible world repo plan × IsTrue (is_repo repo)

caller_feasible : (world : World) (setting : Setting) (caller : Caller) (asked : DeskRequest) → IsWorld world → IsSetting setting → IsCaller caller → IfOk asked.request IsRequest
    → IfOk (caller_plan world setting caller asked) (IsGoodPlan world asked.repo)
caller_feasible world setting caller asked w is who what =
    let P : Plan → Type 0 = IsGoodPlan world asked.repo in
    passed (λ _. IsTrue (bytes_eq caller.repo asked.repo)) P (by_rules (check (bytes_eq caller.repo asked.repo) rule.A4)) _ (rules_check_ok (bytes_eq caller.repo asked.repo) rule.A4) (λ _ own.
    passed (IsEntryOf asked.repo) P (by_rules (ok_or (repo_named asked.repo setting.policy) rule.R1)) _ (by_rules_ok (IsEntryOf asked.repo) _ (found_ok (IsEntryOf asked.repo) _ rule.R1 (repo_in_range asked.repo setting.policy is.policy))) (λ repo entry.
    passed IsRequest P (by_rules asked.request) _ (by_rules_ok IsRequest _ what) (λ request fine.
    then_any P (by_rules (check (is_covered caller request) rule.A5)) _ (λ covered.
    both_ok (IsFeasible world asked.repo) (plan_for (case_in world setting caller repo) asked.left request) (IsTrue (is_repo asked.repo))
    (subst (λ (n : List ℕ). IfOk (plan_for (case_in world setting caller repo) asked.left request) (IsFeasible world n)) ((bytes_eq-Decides repo.name asked.repo).0 entry.1)
    (plans_feasible world setting caller repo asked.left request w (record { now = is.now; caller = who; repo = entry.0 }) fine))
    (subst (λ (r : List ℕ). IsTrue (is_repo r)) ((bytes_eq-Decides caller.repo asked.repo).0 own) who.repo)))))

desk_feasible : (world : World) (setting : Setting) (asked : DeskRequest) → IsWorld world → IsSetting setting → IfOk asked.request IsRequest
    → IfOk (desk_plan world setting asked) (IsGoodPlan world asked.repo)
desk_feasible world setting asked w is what =
    passed IsCaller (IsGoodPlan world asked.repo) (by_rules (caller_by world setting.now asked.bearers)) _ (by_rules_ok IsCaller _ (caller_in_range world setting.now asked.bearers w)) (λ caller who.
    caller_feasible world setting caller asked w is who what)

finish_grantable : (world : World) (repo body : List ℕ) (plan : Plan) → IsGoodPlan world repo plan → length body ≤ largest_object
    → IfOk (finish world repo body plan) (IsGrantable world)
finish_grantable world repo body (grants g) good small = good.0
finish_grantable world repo body (sends name size) good small = then_any (IsGrantable world) (by_rules (ok_or (object_named repo name world) rule.X1)) _ (λ o. tt)
finish_grantable world repo body (receives name) good small =
    passed (λ _. IsTrue (bytes_eq name (name_of body))) (IsGrantable world) (by_rules (check (bytes_eq name (name_of body)) rule.X2)) _ (rules_check_ok (bytes_eq name (name_of body)) rule.X2) (λ _ same.
    (record { repo = good.1; name = (bytes_eq-Decides name (name_of body)).0 same; size = small }, good.0))

body_small : (head : RequestHead) (body : List ℕ) → IsMessage (message head body true) → IfOk (head_verdict head) (λ _. length body ≤ largest_object)
body_small head body is = at (head_verdict head) refl (judged_small head)
  where
    at : (r : Result Target Rule) → head_verdict head ≡ r → IfOk r (λ _. content_length head ≤ largest_object) → IfOk r (λ _. length body ≤ largest_object)
    at (Err e) j small = tt
    at (Ok t) j small =
        let same : body_length head ≡ content_length head = ap (λ (r : Result Target Rule). cond (is_err r) 0 (content_length head)) j in
        omega (arith, is, same, small)

verdict_grantable : (world : World) (setting : Setting) (head : RequestHead) (body : List ℕ)
    → IsWorld world → IsSetting setting → IsMessage (message head body true)
    → IfOk (verdict world setting head body) (IsGrantable world)
unfolding verdict
verdict_grantable world setting head body w at is =
    passed (λ _. length body ≤ largest_object) (IsGrantable world) (by_rules (head_verdict head)) _ (by_rules_ok (λ _. length body ≤ largest_object) (head_verdict head) (body_small head body is)) (λ target small.
    passed (IsGoodPlan world target.repo) (IsGrantable world) (desk_plan world setting (desk_request head target body)) _
    (desk_feasible world setting (desk_request head target body) w at (request_in_range target.form target.parameter (query_of head.target) body)) (λ plan good.
    finish_grantable world target.repo body plan good small))

-- ---- tests that turn

none_some : {A : Type 0} (o : Option A) → is_some o ≡ false → o ≡ None
none_some None e = refl
none_some (Some x) e = absurd (true≢false e)

-- whether an object has a name, and whether the name is the object's
turned_false : (repo name : List ℕ) (o : Object) → has_name repo name o ≡ false → (bytes_eq repo o.repo && bytes_eq name o.name) ≡ false
turned_false repo name o e = at (bytes_eq repo o.repo && bytes_eq name o.name) refl
  where
    at : (v : Bool) → (bytes_eq repo o.repo && bytes_eq name o.name) ≡ v → v ≡ false
    at false h = refl
    at true h =
        let both = both_true (bytes_eq repo o.repo) (bytes_eq name o.name) h in
        absurd (true≢false (sym (and_from _ _ ((bytes_eq-Decides o.repo repo).1 (sym ((bytes_eq-Decides repo o.repo).0 both.0))) ((bytes_eq-Decides o.name name).1 (sym ((bytes_eq-Decides name o.name).0 both.1)))) ∙ e))

-- ---- one more lock

-- the place of the lock is free, so each other lock has another place
elsewhere : (l k : Lock) → (bytes_eq k.repo l.repo ≡ true → (bytes_eq k.ref l.ref && bytes_eq k.path l.path) ≡ false) → DiffersInPlace l k
elsewhere l k free repo ref path =
    true≢false (sym (and_from _ _ ((bytes_eq-Decides k.ref l.ref).1 (sym ref)) ((bytes_eq-Decides k.path l.path).1 (sym path))) ∙ free ((bytes_eq-Decides k.repo l.repo).1 (sym repo)))

all_elsewhere : (l : Lock) (locks : List Lock) → AllByRecursion (λ k. bytes_eq k.repo l.repo ≡ true → (bytes_eq k.ref l.ref && bytes_eq k.path l.path) ≡ false) locks
    → AllByRecursion (DiffersInPlace l) locks
all_elsewhere l [] all = tt
all_elsewhere l (k ∷ locks) all = (elsewhere l k all.0, all_elsewhere l locks all.1)

free_place : (world : World) (l : Lock) → IsNewLock world l → AllByRecursion (DiffersInPlace l) world.locks
free_place world l new =
    let place : Lock → Bool = λ k. bytes_eq k.ref l.ref && bytes_eq k.path l.path in
    let own : Lock → Bool = λ k. bytes_eq k.repo l.repo in
    all_elsewhere l world.locks (none_filter place own world.locks (none_rising (λ a b. nat_lt a.id b.id) place (filter own world.locks) new.free))

-- the id is greater than all that were made, so each other lock has another id
new_id : (l : Lock) (made : List ℕ → ℕ) (locks : List Lock) → l.id ≡ made l.repo + 1 → AllByRecursion (IsLock made) locks → AllByRecursion (DiffersInId l) locks
new_id l made [] e all = tt
new_id l made (k ∷ locks) e all =
    (λ repo id. omega (arith, e, id, all.0.last, ap made repo), new_id l made locks e all.1)

pub counted_above : (repo : List ℕ) (made : List ℕ → ℕ) (other : List ℕ) → made other ≤ one_more repo made other
counted_above repo made other =
    cond_both (bytes_eq other repo) (made other + 1) (made other) (λ n. made other ≤ n) (λ _. omega arith) (λ _. omega arith)

still_lock : (repo : List ℕ) (made : List ℕ → ℕ) (k : Lock) → IsLock made k → IsLock (one_more repo made) k
still_lock repo made k is = record {
  repo = is.repo;
  ref = is.ref;
  path = is.path;
  owner = is.owner;
  at = is.at;
  first = is.first;
  last = omega (arith, is.last, counted_above repo made k.repo);
}

still_locks : (repo : List ℕ) (made : List ℕ → ℕ) (locks : List Lock) → AllByRecursion (IsLock made) locks → AllByRecursion (IsLock (one_more repo made)) locks
still_locks repo made [] all = tt
still_locks repo made (k ∷ locks) all = (still_lock repo made k all.0, still_locks repo made locks all.1)

still_within : (repo : List ℕ) (made : List ℕ → ℕ) (other : List ℕ) → made repo < last_lock_id → made other ≤ last_lock_id → one_more repo made other ≤ last_lock_id
still_within repo made other room within =
    cond_both (bytes_eq other repo) (made other + 1) (made other) (λ n. n ≤ last_lock_id)
    (λ e. omega (arith, room, ap made ((bytes_eq-Decides other repo).0 e))) (λ _. within)

pub keeps_with_lock : (world : World) (l : Lock) → IsNewLock world l → IsWorld world → IsWorld (with_lock l world)
keeps_with_lock world l new w =
    let locks = recursion_from_All (IsLock world.made) world.locks w.locks in
    record {
      objects = w.objects;
      names = w.names;
      retired = w.retired;
      once = w.once;
      gone = w.gone;
      locks = All-cons (IsLock (one_more l.repo world.made)) l world.locks new.is (All-from_recursion (IsLock (one_more l.repo world.made)) world.locks (still_locks l.repo world.made world.locks locks));
      ids = AllPairs-cons DiffersInId l world.locks (All-from_recursion (DiffersInId l) world.locks (new_id l world.made world.locks new.next locks)) w.ids;
      places = AllPairs-cons DiffersInPlace l world.locks (All-from_recursion (DiffersInPlace l) world.locks (free_place world l new)) w.places;
      made = λ repo. still_within l.repo world.made repo new.room (w.made repo);
      tokens = w.tokens;
      digests = w.digests;
    }

-- ---- one more token, and fewer tokens

other_digest : (i j : Token) → bytes_eq (sha256 j.text) (sha256 i.text) ≡ false → DiffersInDigest i j
other_digest i j is same = true≢false (sym ((bytes_eq-Decides (sha256 j.text) (sha256 i.text)).1 (sym same)) ∙ is)

new_digest : (i : Token) (issued : List Token) → find (λ j. bytes_eq (sha256 j.text) (sha256 i.text)) issued ≡ None → AllByRecursion (DiffersInDigest i) issued
new_digest i [] e = tt
new_digest i (j ∷ issued) e =
    let no = not_found (bytes_eq (sha256 j.text) (sha256 i.text)) j (find (λ k. bytes_eq (sha256 k.text) (sha256 i.text)) issued) e in
    (other_digest i j no.0, new_digest i issued no.1)

pub keeps_with_token : (world : World) (i : Token) → IsToken i → find_token i.text world ≡ None → IsWorld world → IsWorld (with_token i world)
keeps_with_token world i is new w = record {
  objects = w.objects;
  names = w.names;
  retired = w.retired;
  once = w.once;
  gone = w.gone;
  locks = w.locks;
  ids = w.ids;
  places = w.places;
  made = w.made;
  tokens = All-cons IsToken i world.tokens is w.tokens;
  digests = AllPairs-cons DiffersInDigest i world.tokens (All-from_recursion (DiffersInDigest i) world.tokens (new_digest i world.tokens new)) w.digests;
}

pub keeps_without_expired : (now : ℕ) (world : World) → IsWorld world → IsWorld (without_expired now world)
keeps_without_expired now world w = record {
  objects = w.objects;
  names = w.names;
  retired = w.retired;
  once = w.once;
  gone = w.gone;
  locks = w.locks;
  ids = w.ids;
  places = w.places;
  made = w.made;
  tokens = All-filter (λ i. nat_lt now i.expires) IsToken world.tokens w.tokens;
  digests = AllPairs-filter DiffersInDigest (λ i. nat_lt now i.expires) world.tokens w.digests;
}

pub keeps_without_lock : (l : Lock) (world : World) → IsWorld world → IsWorld (without_lock l world)
keeps_without_lock l world w = record {
  objects = w.objects;
  names = w.names;
  retired = w.retired;
  once = w.once;
  gone = w.gone;
  locks = All-filter (λ k. not (has_id l.repo l.id k)) (IsLock world.made) world.locks w.locks;
  ids = AllPairs-filter DiffersInId (λ k. not (has_id l.repo l.id k)) world.locks w.ids;
  places = AllPairs-filter DiffersInPlace (λ k. not (has_id l.repo l.id k)) world.locks w.places;
  made = w.made;
  tokens = w.tokens;
  digests = w.digests;
}

-- ---- one more object

other_name : (o p : Object) → (bytes_eq p.repo o.repo && bytes_eq p.name o.name) ≡ false → DiffersInName o p
other_name o p is repo name = true≢false (sym (and_from _ _ ((bytes_eq-Decides p.repo o.repo).1 (sym repo)) ((bytes_eq-Decides p.name o.name).1 (sym name))) ∙ is)

new_name : (o : Object) (objects : List Object) → find (λ (p : Object). bytes_eq p.repo o.repo && bytes_eq p.name o.name) objects ≡ None → AllByRecursion (DiffersInName o) objects
new_name o [] e = tt
new_name o (p ∷ objects) e =
    let none = not_found (bytes_eq p.repo o.repo && bytes_eq p.name o.name) p (find (λ (q : Object). bytes_eq q.repo o.repo && bytes_eq q.name o.name) objects) e in
    (other_name o p none.0, new_name o objects none.1)

pub keeps_with_object : (world : World) (o : Object) → IsObject o → IsUnretired world o → IsWorld world → IsWorld (with_object o world)
keeps_with_object world o is unretired w = at (object_named o.repo o.name world) refl
  where
    at : (there : Option Object) → object_named o.repo o.name world ≡ there → IsWorld (cond (is_some there) world (record world { objects = o ∷ world.objects }))
    at (Some p) stored = w
    at None free = record {
      objects = All-cons IsObject o world.objects is w.objects;
      names = AllPairs-cons DiffersInName o world.objects (All-from_recursion (DiffersInName o) world.objects (new_name o world.objects free)) w.names;
      retired = w.retired;
      once = w.once;
      gone = All-cons (IsUnretired world) o world.objects unretired w.gone;
      locks = w.locks;
      ids = w.ids;
      places = w.places;
      made = w.made;
      tokens = w.tokens;
      digests = w.digests;
    }

-- ---- one object less

-- the name was not retired, so each retired name is another
new_retired : (r : Retired) (names : List Retired) → find (λ (s : Retired). bytes_eq s.repo r.repo && bytes_eq s.name r.name) names ≡ None → AllByRecursion (DiffersInRetired r) names
new_retired r [] e = tt
new_retired r (s ∷ names) e =
    let none = not_found (bytes_eq s.repo r.repo && bytes_eq s.name r.name) s (find (λ (q : Retired). bytes_eq q.repo r.repo && bytes_eq q.name r.name) names) e in (
      λ repo name. true≢false (sym (and_from _ _ ((bytes_eq-Decides s.repo r.repo).1 (sym repo)) ((bytes_eq-Decides s.name r.name).1 (sym name))) ∙ none.0),
      new_retired r names none.1,
    )

-- the names of the objects that are left are not retired
still_gone : (repo name : List ℕ) (world : World) (objects : List Object) → AllByRecursion (IsUnretired world) objects
    → AllByRecursion (IsUnretired (without_object repo name world)) (filter (λ o. not (has_name repo name o)) objects)
still_gone repo name world [] all = tt
still_gone repo name world (o ∷ objects) all = at (has_name repo name o) refl (still_gone repo name world objects all.1)
  where
    left : List Object
    left = filter (λ p. not (has_name repo name p)) objects

    other : has_name repo name o ≡ false → IsUnretired (without_object repo name world) o
    other e = subst (λ (v : Bool). IsTrue (not (is_some (cond v (Some (record { repo = repo; name = name })) (find (λ r. bytes_eq r.repo o.repo && bytes_eq r.name o.name) world.retired))))) (sym (turned_false repo name o e)) all.0

    at : (v : Bool) → has_name repo name o ≡ v → AllByRecursion (IsUnretired (without_object repo name world)) left → AllByRecursion (IsUnretired (without_object repo name world)) (cond (not v) (o ∷ left) left)
    at true e rest = rest
    at false e rest = (other e, rest)

pub keeps_without_object : (repo name : List ℕ) (world : World) → IsTrue (is_repo repo) → IsTrue (is_hex_64 name) → is_retired repo name world ≡ false → IsWorld world
    → IsWorld (without_object repo name world)
keeps_without_object repo name world in_repo in_name unretired w =
    let r : Retired = record { repo = repo; name = name } in
    record {
      objects = All-filter (λ o. not (has_name repo name o)) IsObject world.objects w.objects;
      names = AllPairs-filter DiffersInName (λ o. not (has_name repo name o)) world.objects w.names;
      retired = All-cons IsRetired r world.retired (record { repo = in_repo; name = in_name }) w.retired;
      once = AllPairs-cons DiffersInRetired r world.retired (All-from_recursion (DiffersInRetired r) world.retired (new_retired r world.retired (none_some _ unretired))) w.once;
      gone = All-from_recursion (IsUnretired (without_object repo name world)) _ (still_gone repo name world world.objects (recursion_from_All (IsUnretired world) world.objects w.gone));
      locks = w.locks;
      ids = w.ids;
      places = w.places;
      made = w.made;
      tokens = w.tokens;
      digests = w.digests;
    }

keeps_removal : (repo name : List ℕ) (world : World) → IsTrue (is_repo repo) → IsTrue (is_hex_64 name) → IsWorld world → IsWorld (after_removal world repo name (removal_of world repo name))
keeps_removal repo name world in_repo in_name w = at (is_retired repo name world) refl (is_some (object_named repo name world))
  where
    at : (before : Bool) → is_retired repo name world ≡ before → (there : Bool)
        → IsWorld (after_removal world repo name (cond before removed_before (cond there removed_now no_object)))
    at true e there = w
    at false e true = keeps_without_object repo name world in_repo in_name e w
    at false e false = w

keeps_token : (world : World) (asked : TokenRequest) → IsTokenRequest asked → IsWorld world → IsWorld (after_token world (token_verdict world asked))
keeps_token world asked is w = at (find_token asked.text world) refl (nat_le (asked.now + asked.seconds) last_moment) refl
  where
    token : Token
    token = new_token asked

    at : (there : Option Token) → find_token asked.text world ≡ there → (in_time : Bool) → nat_le (asked.now + asked.seconds) last_moment ≡ in_time
        → IsWorld (after_token world (none_or there (λ _. already_issued) >>= λ _. check in_time expires_too_late >>= λ _. Ok token))
    at (Some i) known in_time e = w
    at None unknown false e = w
    at None unknown true e = keeps_with_token world token (record { text = is.text; user = is.user; repo = is.repo; expires = leb-true (asked.now + asked.seconds) last_moment e }) unknown w

-- ---- steps and runs

keeps_grant : (world : World) (g : Grant) → IsGrantable world g → IsWorld world → IsWorld (after_grant world g)
keeps_grant world (makes_lock l) new w = keeps_with_lock world l new w
keeps_grant world (stores o) is w = keeps_with_object world o is.0 is.1 w
keeps_grant world (releases l) is w = keeps_without_lock l world w
keeps_grant world (offers some) is w = w
keeps_grant world (serves o) is w = w
keeps_grant world confirms is w = w
keeps_grant world (lists page) is w = w
keeps_grant world (splits user page) is w = w

abbrev pub IfGranted : World → Option Answer → Type 0
IfGranted world (Some answer) = IfOk answer (IsGrantable world)
IfGranted world None = ⊤

keeps_after : (world : World) (answer : Option Answer) → IfGranted world answer → IsWorld world → IsWorld (after world answer)
keeps_after world (Some (Ok g)) may w = keeps_grant world g may w
keeps_after world (Some (Err denial)) may w = w
keeps_after world None may w = w

early_grantable : {A : Type 0} (world : World) (r : Result A Denial) → IfGranted world (denial_alone r)
early_grantable world (Ok x) = tt
early_grantable world (Err d) = tt

pub message_grantable : (world : World) (setting : Setting) (asked : Message) → IsWorld world → IsSetting setting → IsMessage asked
    → IfGranted world (verdict_on world setting asked)
message_grantable world setting bad_head w at is = tt
message_grantable world setting (message head body true) w at is = verdict_grantable world setting head body w at is
message_grantable world setting (message head body false) w at is = early_grantable world (early_verdict world setting head)

-- the verdict on the message of an exchange
pub exchange_grantable : (old : World) (e : Exchange) (new : World) → IsWorld old → IsExchange old e new → IfGranted old (judgement old e)
exchange_grantable old e new w step = message_grantable old e.setting e.asked w (record { policy = step.policy; now = step.now }) step.asked

keeps_exchange : (old : World) (e : Exchange) (new : World) → IsExchange old e new → Carries old e new → IsWorld old → IsWorld new
keeps_exchange old e new step (by_verdict given is) w = subst IsWorld (sym is) (keeps_after old (judgement old e) (exchange_grantable old e new w step) w)
keeps_exchange old e new step (by_refusal given sure is) w = subst IsWorld (sym is) w

keeps_report : {A : Type 0} (given : Option A) (outcome : Outcome A) (old new : World) → Reports given outcome old new → IsWorld old → IsWorld outcome.world → IsWorld new
keeps_report given outcome old new (by_success t is) w d = subst IsWorld (sym is) d
keeps_report given outcome old new (by_fault t is) w d = subst IsWorld (sym is) w

pub keeps_step : StepsKeepWorlds
keeps_step old (issues asked given) new step w = keeps_report given (issue_outcome old asked) old new step.1 w (keeps_token old asked step.0 w)
keeps_step old (prunes now given) new step w = keeps_report given (prune_outcome old now) old new step.1 w (keeps_without_expired now old w)
keeps_step old (retires repo name given) new step w = keeps_report given (retire_outcome old repo name) old new step.2 w (keeps_removal repo name old step.0 step.1 w)
keeps_step old (exchanged e) new step w = keeps_exchange old e new step step.carries w

pub keeps_run : RunsKeepWorlds
keeps_run old [] new run w = subst IsWorld (sym run) w
keeps_run old (event ∷ events) new run w = keeps_run run.0 events new run.2 (keeps_step old event run.0 run.1 w)

nothing_is : IsWorld nothing
nothing_is = record {
  objects = λ k d h. absurd (omega arith);
  names = λ i j d h l. absurd (omega arith);
  retired = λ k d h. absurd (omega arith);
  once = λ i j d h l. absurd (omega arith);
  gone = λ k d h. absurd (omega arith);
  locks = λ k d h. absurd (omega arith);
  ids = λ i j d h l. absurd (omega arith);
  places = λ i j d h l. absurd (omega arith);
  made = λ repo. omega arith;
  tokens = λ k d h. absurd (omega arith);
  digests = λ i j d h l. absurd (omega arith);
}

pub makes_world : RunsMakeWorlds
makes_world events new run = keeps_run nothing events new run nothing_is

pub never_twice : NeverLocksTwice
never_twice events new run = (makes_world events new run).places

left_by_denial : (old : World) (answer : Option Answer) (denial : Denial) → answer ≡ Some (Err denial) → after old answer ≡ old
left_by_denial old (Some (Ok granted)) denial e = absurd (cc)
left_by_denial old (Some (Err d)) denial e = refl
left_by_denial old None denial e = refl

denial_leaves : (old : World) (e : Exchange) (denial : Denial) (new : World) → Carries old e new → e.given ≡ Some (Err denial) → new ≡ old
denial_leaves old e denial new (by_verdict given is) given_is = is ∙ left_by_denial old (judgement old e) denial (sym given ∙ given_is)
denial_leaves old e denial new (by_refusal given sure is) given_is = is

pub denials_change_nothing : DenialsChangeNothing
denials_change_nothing old e denial new step given_is = denial_leaves old e denial new step.carries given_is

left_by_silence : (old : World) (answer : Option Answer) → answer ≡ None → after old answer ≡ old
left_by_silence old (Some (Ok granted)) e = absurd (none-some (Ok granted) (sym e))
left_by_silence old (Some (Err d)) e = refl
left_by_silence old None e = refl

silence_leaves : (old : World) (e : Exchange) (new : World) → Carries old e new → e.given ≡ None → new ≡ old
silence_leaves old e new (by_verdict given is) given_is = is ∙ left_by_silence old (judgement old e) (sym given ∙ given_is)
silence_leaves old e new (by_refusal given sure is) given_is = is

pub silence_changes_nothing : SilenceChangesNothing
silence_changes_nothing old e new step given_is = silence_leaves old e new step.carries given_is

-- the world after an exchange is the one after its answer
after_given : (old : World) (e : Exchange) (new : World) → Carries old e new → new ≡ after old e.given
after_given old e new (by_verdict given is) = is ∙ ap (after old) (sym given)
after_given old e new (by_refusal given sure is) = is ∙ ap (after old) (sym given)

pub exchange_after : (old : World) (e : Exchange) (new : World) → IsExchange old e new → new ≡ after old e.given
exchange_after old e new step = after_given old e new step.carries
