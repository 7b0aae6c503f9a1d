-- A request in another repository leaves a view unchanged.
use Rattle.std.proofs.Common.{◌≡◌, ◌≢◌, ℕ, Bool, true, false, not, ◌&&◌, ◌||◌, List, [], ◌∷◌, filter, map, length, refl, sym, ap, subst, ◌∙◌, Result, Ok, Err, Option, Some, None, bytes_eq, cond, IfOk, is_some, ◌==◌, nat_lt}
use Rattle.std.specs.Bool.{⊤}
use Rattle.std.specs.Prelude.{sum_by, ℤ, pos, ◌-ℤ◌, ◌+◌}
use Rattle.std.proofs.lemmas.Bool.{true≢false, cond_both}
use Rattle.std.specs.List.{AllByRecursion}
use Rattle.std.proofs.lemmas.List.Elements.{recursion_from_All}
use Rattle.std.proofs.lemmas.Slice.Eq.{bytes_eq-Decides}
use Rattle.httparse.specs.Grammar.{RequestHead}
use Rattle.names.specs.Texts.{last_lock_id}
use Rattle.names.specs.declared.rules.Rule.{Rule}
use Rattle.names.specs.declared.rules.Rule.TheVariants as rule
use Rattle.model.specs.declared.Right.TheVariants as right
use Rattle.model.specs.Reading.{◌>>=◌, check, ok_or, none_or}
use Rattle.model.specs.Orders.{sort_by, text_before}
use Rattle.model.specs.Policy.{Policy, Repo, repo_named}
use Rattle.model.specs.World.{World, Object, Lock, with_lock, without_lock, with_object, one_more, has_id, object_named, total, name_of}
use Rattle.model.specs.RepoState.{object_size, locks_of, objects_of, retired_of, size_of, is_gone, has_room, lock_at}
use Rattle.model.specs.Forms.{Request, asks_batch, asks_get, asks_put, asks_verify, asks_lock, asks_list, asks_verify_locks, asks_unlock}
use Rattle.model.specs.Heads.{Target, head_verdict}
use Rattle.model.specs.Callers.{Caller, caller_by, sees, lock_question, push_question}
use Rattle.model.specs.Cases.{Setting, Case, case_in, DeskRequest}
use Rattle.model.specs.Answers.{Grant, stores, makes_lock, offers, serves, confirms, lists, splits, releases, Answer, Denial, by_rules, by_lock, permit, may_pull, may_push, Plan, grants, sends, receives}
use Rattle.model.specs.Locks.{ref_or_default, new_lock, lock_verdict, list_verdict, verify_locks_verdict, unlock_verdict, visible_lock, release_verdict}
use Rattle.model.specs.Batch.{may_batch, batch_verdict}
use Rattle.model.specs.Pages.{cursor_in}
use Rattle.model.specs.Objects.{finish, verify_verdict}
use Rattle.model.specs.Verdict.{plan_to, plan_for, is_covered, desk_plan, desk_request, verdict, early_verdict, desk_verdict}
use Rattle.model.specs.Steps.{verdict_on, after, after_grant, denial_alone, Message, message, bad_head, repo_of, repo_asked, Exchange, exchanged, Carries, by_verdict, by_refusal, Run}
use Rattle.model.specs.Views.{View, view_of, SameViews, room_in, sees_objects, tokens_of}
use Rattle.model.specs.Laws.{OthersLeaveViews, SessionsLeaveViews}
use Rattle.model.proofs.Checks.{passed, then_any, by_rules_ok, found_ok, find_ok}
use Rattle.model.proofs.Lists.{filter_weaker, found_passes, each_of}
use Rattle.model.proofs.Refusals.{verdict_refused}
use Rattle.model.proofs.Views.{own_locks, NamedSo, entry_named}

-- ---- a grant is of the target's repository

abbrev IsIn : List ℕ → Grant → Type 0
IsIn n (makes_lock l) = l.repo ≡ n
IsIn n (releases l) = l.repo ≡ n
IsIn n (stores o) = o.repo ≡ n
IsIn n _ = ⊤

abbrev IsPlanIn : List ℕ → Plan → Type 0
IsPlanIn n (grants g) = IsIn n g
IsPlanIn n _ = ⊤

plan_in_repo : (n : List ℕ) (answer : Answer) → IfOk answer (IsIn n) → IfOk (plan_to answer) (IsPlanIn n)
plan_in_repo n answer is = passed (IsIn n) (IsPlanIn n) answer _ is (λ g good. good)

lock_in : (may : Result ⊤ Denial) (there : Option Lock) (room : Bool) (l : Lock) (n : List ℕ) → l.repo ≡ n
    → IfOk (may >>= λ _. none_or there by_lock >>= λ _. by_rules (check room rule.L5) >>= λ _. Ok (makes_lock l)) (IsIn n)
lock_in (Ok x) None true l n e = e
lock_in (Ok x) None false l n e = tt
lock_in (Ok x) (Some k) room l n e = tt
lock_in (Err d) there room l n e = tt

module _ (world : World) (setting : Setting) (caller : Caller) (repo : Repo) where
  abbrev c : Case
  c = case_in world setting caller repo

  abbrev In : Grant → Type 0
  In = IsIn repo.name

  abbrev PlanIn : Plan → Type 0
  PlanIn = IsPlanIn repo.name

  abbrev OfRepo : Lock → Type 0
  OfRepo l = l.repo ≡ repo.name

  release_in : (force : Bool) (l : Lock) → OfRepo l → IfOk (release_verdict c force l) In
  release_in force l e =
      cond_both (bytes_eq l.owner caller.user) _ _ (λ a. IfOk a In)
      (λ _. then_any In (permit setting.policy (lock_question right.Lock caller.user l) 403) _ (λ may. e))
      (λ _. then_any In (by_rules (check force rule.L3)) _ (λ forced. then_any In (permit setting.policy (lock_question right.Force caller.user l) 403) _ (λ may. e)))

  plans_in : (left : ℕ) (asked : Request) → IfOk (plan_for c left asked) PlanIn
  plans_in left (asks_lock asked) =
      plan_in_repo repo.name (lock_verdict c asked)
      (lock_in (permit setting.policy (lock_question right.Lock caller.user (new_lock c asked)) 403)
      (lock_at (ref_or_default asked.ref repo) asked.path c.state) (nat_lt (world.made repo.name) last_lock_id) (new_lock c asked) repo.name refl)
  plans_in left (asks_batch asked) = plan_in_repo repo.name (batch_verdict c asked) (then_any In (may_batch c asked asked.operation) _ (λ may. tt))
  plans_in left (asks_get name) =
      then_any PlanIn (may_pull setting.policy caller.user repo.name 404) _ (λ may.
      then_any PlanIn (by_rules (check (not (is_gone name c.state)) rule.X4)) _ (λ there.
      then_any PlanIn (by_rules (ok_or (size_of name c.state) rule.X1)) _ (λ size. tt)))
  plans_in left (asks_put asked) =
      then_any PlanIn (may_push setting.policy caller.user repo.name (ref_or_default asked.ref repo)) _ (λ may.
      then_any PlanIn (by_rules (check (not (is_gone asked.name c.state)) rule.X4)) _ (λ there.
      then_any PlanIn (by_rules (check (has_room left c.state || is_some (size_of asked.name c.state)) rule.X3)) _ (λ fits. tt)))
  plans_in left (asks_verify asked) =
      plan_in_repo repo.name (verify_verdict c asked)
      (then_any In (may_push setting.policy caller.user repo.name (ref_or_default asked.ref repo)) _ (λ may.
      then_any In (by_rules (ok_or (size_of asked.name c.state) rule.V1)) _ (λ size.
      then_any In (by_rules (check (size == asked.size) rule.V2)) _ (λ same. tt))))
  plans_in left (asks_list asked) =
      plan_in_repo repo.name (list_verdict c asked)
      (then_any In (may_pull setting.policy caller.user repo.name 403) _ (λ may. then_any In (by_rules (cursor_in asked.cursor)) _ (λ cursor. tt)))
  plans_in left (asks_verify_locks asked) =
      plan_in_repo repo.name (verify_locks_verdict c asked)
      (then_any In (permit setting.policy (push_question caller.user repo.name (ref_or_default asked.ref repo)) 403) _ (λ may.
      then_any In (by_rules (cursor_in asked.cursor)) _ (λ cursor. tt)))
  plans_in left (asks_unlock asked) =
      plan_in_repo repo.name (unlock_verdict c asked)
      (passed OfRepo In (by_rules (ok_or (visible_lock c asked.id) rule.L2)) _
      (by_rules_ok OfRepo (ok_or (visible_lock c asked.id) rule.L2)
      (found_ok OfRepo (visible_lock c asked.id) rule.L2
      (find_ok OfRepo (λ l. l.id == asked.id && sees setting.policy caller.user l) (locks_of repo.name world) (own_locks repo.name world))))
      (λ l named. release_in asked.force l named))

desk_in : (world : World) (setting : Setting) (asked : DeskRequest) → IfOk (desk_plan world setting asked) (IsPlanIn asked.repo)
desk_in world setting asked =
    let P : Plan → Type 0 = IsPlanIn asked.repo in
    let entry = repo_named asked.repo setting.policy in
    then_any P (by_rules (caller_by world setting.now asked.bearers)) _ (λ caller.
    then_any P (by_rules (check (bytes_eq caller.repo asked.repo) rule.A4)) _ (λ own.
    passed (NamedSo asked.repo) P (by_rules (ok_or entry rule.R1)) _ (by_rules_ok (NamedSo asked.repo) (ok_or entry rule.R1) (found_ok (NamedSo asked.repo) entry rule.R1 (entry_named setting.policy asked.repo entry refl))) (λ repo named.
    then_any P (by_rules asked.request) _ (λ request.
    then_any P (by_rules (check (is_covered caller request) rule.A5)) _ (λ covered.
    subst (λ (n : List ℕ). IfOk (plan_for (case_in world setting caller repo) asked.left request) (IsPlanIn n)) named (plans_in world setting caller repo asked.left request))))))

finish_in : (world : World) (name body : List ℕ) (plan : Plan) → IsPlanIn name plan → IfOk (finish world name body plan) (IsIn name)
finish_in world name body (grants g) is = is
finish_in world name body (sends oid size) is = then_any (IsIn name) (by_rules (ok_or (object_named name oid world) rule.X1)) _ (λ o. tt)
finish_in world name body (receives oid) is = then_any (IsIn name) (by_rules (check (bytes_eq oid (name_of body)) rule.X2)) _ (λ same. refl)

-- what the desk grants is in the repository that the request asks about
asked_in : (world : World) (setting : Setting) (asked : DeskRequest) (body : List ℕ) → IfOk (desk_verdict world setting asked body) (IsIn asked.repo)
asked_in world setting asked body =
    passed (IsPlanIn asked.repo) (IsIn asked.repo) (desk_plan world setting asked) _ (desk_in world setting asked) (λ plan is. finish_in world asked.repo body plan is)

verdict_in : (world : World) (setting : Setting) (head : RequestHead) (body : List ℕ) (target : Target) → head_verdict head ≡ Ok target → IfOk (verdict world setting head body) (IsIn target.repo)
unfolding verdict
verdict_in world setting head body target j =
    subst (λ (r : Result Target Rule). IfOk (by_rules r >>= λ t. desk_verdict world setting (desk_request head t body) body) (IsIn target.repo)) (sym j)
    (asked_in world setting (desk_request head target body) body)

-- ---- and leaves what others see unchanged

-- a filter drops a new element that does not pass
left_out : {A : Type 0} (q : A → Bool) (x : A) (xs : List A) → q x ≡ false → filter q (x ∷ xs) ≡ filter q xs
left_out {A = A} q x xs e = ap (λ (b : Bool). cond b (x ∷ filter q xs) (filter q xs)) e

differs : (a b n : List ℕ) → a ≡ n → bytes_eq n b ≡ false → bytes_eq a b ≡ false
differs a b n e off = ap (λ t. bytes_eq t b) e ∙ off

turned : (a b : List ℕ) → bytes_eq a b ≡ false → bytes_eq b a ≡ false
turned a b off = at (bytes_eq b a) refl
  where
    at : (v : Bool) → bytes_eq b a ≡ v → v ≡ false
    at true e = absurd (true≢false (sym ((bytes_eq-Decides a b).1 (sym ((bytes_eq-Decides b a).0 e))) ∙ off))
    at false e = refl

-- a view is unchanged if these parts of it are
abbrev view_with : World → Policy → List ℕ → List ℕ → List Lock → ℕ → ℤ → View
view_with old policy user repo locks made room = record {
  user = user;
  repo = repo;
  policy = policy;
  tokens = tokens_of user repo old;
  state = record {
    objects = cond (sees_objects policy user repo) (objects_of repo old) [];
    retired = cond (sees_objects policy user repo) (retired_of repo old) [];
    locks = filter (sees policy user) (sort_by (λ a b. nat_lt a.id b.id) locks);
    made = made;
    room = room;
  };
}

-- only objects take room
room_of_locks : (old : World) (locks : List Lock) (made : List ℕ → ℕ) (o : Option Repo) → room_in o (record old { locks = locks; made = made }) ≡ room_in o old
room_of_locks old locks made None = refl
room_of_locks old locks made (Some entry) = refl

view_lock : (old : World) (l : Lock) (policy : Policy) (user repo : List ℕ) → bytes_eq l.repo repo ≡ false → view_of (with_lock l old) policy user repo ≡ view_of old policy user repo
view_lock old l policy user repo off =
    let old_room = room_in (repo_named repo policy) old in
    ap (λ (room : ℤ). view_with old policy user repo (filter (λ (k : Lock). bytes_eq k.repo repo) (l ∷ old.locks)) (one_more l.repo old.made repo) room)
    (room_of_locks old (l ∷ old.locks) (one_more l.repo old.made) (repo_named repo policy))
    ∙ ap (λ (ls : List Lock). view_with old policy user repo ls (one_more l.repo old.made repo) old_room) (left_out (λ (k : Lock). bytes_eq k.repo repo) l old.locks off)
    ∙ ap (λ (n : ℕ). view_with old policy user repo (filter (λ (k : Lock). bytes_eq k.repo repo) old.locks) n old_room)
    (ap (λ (b : Bool). cond b (old.made repo + 1) (old.made repo)) (turned l.repo repo off))

view_free : (old : World) (l : Lock) (policy : Policy) (user repo : List ℕ) → bytes_eq l.repo repo ≡ false → view_of (without_lock l old) policy user repo ≡ view_of old policy user repo
view_free old l policy user repo off =
    let q : Lock → Bool = λ k. bytes_eq k.repo repo in
    ap (λ (room : ℤ). view_with old policy user repo (filter q (filter (λ k. not (has_id l.repo l.id k)) old.locks)) (old.made repo) room)
    (room_of_locks old (filter (λ k. not (has_id l.repo l.id k)) old.locks) old.made (repo_named repo policy))
    ∙ ap (λ (ls : List Lock). view_with old policy user repo ls (old.made repo) (room_in (repo_named repo policy) old))
    (filter_weaker q (λ k. not (has_id l.repo l.id k)) old.locks (each_of (λ k. q k ≡ true → not (has_id l.repo l.id k) ≡ true) old.locks (λ k is e.
    ap (λ (b : Bool). not (b && k.id == l.id)) (differs k.repo l.repo repo ((bytes_eq-Decides k.repo repo).0 e) (turned l.repo repo off)))))

total_same : (old : World) (o : Object) (n : List ℕ) → bytes_eq o.repo n ≡ false → total n (record old { objects = o ∷ old.objects }) ≡ total n old
total_same old o n off = ap (sum_by (λ (p : Object). length p.bytes)) (left_out (λ (p : Object). bytes_eq p.repo n) o old.objects off)

room_same : (old : World) (o : Object) (policy : Policy) (repo : List ℕ) (r : Option Repo) → repo_named repo policy ≡ r → bytes_eq o.repo repo ≡ false
    → room_in r (record old { objects = o ∷ old.objects }) ≡ room_in r old
room_same old o policy repo None e off = refl
room_same old o policy repo (Some entry) e off =
    let named : entry.name ≡ repo = (bytes_eq-Decides entry.name repo).0 (found_passes (λ (r : Repo). bytes_eq r.name repo) policy.repos entry e) in
    ap (λ (n : ℕ). pos entry.quota -ℤ pos n) (total_same old o entry.name (ap (bytes_eq o.repo) named ∙ off))

-- the same, by the objects and the room
abbrev view_by : World → Policy → List ℕ → List ℕ → List Object → ℤ → View
view_by old policy user repo objects room = record {
  user = user;
  repo = repo;
  policy = policy;
  tokens = tokens_of user repo old;
  state = record {
    objects = cond (sees_objects policy user repo) (sort_by (λ a b. text_before a.name b.name) (map object_size objects)) [];
    retired = cond (sees_objects policy user repo) (retired_of repo old) [];
    locks = filter (sees policy user) (locks_of repo old);
    made = old.made repo;
    room = room;
  };
}

view_added : (old : World) (o : Object) (policy : Policy) (user repo : List ℕ) → bytes_eq o.repo repo ≡ false
    → view_of (record old { objects = o ∷ old.objects }) policy user repo ≡ view_of old policy user repo
view_added old o policy user repo off =
    let q : Object → Bool = λ p. bytes_eq p.repo repo in
    ap (λ (os : List Object). view_by old policy user repo os (room_in (repo_named repo policy) (record old { objects = o ∷ old.objects }))) (left_out q o old.objects off)
    ∙ ap (λ (room : ℤ). view_by old policy user repo (filter q old.objects) room) (room_same old o policy repo (repo_named repo policy) refl off)

view_object : (old : World) (o : Object) (policy : Policy) (user repo : List ℕ) → bytes_eq o.repo repo ≡ false → view_of (with_object o old) policy user repo ≡ view_of old policy user repo
view_object old o policy user repo off = at (object_named o.repo o.name old)
  where
    at : (there : Option Object) → view_of (cond (is_some there) old (record old { objects = o ∷ old.objects })) policy user repo ≡ view_of old policy user repo
    at (Some p) = refl
    at None = view_added old o policy user repo off

view_grant : (old : World) (g : Grant) (policy : Policy) (user repo n : List ℕ) → IsIn n g → bytes_eq n repo ≡ false → view_of (after_grant old g) policy user repo ≡ view_of old policy user repo
view_grant old (makes_lock l) policy user repo n is off = view_lock old l policy user repo (differs l.repo repo n is off)
view_grant old (releases l) policy user repo n is off = view_free old l policy user repo (differs l.repo repo n is off)
view_grant old (stores o) policy user repo n is off = view_object old o policy user repo (differs o.repo repo n is off)
view_grant old (serves o) policy user repo n is off = refl
view_grant old (offers some) policy user repo n is off = refl
view_grant old confirms policy user repo n is off = refl
view_grant old (lists page) policy user repo n is off = refl
view_grant old (splits who page) policy user repo n is off = refl

view_after : (old : World) (answer : Answer) (policy : Policy) (user repo n : List ℕ) → IfOk answer (IsIn n) → bytes_eq n repo ≡ false → view_of (after old (Some answer)) policy user repo ≡ view_of old policy user repo
view_after old (Ok g) policy user repo n is off = view_grant old g policy user repo n is off
view_after old (Err d) policy user repo n is off = refl

-- a request to the desk leaves the view of any other repository unchanged
pub desk_leaves_views : (old : World) (setting : Setting) (asked : DeskRequest) (body : List ℕ) (policy : Policy) (user repo : List ℕ) → bytes_eq asked.repo repo ≡ false
    → view_of (after old (Some (desk_verdict old setting asked body))) policy user repo ≡ view_of old policy user repo
desk_leaves_views old setting asked body policy user repo off = view_after old (desk_verdict old setting asked body) policy user repo asked.repo (asked_in old setting asked body) off

-- a denial leaves the world unchanged
denied : {A : Type 0} (old : World) (r : Result A Denial) → after old (denial_alone r) ≡ old
denied old (Ok x) = refl
denied old (Err d) = refl

-- texts that differ have different bytes
pub differ_by_bytes : (a b : List ℕ) → a ≢ b → bytes_eq a b ≡ false
differ_by_bytes a b differ = at (bytes_eq a b) refl
  where
    at : (v : Bool) → bytes_eq a b ≡ v → v ≡ false
    at true e = absurd (differ ((bytes_eq-Decides a b).0 e))
    at false e = refl

module _ (old : World) (setting : Setting) (repo : List ℕ) (policy : Policy) (user : List ℕ) where
  view_verdict : (asked : Message) → repo_asked asked ≢ Some repo
      → view_of (after old (verdict_on old setting asked)) policy user repo ≡ view_of old policy user repo
  view_verdict (message head body true) off = at (head_verdict head) refl
    where
      at : (r : Result Target Rule) → head_verdict head ≡ r
          → view_of (after old (Some (verdict old setting head body))) policy user repo ≡ view_of old policy user repo
      at (Err e) j = ap (λ (a : Answer). view_of (after old (Some a)) policy user repo) (verdict_refused old setting head body e j)
      at (Ok target) j =
          view_after old (verdict old setting head body) policy user repo target.repo (verdict_in old setting head body target j)
          (differ_by_bytes target.repo repo (λ same. off (ap repo_of j ∙ ap (λ (n : List ℕ). Some n) same)))
  view_verdict (message head body false) off = ap (λ (w : World). view_of w policy user repo) (denied old (early_verdict old setting head))
  view_verdict bad_head off = refl

view_step : (old : World) (e : Exchange) (new : World) (repo : List ℕ) → Carries old e new → repo_asked e.asked ≢ Some repo → SameViews repo old new
view_step old e new repo (by_refusal given sure is) off policy user = ap (λ (w : World). view_of w policy user repo) is
view_step old e new repo (by_verdict given is) off policy user =
    ap (λ (w : World). view_of w policy user repo) is ∙ view_verdict old e.setting repo policy user e.asked off

pub others_leave_views : OthersLeaveViews
others_leave_views old e new repo step off = view_step old e new repo step.carries off

views_stay : (old : World) (exchanges : List Exchange) (new : World) (repo : List ℕ) → Run old (map exchanged exchanges) new
    → AllByRecursion (λ e. repo_asked e.asked ≢ Some repo) exchanges → SameViews repo old new
views_stay old [] new repo run off policy user = ap (λ (w : World). view_of w policy user repo) run
views_stay old (e ∷ exchanges) new repo run off policy user =
    views_stay run.0 exchanges new repo run.2 off.1 policy user ∙ view_step old e run.0 repo run.1.carries off.0 policy user

pub sessions_leave_views : SessionsLeaveViews
sessions_leave_views old exchanges new repo run none =
    views_stay old exchanges new repo run (recursion_from_All (λ e. repo_asked e.asked ≢ Some repo) exchanges none)
