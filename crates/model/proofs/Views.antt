-- A view determines the replies.
use Rattle.std.proofs.Common.{◌≡◌, ℕ, Bool, true, false, not, ◌||◌, ◌&&◌, nat_lt, List, [], ◌∷◌, length, filter, map, refl, sym, ap, subst, ◌∙◌, arith, Result, Ok, Err, Option, Some, None, find, bytes_eq, cond, suc, option_map, IfOk, IfSome, is_some}
use Rattle.std.specs.Bool.{⊤}
use Rattle.std.specs.List.{AllByRecursion, AllPairs}
use Rattle.std.proofs.lemmas.List.Elements.{recursion_from_All, All-from_recursion}
use Rattle.std.proofs.lemmas.Bool.{and_from}
use Rattle.std.proofs.lemmas.Option.{none-some, same_Some}
use Rattle.std.proofs.lemmas.Slice.Eq.{bytes_eq-Decides}
use Rattle.sha2.specs.Sha256.{sha256}
use Rattle.names.specs.declared.rules.Rule.{Rule}
use Rattle.names.specs.declared.rules.Rule.TheVariants as rule
use Rattle.model.specs.Reading.{◌>>=◌, check, ok_or}
use Rattle.model.specs.Orders.{text_before}
use Rattle.model.specs.Policy.{Policy, Repo, repo_named}
use Rattle.model.specs.World.{World, Object, Lock, Token, IsWorld, DiffersInDigest, DiffersInName, object_named, find_token}
use Rattle.model.specs.RepoState.{RepoState, ObjectSize, object_size, repo_state, size_of, is_gone, has_room, objects_of, retired_of, locks_of}
use Rattle.model.specs.Forms.{Request, asks_batch, asks_get, asks_put, asks_verify, asks_lock, asks_list, asks_verify_locks, asks_unlock}
use Rattle.model.specs.Callers.{Caller, bearer, caller_by, sees}
use Rattle.model.specs.Cases.{Setting, Case, case_in, DeskRequest}
use Rattle.model.specs.Answers.{Denial, by_rules, Answer, Plan, grants, sends, receives, serves, may_pull, may_push}
use Rattle.model.specs.Objects.{finish, verify_verdict}
use Rattle.model.specs.Locks.{ref_or_default, lock_verdict, list_verdict, verify_locks_verdict, unlock_verdict}
use Rattle.model.specs.Batch.{batch_verdict}
use Rattle.model.specs.Verdict.{plan_to, plan_for, is_covered, caller_plan, desk_verdict}
use Rattle.model.specs.Replies.{Reply, reply, content, reply_of}
use Rattle.model.specs.Views.{OwnToken, own_token, is_issued_to, tokens_of, view_of, room_in, NoCaller, no_caller, caller_in, CallerRequest, to_desk, plan_reply, plan_in, foresee, sees_objects}
use Rattle.model.specs.Laws.{ViewsForetell, ViewsShowWhatIsSeen}
use Rattle.model.proofs.Lists.{IsOnly, only_filter, only_map, find_rising, find_map, find_filter, find_and, found_passes, only_left, each_rising, each_weaker, each_passes}
use Rattle.model.proofs.Checks.{passed, then_any, by_rules_ok, found_ok}
use Rattle.model.proofs.Tests.{both_true}
use Rattle.model.proofs.Once.{only_of}
use Rattle.model.proofs.Seen.{same_plan}

-- ---- the caller

abbrev pub caller_as : List ℕ → Token → Caller
caller_as text i = record { token = text; user = i.user; repo = i.repo; operation = i.operation; expires = i.expires }

-- the facts about a caller in the world
pub record Known (world : World) (now : ℕ) (values : List (List ℕ)) (caller : Caller) : Type 0 where
  pub text : List ℕ
  pub held : Token
  pub bears : bearer values ≡ Some text
  pub present : find_token text world ≡ Some held
  pub good : nat_lt now held.expires ≡ true
  pub is : caller_as text held ≡ caller

abbrev or_caller : Caller → Result Caller Rule → Caller
or_caller c (Ok x) = x
or_caller c (Err e) = c

known_good : (world : World) (now : ℕ) (values : List (List ℕ)) (caller : Caller) (text : List ℕ) (i : Token) (v : Bool)
    → bearer values ≡ Some text → find_token text world ≡ Some i → nat_lt now i.expires ≡ v
    → (check {E = Rule} v rule.A3 >>= λ good. Ok (caller_as text i)) ≡ Ok caller → Known world now values caller
known_good world now values caller text i true b s g h = record { text = text; held = i; bears = b; present = s; good = g; is = ap (or_caller caller) h }
known_good world now values caller text i false b s g h = absurd (cc)

known_issued : (world : World) (now : ℕ) (values : List (List ℕ)) (caller : Caller) (text : List ℕ) (o : Option Token) → bearer values ≡ Some text → find_token text world ≡ o
    → (ok_or {E = Rule} o rule.A2 >>= λ i. check (nat_lt now i.expires) rule.A3 >>= λ good. Ok (caller_as text i)) ≡ Ok caller → Known world now values caller
known_issued world now values caller text (Some i) b s h = known_good world now values caller text i (nat_lt now i.expires) b s refl h
known_issued world now values caller text None b s h = absurd (cc)

known_bearer : (world : World) (now : ℕ) (values : List (List ℕ)) (caller : Caller) (o : Option (List ℕ)) → bearer values ≡ o
    → (ok_or {E = Rule} o rule.A1 >>= λ text. ok_or (find_token text world) rule.A2 >>= λ i. check (nat_lt now i.expires) rule.A3 >>= λ good. Ok (caller_as text i)) ≡ Ok caller → Known world now values caller
known_bearer world now values caller (Some text) b h = known_issued world now values caller text (find_token text world) b refl h
known_bearer world now values caller None b h = absurd (cc)

known : (world : World) (now : ℕ) (values : List (List ℕ)) (caller : Caller) → caller_by world now values ≡ Ok caller → Known world now values caller
known world now values caller h = known_bearer world now values caller (bearer values) refl h

itself : (text : List ℕ) → bytes_eq text text ≡ true
itself text = (bytes_eq-Decides text text).1 refl

-- the caller's token is in the view
token_there : (world : World) (text : List ℕ) (i : Token) → IsWorld world → find_token text world ≡ Some i
    → find (λ (t : OwnToken). bytes_eq t.digest (sha256 text)) (tokens_of i.user i.repo world) ≡ Some (own_token i)
token_there world text i w present =
    let p : OwnToken → Bool = λ t. bytes_eq t.digest (sha256 text) in
    let same : Token → Bool = λ j. bytes_eq (sha256 j.text) (sha256 text) in
    let q : Token → Bool = is_issued_to i.user i.repo in
    let apart : (x y : Token) → DiffersInDigest x y → same x ≡ true → same y ≡ true → ⊥ = λ x y differ a b.
    differ ((bytes_eq-Decides (sha256 x.text) (sha256 text)).0 a ∙ sym ((bytes_eq-Decides (sha256 y.text) (sha256 text)).0 b)) in
    find_rising (λ (a b : OwnToken). text_before a.digest b.digest) p (map own_token (filter q world.tokens))
    (only_map p own_token (filter q world.tokens) (only_filter same q world.tokens (only_of DiffersInDigest same world.tokens apart w.digests)))
    ∙ find_map p own_token (filter q world.tokens)
    ∙ ap (option_map own_token) (find_filter same q world.tokens ∙ find_and same q world.tokens i present (and_from _ _ (itself i.user) (itself i.repo)))

caller_there : (world : World) (policy : Policy) (now : ℕ) (bearers : List (List ℕ)) (text : List ℕ) (i : Token) → IsWorld world
    → bearer bearers ≡ Some text → find_token text world ≡ Some i → nat_lt now i.expires ≡ true
    → caller_in (view_of world policy i.user i.repo) now bearers ≡ Ok (caller_as text i)
caller_there world policy now bearers text i w b present good =
    let tokens = tokens_of i.user i.repo world in
    let made : List ℕ → OwnToken → Caller = λ t token. record { token = t; user = i.user; repo = i.repo; operation = token.operation; expires = token.expires } in
    ap (λ (o : Option (List ℕ)). ok_or {E = NoCaller} o no_caller >>= λ t. ok_or (find (λ (k : OwnToken). bytes_eq k.digest (sha256 t)) tokens) no_caller >>= λ token. check (nat_lt now token.expires) no_caller >>= λ good. Ok (made t token)) b
    ∙ ap (λ (o : Option OwnToken). ok_or {E = NoCaller} o no_caller >>= λ token. check (nat_lt now token.expires) no_caller >>= λ good. Ok (made text token)) (token_there world text i w present)
    ∙ ap (λ (v : Bool). check {E = NoCaller} v no_caller >>= λ good. Ok (caller_as text i)) good

-- ---- the plan

pub own_locks : (repo : List ℕ) (world : World) → AllByRecursion (λ (l : Lock). l.repo ≡ repo) (locks_of repo world)
own_locks repo world =
    let q : Lock → Bool = λ l. bytes_eq l.repo repo in
    each_rising (λ (l : Lock). l.repo ≡ repo) (λ (a b : Lock). nat_lt a.id b.id) (filter q world.locks)
    (each_weaker (λ l. q l ≡ true) (λ l. l.repo ≡ repo) (filter q world.locks) (λ l e. (bytes_eq-Decides l.repo repo).0 e) (each_passes q world.locks))

module _ (world : World) (setting : Setting) (caller : Caller) (left : ℕ) (request : Request) where
  -- the part of the repository of this name that the caller sees, if this is the policy's entry
  abbrev seen_as : List ℕ → Option Repo → RepoState
  seen_as name entry = record {
    objects = cond (sees_objects setting.policy caller.user name) (objects_of name world) [];
    retired = cond (sees_objects setting.policy caller.user name) (retired_of name world) [];
    locks = filter (sees setting.policy caller.user) (locks_of name world);
    made = world.made name;
    room = room_in entry world;
  }

  abbrev with_state : Repo → RepoState → Case
  with_state repo state = record { setting = setting; caller = caller; repo = repo; state = state }

  abbrev then_covered : Result Plan Denial → Result Plan Denial
  then_covered plan = by_rules (check (is_covered caller request) rule.A5) >>= λ covered. plan

  same_state : (repo : Repo) → repo.name ≡ caller.repo
      → plan_for (with_state repo (seen_as caller.repo (Some repo))) left request ≡ plan_for (case_in world setting caller repo) left request
  same_state repo named =
      subst (λ (n : List ℕ). plan_for (with_state repo (seen_as n (Some repo))) left request ≡ plan_for (case_in world setting caller repo) left request) named
      (same_plan setting caller repo (objects_of repo.name world) (retired_of repo.name world) (locks_of repo.name world) (world.made repo.name) (room_in (Some repo) world) (own_locks repo.name world) left request)

  same_entry : (entry : Option Repo) → repo_named caller.repo setting.policy ≡ entry
      → (by_rules (ok_or entry rule.R1) >>= λ repo. then_covered (plan_for (with_state repo (seen_as caller.repo entry)) left request))
      ≡ (by_rules (ok_or entry rule.R1) >>= λ repo. then_covered (plan_for (case_in world setting caller repo) left request))
  same_entry None e = refl
  same_entry (Some repo) e =
      ap then_covered
      (same_state repo ((bytes_eq-Decides repo.name caller.repo).0 (found_passes (λ (r : Repo). bytes_eq r.name caller.repo) setting.policy.repos repo e)))

same_request : (world : World) (setting : Setting) (caller : Caller) (asked : CallerRequest)
    → plan_in (view_of world setting.policy caller.user caller.repo) setting.now caller asked ≡ caller_plan world setting caller (to_desk caller.repo asked)
same_request world setting caller asked =
    same_entry world setting caller (length asked.body) asked.request (repo_named caller.repo setting.policy) refl
    ∙ ap (λ (b : Bool). by_rules (check b rule.A4) >>= λ own. by_rules (ok_or (repo_named caller.repo setting.policy) rule.R1) >>= λ repo. by_rules (check (is_covered caller asked.request) rule.A5) >>= λ covered. plan_for (case_in world setting caller repo) (length asked.body) asked.request)
    (sym (itself caller.repo))

-- ---- the reply

-- a content that is sent is stored, with this name and this size
pub record IsStored (world : World) (repo name : List ℕ) (size : ℕ) : Type 0 where
  pub object : Object
  pub present : object_named repo name world ≡ Some object
  pub named : object.name ≡ name
  pub sized_so : length object.bytes ≡ size

abbrev Stored : World → List ℕ → Plan → Type 0
Stored world repo (grants g) = ⊤
Stored world repo (sends name size) = IsStored world repo name size
Stored world repo (receives name) = ⊤

stored_object : (world : World) (repo name : List ℕ) (size : ℕ) (o : Option Object) → object_named repo name world ≡ o → option_map (λ (s : ObjectSize). s.size) (option_map object_size o) ≡ Some size → IsStored world repo name size
stored_object world repo name size None e h = absurd (none-some size h)
stored_object world repo name size (Some o) e h = record {
  object = o;
  present = e;
  named = (bytes_eq-Decides o.name name).0 (both_true (bytes_eq o.repo repo) (bytes_eq o.name name) (found_passes (λ (p : Object). bytes_eq p.repo repo && bytes_eq p.name name) world.objects o e)).1;
  sized_so = same_Some (length o.bytes) size h;
}

pub size_stored : (world : World) (repo : Repo) (name : List ℕ) → IsWorld world → size_of name (repo_state repo world) ≡ option_map (λ (s : ObjectSize). s.size) (option_map object_size (object_named repo.name name world))
size_stored world repo name w =
    let p : ObjectSize → Bool = λ s. bytes_eq s.name name in
    let named : Object → Bool = λ o. bytes_eq o.name name in
    let q : Object → Bool = λ o. bytes_eq o.repo repo.name in
    let apart : (x y : Object) → DiffersInName x y → (q x && named x) ≡ true → (q y && named y) ≡ true → ⊥ = λ x y differ a b.
    let at_x = both_true (q x) (named x) a in let at_y = both_true (q y) (named y) b in
    differ ((bytes_eq-Decides x.repo repo.name).0 at_x.0 ∙ sym ((bytes_eq-Decides y.repo repo.name).0 at_y.0)) ((bytes_eq-Decides x.name name).0 at_x.1 ∙ sym ((bytes_eq-Decides y.name name).0 at_y.1)) in
    ap (option_map (λ (s : ObjectSize). s.size))
    (find_rising (λ (a b : ObjectSize). text_before a.name b.name) p (map object_size (filter q world.objects))
    (only_map p object_size (filter q world.objects) (only_left named q world.objects (only_of DiffersInName (λ o. q o && named o) world.objects apart w.names)))
    ∙ find_map p object_size (filter q world.objects)
    ∙ ap (option_map object_size) (find_filter named q world.objects))

abbrev get_chain : List ℕ → Option ℕ → Result Plan Denial
get_chain name o = by_rules (ok_or o rule.X1) >>= λ size. Ok (sends name size)

get_stored : (world : World) (repo : Repo) (name : List ℕ) (o : Option ℕ) → IsWorld world → size_of name (repo_state repo world) ≡ o → IfOk (get_chain name o) (Stored world repo.name)
get_stored world repo name None w e = tt
get_stored world repo name (Some size) w e = stored_object world repo.name name size (object_named repo.name name world) refl (sym (size_stored world repo name w) ∙ e)

plan_stored : (world : World) (repo : List ℕ) (answer : Answer) → IfOk (plan_to answer) (Stored world repo)
plan_stored world repo (Ok g) = tt
plan_stored world repo (Err d) = tt

plans_stored : (world : World) (setting : Setting) (caller : Caller) (repo : Repo) (left : ℕ) (asked : Request) → IsWorld world
    → IfOk (plan_for (case_in world setting caller repo) left asked) (Stored world repo.name)
plans_stored world setting caller repo left (asks_batch asked) w = plan_stored world repo.name (batch_verdict (case_in world setting caller repo) asked)
plans_stored world setting caller repo left (asks_get name) w =
    then_any (Stored world repo.name) (may_pull setting.policy caller.user repo.name 404) _ (λ may.
    then_any (Stored world repo.name) (by_rules (check (not (is_gone name (repo_state repo world))) rule.X4)) _ (λ there. get_stored world repo name (size_of name (repo_state repo world)) w refl))
plans_stored world setting caller repo left (asks_put asked) w =
    then_any (Stored world repo.name) (may_push setting.policy caller.user repo.name (ref_or_default asked.ref repo)) _ (λ may.
    then_any (Stored world repo.name) (by_rules (check (not (is_gone asked.name (repo_state repo world))) rule.X4)) _ (λ there.
    then_any (Stored world repo.name) (by_rules (check (has_room left (repo_state repo world) || is_some (size_of asked.name (repo_state repo world))) rule.X3)) _ (λ fits. tt)))
plans_stored world setting caller repo left (asks_verify asked) w = plan_stored world repo.name (verify_verdict (case_in world setting caller repo) asked)
plans_stored world setting caller repo left (asks_lock asked) w = plan_stored world repo.name (lock_verdict (case_in world setting caller repo) asked)
plans_stored world setting caller repo left (asks_list asked) w = plan_stored world repo.name (list_verdict (case_in world setting caller repo) asked)
plans_stored world setting caller repo left (asks_verify_locks asked) w = plan_stored world repo.name (verify_locks_verdict (case_in world setting caller repo) asked)
plans_stored world setting caller repo left (asks_unlock asked) w = plan_stored world repo.name (unlock_verdict (case_in world setting caller repo) asked)

abbrev pub NamedSo : List ℕ → Repo → Type 0
NamedSo name repo = repo.name ≡ name

pub entry_named : (policy : Policy) (name : List ℕ) (o : Option Repo) → repo_named name policy ≡ o → IfSome o (NamedSo name)
entry_named policy name None e = tt
entry_named policy name (Some repo) e = (bytes_eq-Decides repo.name name).0 (found_passes (λ (r : Repo). bytes_eq r.name name) policy.repos repo e)

caller_stored : (world : World) (setting : Setting) (caller : Caller) (asked : DeskRequest) → IsWorld world
    → IfOk (caller_plan world setting caller asked) (Stored world asked.repo)
caller_stored world setting caller asked w =
    let P : Plan → Type 0 = Stored world asked.repo in
    then_any P (by_rules (check (bytes_eq caller.repo asked.repo) rule.A4)) _ (λ own.
    passed (NamedSo asked.repo) P (by_rules (ok_or (repo_named asked.repo setting.policy) rule.R1)) _ (by_rules_ok (NamedSo asked.repo) (ok_or (repo_named asked.repo setting.policy) rule.R1) (found_ok (NamedSo asked.repo) (repo_named asked.repo setting.policy) rule.R1 (entry_named setting.policy asked.repo (repo_named asked.repo setting.policy) refl))) (λ repo named.
    then_any P (by_rules asked.request) _ (λ request.
    then_any P (by_rules (check (is_covered caller request) rule.A5)) _ (λ covered.
    subst (λ (n : List ℕ). IfOk (plan_for (case_in world setting caller repo) asked.left request) (Stored world n)) named (plans_stored world setting caller repo asked.left request w)))))

same_content : (o : Object) (name : List ℕ) (size : ℕ) → o.name ≡ name → length o.bytes ≡ size → reply 200 (content name size) ≡ reply_of (Ok (serves o))
same_content o name size n s = ap (λ k. reply 200 (content k size)) (sym n) ∙ ap (λ k. reply 200 (content o.name k)) (sym s)

-- the reply to a plan is the reply to the answer that it leads to
same_reply : (world : World) (repo body : List ℕ) (r : Result Plan Denial) → IfOk r (Stored world repo) → plan_reply repo body r ≡ reply_of (r >>= λ plan. finish world repo body plan)
same_reply world repo body (Err d) is = refl
same_reply world repo body (Ok (grants g)) is = refl
same_reply world repo body (Ok (receives name)) is = refl
same_reply world repo body (Ok (sends name size)) is =
    same_content is.object name size is.named is.sized_so
    ∙ ap (λ (o : Option Object). reply_of (by_rules (ok_or o rule.X1) >>= λ p. Ok (serves p))) (sym is.present)

view_decides : (world : World) (setting : Setting) (c : Caller) (asked : CallerRequest) → IsWorld world
    → caller_in (view_of world setting.policy c.user c.repo) setting.now asked.bearers ≡ Ok c → caller_by world setting.now asked.bearers ≡ Ok c
    → foresee (view_of world setting.policy c.user c.repo) setting.now asked ≡ Ok (reply_of (desk_verdict world setting (to_desk c.repo asked) asked.body))
view_decides world setting c asked w there here =
    let view = view_of world setting.policy c.user c.repo in
    let tell : Reply → Result Reply NoCaller = λ r. Ok r in
    ap (λ (r : Result Caller NoCaller). r >>= λ caller. Ok (plan_reply c.repo asked.body (plan_in view setting.now caller asked))) there
    ∙ ap tell (
    ap (plan_reply c.repo asked.body) (same_request world setting c asked)
    ∙ same_reply world c.repo asked.body (caller_plan world setting c (to_desk c.repo asked)) (caller_stored world setting c (to_desk c.repo asked) w)
    ∙ sym (ap (λ (r : Result Caller Rule). reply_of (by_rules r >>= (λ caller. caller_plan world setting caller (to_desk c.repo asked)) >>= λ plan. finish world c.repo asked.body plan)) here))

pub views_foretell : ViewsForetell
views_foretell world setting caller asked w h =
    let k = known world setting.now asked.bearers caller h in
    view_decides world setting caller asked w
    (subst (λ (c : Caller). caller_in (view_of world setting.policy c.user c.repo) setting.now asked.bearers ≡ Ok c) k.is (caller_there world setting.policy setting.now asked.bearers k.text k.held w k.bears k.present k.good)) h

-- ---- what a view shows

hidden : {A : Type 0} (v : Bool) (xs : List A) → v ≡ false → cond v xs [] ≡ []
hidden v xs e = ap (λ (b : Bool). cond b xs []) e

pub views_show_what_is_seen : ViewsShowWhatIsSeen
views_show_what_is_seen world policy user repo = record {
  locks = All-from_recursion (λ (l : Lock). sees policy user l ≡ true) (filter (sees policy user) (locks_of repo world)) (each_passes (sees policy user) (locks_of repo world));
  objects = λ e. (hidden (sees_objects policy user repo) (objects_of repo world) e, hidden (sees_objects policy user repo) (retired_of repo world) e);
}
