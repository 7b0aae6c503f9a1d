-- The replies to a user do not depend on what the user does not see.
use Rattle.std.proofs.Common.{◌≡◌, ℕ, ◌+◌, Bool, true, false, not, ◌||◌, ◌&&◌, nat_lt, List, [], ◌∷◌, filter, refl, sym, ap, ◌∙◌, Result, Ok, Err, Option, Some, bytes_eq, cond, IsTrue, ◌==◌, is_some}
use Rattle.std.specs.Prelude.{ℤ}
use Rattle.std.specs.Bool.{⊤}
use Rattle.std.specs.List.{AllByRecursion, list_any}
use Rattle.std.proofs.lemmas.Bool.{and_from, true≢false}
use Rattle.std.proofs.lemmas.Slice.Eq.{bytes_eq-Decides}
use Rattle.names.specs.Texts.{last_lock_id}
use Rattle.names.specs.declared.rules.Rule.TheVariants as rule
use Rattle.model.specs.declared.Right.{Right}
use Rattle.model.specs.declared.Right.TheVariants as right
use Rattle.model.specs.declared.Effect.{Effect}
use Rattle.model.specs.declared.Effect.TheVariants as effect
use Rattle.names.specs.declared.operations.Operation.{Operation}
use Rattle.names.specs.declared.operations.Operation.TheVariants as operation
use Rattle.model.specs.Reading.{◌>>=◌, check, ok_or, none_or}
use Rattle.model.specs.Policy.{Policy, Repo, Row, Question, Decision, allowed, denied, decide, decision_by, decide_from, matches}
use Rattle.model.specs.World.{Lock}
use Rattle.model.specs.RepoState.{RepoState, ObjectSize, size_of, is_gone, has_room}
use Rattle.model.specs.Forms.{BatchForm, PutForm, VerifyForm, LockForm, ListForm, VerifyLocksForm, UnlockForm, Request, asks_batch, asks_get, asks_put, asks_verify, asks_lock, asks_list, asks_verify_locks, asks_unlock}
use Rattle.model.specs.Callers.{Caller, pull_question, push_question, lock_question, is_allowed, is_own, may_list, sees}
use Rattle.model.specs.Cases.{Setting, Case}
use Rattle.model.specs.Answers.{Answer, sends, receives, offers, confirms, makes_lock, lists, splits, Offer, by_lock, permit, permit_by, may_pull, may_push, hiding_status, by_rules}
use Rattle.model.specs.Locks.{ref_or_default, lock_verdict, new_lock, list_verdict, meets, verify_locks_verdict, unlock_verdict, release_verdict}
use Rattle.model.specs.Objects.{get_verdict, put_verdict, verify_verdict}
use Rattle.model.specs.Batch.{batch_verdict, may_batch, offers_for}
use Rattle.model.specs.Pages.{cursor_in, page_limit, page_of}
use Rattle.model.specs.Verdict.{plan_for, plan_to}
use Rattle.model.specs.Views.{sees_objects, may_allow_push, is_allow}
use Rattle.model.proofs.Tests.{both_true}
use Rattle.model.proofs.Lists.{filter_weaker, find_weaker, each_weaker}

-- ---- chains with the same result

same_then : {A B E : Type 0} (r : Result A E) (f g : A → Result B E) → ((x : A) → r ≡ Ok x → f x ≡ g x) → (r >>= f) ≡ (r >>= g)
same_then (Ok x) f g same = same x refl
same_then (Err e) f g same = refl

or_left : (a b : Bool) → a ≡ true → (a || b) ≡ true
or_left true b e = refl
or_left false b e = absurd (true≢false (sym e))

or_right : (a b : Bool) → b ≡ true → (a || b) ≡ true
or_right true b e = refl
or_right false b e = e

-- ---- what the policy allows

permit_is : (d : Decision) (r : Right) (status : ℕ) (x : ⊤) → permit_by d r status ≡ Ok x → is_allowed d ≡ true
permit_is (allowed n) r status x e = refl
permit_is (denied n) r status x e = absurd (cc)

decision_allows : (e : Effect) (n : ℕ) → is_allowed (decision_by e n) ≡ true → is_allow e ≡ true
decision_allows effect.Allow n h = refl
decision_allows effect.Deny n h = absurd (true≢false (sym h))

-- a row that allows a push to a ref may allow some push
row_may_push : (user repo ref : List ℕ) (row : Row) → IsTrue (matches row (push_question user repo ref)) → is_allow row.effect ≡ true → may_allow_push user repo row ≡ true
row_may_push user repo ref row m a =
    let first4 = both_true _ _ m in let first3 = both_true _ _ first4.0 in let first2 = both_true _ _ first3.0 in let both = both_true _ _ first2.0 in
    and_from _ _ (and_from _ _ (and_from _ _ a both.0) both.1) first4.1

rows_may_push : (user repo ref : List ℕ) (n : ℕ) (rows : List Row) → is_allowed (decide_from n rows (push_question user repo ref)) ≡ true
    → list_any (may_allow_push user repo) rows ≡ true
rows_may_push user repo ref n [] e = absurd (true≢false (sym e))
rows_may_push user repo ref n (row ∷ rows) e = at (matches row (push_question user repo ref)) refl (rows_may_push user repo ref (n + 1) rows) e
  where
    at : (v : Bool) → matches row (push_question user repo ref) ≡ v
        → (is_allowed (decide_from (n + 1) rows (push_question user repo ref)) ≡ true → list_any (may_allow_push user repo) rows ≡ true)
        → is_allowed (cond v (decision_by row.effect n) (decide_from (n + 1) rows (push_question user repo ref))) ≡ true
        → (may_allow_push user repo row || list_any (may_allow_push user repo) rows) ≡ true
    at true m rest h = or_left (may_allow_push user repo row) (list_any (may_allow_push user repo) rows) (row_may_push user repo ref row m (decision_allows row.effect n h))
    at false m rest h = or_right (may_allow_push user repo row) (list_any (may_allow_push user repo) rows) (rest h)

pull_shows : (policy : Policy) (user repo : List ℕ) (status : ℕ) (x : ⊤) → may_pull policy user repo status ≡ Ok x → sees_objects policy user repo ≡ true
pull_shows policy user repo status x e =
    or_left (is_allowed (decide policy (pull_question user repo))) (list_any (may_allow_push user repo) policy.rows) (permit_is (decide policy (pull_question user repo)) right.Pull status x e)

push_shows : (policy : Policy) (user repo ref : List ℕ) (x : ⊤) → may_push policy user repo ref ≡ Ok x → sees_objects policy user repo ≡ true
push_shows policy user repo ref x e =
    or_right (is_allowed (decide policy (pull_question user repo))) (list_any (may_allow_push user repo) policy.rows)
    (rows_may_push user repo ref 1 policy.rows (permit_is (decide policy (push_question user repo ref)) right.Push (hiding_status (decide policy (pull_question user repo))) x e))

-- ---- the verdicts

module _ (setting : Setting) (caller : Caller) (repo : Repo) (objects : List ObjectSize) (retired : List (List ℕ)) (locks : List Lock) (made : ℕ) (room : ℤ)
    (own : AllByRecursion (λ (l : Lock). l.repo ≡ repo.name) locks) where
  abbrev policy : Policy
  policy = setting.policy

  abbrev user : List ℕ
  user = caller.user

  abbrev at_state : RepoState → Case
  at_state state = record { setting = setting; caller = caller; repo = repo; state = state }

  abbrev pub whole : RepoState
  whole = record { objects = objects; retired = retired; locks = locks; made = made; room = room }

  -- the visible part of the state, with the objects and the retired names or without
  abbrev seen_if : Bool → RepoState
  seen_if all = record { objects = cond all objects []; retired = cond all retired []; locks = filter (sees policy user) locks; made = made; room = room }

  abbrev pub seen : RepoState
  seen = seen_if (sees_objects policy user repo.name)

  abbrev here : Case
  here = at_state seen

  abbrev there : Case
  there = at_state whole

  batch_shows : (asked : BatchForm) (op : Operation) (x : ⊤) → may_batch there asked op ≡ Ok x → sees_objects policy user repo.name ≡ true
  batch_shows asked operation.Download x e = pull_shows policy user repo.name 404 x e
  batch_shows asked operation.Upload x e = push_shows policy user repo.name (ref_or_default asked.ref repo) x e

  same_offers : (asked : BatchForm) (op : Operation) → sees_objects policy user repo.name ≡ true → offers_for here asked op ≡ offers_for there asked op
  same_offers asked operation.Download e = ap (λ (all : Bool). offers_for (at_state (seen_if all)) asked operation.Download) e
  same_offers asked operation.Upload e = ap (λ (all : Bool). offers_for (at_state (seen_if all)) asked operation.Upload) e

  same_batch : (asked : BatchForm) → batch_verdict here asked ≡ batch_verdict there asked
  same_batch asked =
      let given_is : List Offer → Answer = λ some. Ok (offers some) in
      same_then (may_batch there asked asked.operation) _ _ (λ x e.
      ap given_is (same_offers asked asked.operation (batch_shows asked asked.operation x e)))

  same_get : (name : List ℕ) → get_verdict here name ≡ get_verdict there name
  same_get name =
      same_then (may_pull policy user repo.name 404) _ _ (λ x e.
      ap (λ (all : Bool). by_rules (check (not (is_gone name (seen_if all))) rule.X4) >>= λ there. by_rules (ok_or (size_of name (seen_if all)) rule.X1) >>= λ size. Ok (sends name size)) (pull_shows policy user repo.name 404 x e))

  same_put : (left : ℕ) (asked : PutForm) → put_verdict here left asked ≡ put_verdict there left asked
  same_put left asked =
      same_then (may_push policy user repo.name (ref_or_default asked.ref repo)) _ _ (λ x e.
      ap (λ (all : Bool). by_rules (check (not (is_gone asked.name (seen_if all))) rule.X4) >>= λ there. by_rules (check (has_room left (seen_if all) || is_some (size_of asked.name (seen_if all))) rule.X3) >>= λ fits. Ok (receives asked.name))
      (push_shows policy user repo.name (ref_or_default asked.ref repo) x e))

  same_verify : (asked : VerifyForm) → verify_verdict here asked ≡ verify_verdict there asked
  same_verify asked =
      same_then (may_push policy user repo.name (ref_or_default asked.ref repo)) _ _ (λ x e.
      ap (λ (all : Bool). by_rules (ok_or (size_of asked.name (seen_if all)) rule.V1) >>= λ size. by_rules (check (size == asked.size) rule.V2) >>= λ same. Ok confirms)
      (push_shows policy user repo.name (ref_or_default asked.ref repo) x e))

  -- the question on a lock in this place
  abbrev place_question : Right → List ℕ → List ℕ → List ℕ → Question
  place_question right name ref path = record { user = user; repo = name; right = right; ref = Some ref; path = Some path }

  -- a lock in a place that the caller may lock is visible
  sees_by_lock : (ref path : List ℕ) (l : Lock) → is_allowed (decide policy (place_question right.Lock repo.name ref path)) ≡ true → l.repo ≡ repo.name
      → (bytes_eq l.ref ref && bytes_eq l.path path) ≡ true → sees policy user l ≡ true
  sees_by_lock ref path l may e place =
      let both = both_true (bytes_eq l.ref ref) (bytes_eq l.path path) place in
      or_left _ _ (or_left _ _ (or_right _ (is_allowed (decide policy (lock_question right.Lock user l))) (
      ap (λ r. is_allowed (decide policy (place_question right.Lock r l.ref l.path))) e
      ∙ ap (λ f. is_allowed (decide policy (place_question right.Lock repo.name f l.path))) ((bytes_eq-Decides l.ref ref).0 both.0)
      ∙ ap (λ p. is_allowed (decide policy (place_question right.Lock repo.name ref p))) ((bytes_eq-Decides l.path path).0 both.1)
      ∙ may)))

  same_lock : (asked : LockForm) → lock_verdict here asked ≡ lock_verdict there asked
  same_lock asked =
      let ref = ref_or_default asked.ref repo in
      same_then (permit policy (place_question right.Lock repo.name ref asked.path) 403) _ _ (λ x e.
      ap (λ (o : Option Lock). none_or o by_lock >>= λ free. by_rules (check (nat_lt made last_lock_id) rule.L5) >>= λ room. Ok (makes_lock (new_lock there asked)))
      (find_weaker (λ l. bytes_eq l.ref ref && bytes_eq l.path asked.path) (sees policy user) locks
      (each_weaker (λ l. l.repo ≡ repo.name) (λ l. (bytes_eq l.ref ref && bytes_eq l.path asked.path) ≡ true → sees policy user l ≡ true) locks
      (λ l is place. sees_by_lock ref asked.path l (permit_is (decide policy (place_question right.Lock repo.name ref asked.path)) right.Lock 403 x e) is place) own)))

  same_list : (asked : ListForm) → list_verdict here asked ≡ list_verdict there asked
  same_list asked =
      ap (λ (ls : List Lock). may_pull policy user repo.name 403 >>= λ may. by_rules (cursor_in asked.cursor) >>= λ cursor. Ok (lists (page_of cursor (page_limit asked.limit) ls)))
      (filter_weaker (λ l. meets asked l && may_list policy user l) (sees policy user) locks
      (each_weaker (λ l. l.repo ≡ repo.name) (λ l. (meets asked l && may_list policy user l) ≡ true → sees policy user l ≡ true) locks
      (λ l is h. or_left _ _ (or_left _ _ (or_left _ _ (or_right (is_own user l) (may_list policy user l) (both_true (meets asked l) (may_list policy user l) h).1)))) own))

  sees_by_push : (ref : List ℕ) (l : Lock) → is_allowed (decide policy (push_question user repo.name ref)) ≡ true → l.repo ≡ repo.name → bytes_eq l.ref ref ≡ true → sees policy user l ≡ true
  sees_by_push ref l may e same =
      or_right _ (is_allowed (decide policy (push_question user l.repo l.ref))) (
      ap (λ r. is_allowed (decide policy (push_question user r l.ref))) e
      ∙ ap (λ f. is_allowed (decide policy (push_question user repo.name f))) ((bytes_eq-Decides l.ref ref).0 same)
      ∙ may)

  same_verify_locks : (asked : VerifyLocksForm) → verify_locks_verdict here asked ≡ verify_locks_verdict there asked
  same_verify_locks asked =
      let ref = ref_or_default asked.ref repo in
      same_then (permit policy (push_question user repo.name ref) 403) _ _ (λ x e.
      ap (λ (ls : List Lock). by_rules (cursor_in asked.cursor) >>= λ cursor. Ok (splits user (page_of cursor (page_limit asked.limit) ls)))
      (filter_weaker (λ l. bytes_eq l.ref ref) (sees policy user) locks
      (each_weaker (λ l. l.repo ≡ repo.name) (λ l. bytes_eq l.ref ref ≡ true → sees policy user l ≡ true) locks
      (λ l is h. sees_by_push ref l (permit_is (decide policy (push_question user repo.name ref)) right.Push 403 x e) is h) own)))

  same_unlock : (asked : UnlockForm) → unlock_verdict here asked ≡ unlock_verdict there asked
  same_unlock asked =
      ap (λ (o : Option Lock). by_rules (ok_or o rule.L2) >>= λ l. release_verdict there asked.force l)
      (find_weaker (λ l. l.id == asked.id && sees policy user l) (sees policy user) locks
      (each_weaker (λ l. l.repo ≡ repo.name) (λ l. (l.id == asked.id && sees policy user l) ≡ true → sees policy user l ≡ true) locks
      (λ l is h. (both_true (l.id == asked.id) (sees policy user l) h).1) own))

  pub same_plan : (left : ℕ) (asked : Request) → plan_for here left asked ≡ plan_for there left asked
  same_plan left (asks_batch asked) = ap plan_to (same_batch asked)
  same_plan left (asks_get name) = same_get name
  same_plan left (asks_put asked) = same_put left asked
  same_plan left (asks_verify asked) = ap plan_to (same_verify asked)
  same_plan left (asks_lock asked) = ap plan_to (same_lock asked)
  same_plan left (asks_list asked) = ap plan_to (same_list asked)
  same_plan left (asks_verify_locks asked) = ap plan_to (same_verify_locks asked)
  same_plan left (asks_unlock asked) = ap plan_to (same_unlock asked)
