-- What is read of a view is what the view shows.
use Rattle.desk.proofs.Prelude.{◌<◌, ◌≤◌, arith, nat_tests, ◌≡◌, ◌∙◌, ◌==◌, ◌&&◌, ℕ, Bool, true, false, nat_lt, List, [], ◌∷◌, cond, map, find, Option, Some, None, option_map, is_some, Bor, Result, Ok, Err, IsErrAnd, bytes_eq, refl, sym, ap, ap₂, subst, found_passes, ◌>>=◌, ok_or, L2, RepoState, is_gone, lock_at, size_of, Lock, Answer, Denial, Plan, receives, stores, by_lock, by_rules, permit, lock_question, new_lock, release_verdict, sees, unlock_verdict, UnlockForm, repo_text, ref_text, path_text, lock_asked, lock_seen, LockRow, NewLock, Object, name_of, Rule, A4, A5, R1, Repo, check, is_upload, length, plan_for, repo_named, admission_result, Reply, IsReply, IsReplyOf, NotGranted, ShowsPlan, ShowsVerdict, IsUserOf, IsWantedBy, case_policy, case_repo, case_user, case_with, denial_view, found_verdict, free_verdict, question_on}
use Rattle.names.specs.declared.rules.Rule.TheVariants.{X2}
use Rattle.std.proofs.lemmas.Bool.{true≢false}
use Rattle.std.proofs.lemmas.Slice.Eq.{bytes_eq-Decides}
use Rattle.sha2.specs.Sha256.{sha256}
use Rattle.model.proofs.Lists.{find_map}
use Rattle.model.proofs.Tests.{both_true}
use Rattle.model.specs.declared.Right.TheVariants as right
use Rattle.model.specs.Callers.{Caller, bearer}
use Rattle.model.specs.Cases as cases
use Rattle.model.specs.Locks.{lock_verdict}
use Rattle.model.specs.RepoState as state
use Rattle.model.specs.Views as model
use Rattle.model.specs.Forms.{Request}
use Rattle.model.specs.Verdict.{is_covered}
use Rattle.model.specs.Replies as shown
use Rattle.model.specs.Views.{CallerRequest, NoCaller, caller_in, case_seen, no_caller, plan_in, plan_reply}
use Rattle.forms.specs.declared.lock.LockRequest.{LockRequest}
use Rattle.desk.specs.Askers.{asker_policy, asker_repo, asker_user}
use Rattle.desk.specs.Asking.{request_read}
use Rattle.desk.specs.Foreseeing.{IsCallerIn, ShowsReply, bearers_of, caller_request, foreseen, foreseen_by, is_on, is_seen, refused_by, rule_in}
use Rattle.desk.specs.Objects.{Permits}
use Rattle.desk.specs.Views.{own_seen, size_seen, state_seen, view_seen}
use Rattle.desk.specs.declared.admission.RepoRequest.{RepoRequest}
use Rattle.desk.specs.declared.cases.Case.{Case}
use Rattle.desk.specs.declared.cases.Denial as code
use Rattle.desk.specs.declared.cases.Denial.TheVariants as denied
use Rattle.desk.specs.declared.outcomes.NotGranted.TheVariants as not_granted
use Rattle.desk.specs.declared.rights.Asker.{Asker}
use Rattle.desk.specs.declared.views.ObjectSize.{ObjectSize}
use Rattle.desk.specs.declared.views.OwnToken.{OwnToken}
use Rattle.desk.specs.declared.views.View.{View}
use Rattle.desk.proofs.Admitting.{refused_form}
use Rattle.desk.proofs.Releasing.{asker_sees, seen_alike}

-- equivalent tests find the same item
find_alike : {A : Type 0} {p q : A → Bool} → ((x : A) → p x ≡ q x) → (xs : List A) → find p xs ≡ find q xs
find_alike same [] = refl
find_alike {q = q} same (x ∷ xs) = rw (same x) (ap (λ rest. cond (q x) (Some x) rest) (find_alike same xs))

-- the size of the object that is found
pub size_shown : (v : View) (shown : RepoState) (name : List ℕ) (found : Option (Bor ObjectSize)) → shown ≡ state_seen v → option_map (λ (o : Bor ObjectSize). o.now) found ≡ find (λ (o : ObjectSize). bytes_eq o.name name) v.objects.items
    → option_map (λ (o : Bor ObjectSize). o.now.size) found ≡ size_of name shown
size_shown v shown name found is named =
    read found ∙ ap (option_map (λ (o : ObjectSize). o.size)) named ∙ seen (find (λ (o : ObjectSize). bytes_eq o.name name) v.objects.items)
    ∙ ap (option_map (λ (o : state.ObjectSize). o.size)) (sym (find_map (λ (o : state.ObjectSize). bytes_eq o.name name) size_seen v.objects.items)) ∙ ap (size_of name) (sym is)
  where
    read : (o : Option (Bor ObjectSize)) → option_map (λ (p : Bor ObjectSize). p.now.size) o ≡ option_map (λ (p : ObjectSize). p.size) (option_map (λ (p : Bor ObjectSize). p.now) o)
    read None = refl
    read (Some o) = refl

    seen : (o : Option ObjectSize) → option_map (λ (p : ObjectSize). p.size) o ≡ option_map (λ (p : state.ObjectSize). p.size) (option_map size_seen o)
    seen None = refl
    seen (Some o) = refl

-- whether the name is found among those that are retired
pub gone_shown : (v : View) (shown : RepoState) (name : List ℕ) (found : Option (Bor (List ℕ))) → shown ≡ state_seen v → option_map (λ (o : Bor (List ℕ)). o.now) found ≡ find (λ other. bytes_eq other name) v.retired.items → is_some found ≡ is_gone name shown
gone_shown v shown name found is named = kept found ∙ ap is_some named ∙ ap (is_gone name) (sym is)
  where
    kept : (o : Option (Bor (List ℕ))) → is_some o ≡ is_some (option_map (λ (p : Bor (List ℕ)). p.now) o)
    kept None = refl
    kept (Some p) = refl

-- ---- the caller

pub less : (a b : ℕ) → a < b → nat_lt a b ≡ true
less a b h = grind (arith, nat_tests)

pub not_less : (a b : ℕ) → b ≤ a → nat_lt a b ≡ false
not_less a b h = grind (arith, nat_tests)

module _ (v : View) (now : ℕ) (bearers : List (List ℕ)) (text : List ℕ) (bears : bearer bearers ≡ Some text) where
  -- the token that is found
  digest_found : (t : Option OwnToken) → find (λ (o : OwnToken). bytes_eq o.digest (sha256 text)) v.tokens.items ≡ t → find (λ (o : model.OwnToken). bytes_eq o.digest (sha256 text)) (view_seen v).tokens ≡ option_map own_seen t
  digest_found t is = find_map (λ (o : model.OwnToken). bytes_eq o.digest (sha256 text)) own_seen v.tokens.items ∙ ap (option_map own_seen) is

  -- there is none
  pub unknown_in : find (λ (o : OwnToken). bytes_eq o.digest (sha256 text)) v.tokens.items ≡ None → caller_in (view_seen v) now bearers ≡ Err no_caller
  unknown_in none = rw (bears, digest_found None none) refl

  module _ (t : OwnToken) (found : find (λ (o : OwnToken). bytes_eq o.digest (sha256 text)) v.tokens.items ≡ Some t) where
    -- it is valid
    pub valid_in : nat_lt now t.expires ≡ true → IsCallerIn (view_seen v) now bearers text (own_seen t)
    valid_in good = rw (bears, digest_found (Some t) found, good) refl

    -- it has expired
    pub expired_in : nat_lt now t.expires ≡ false → caller_in (view_seen v) now bearers ≡ Err no_caller
    expired_in past = rw (bears, digest_found (Some t) found, past) refl

-- no token is presented
pub none_in : (v : View) (now : ℕ) (bearers : List (List ℕ)) → bearer bearers ≡ None → caller_in (view_seen v) now bearers ≡ Err no_caller
none_in v now bearers none = rw none refl

-- ---- a reply

-- a shown plan is a shown reply
pub shows_reply : (r : Result Reply NotGranted) (repo body : List ℕ) (plan : Result Plan Denial) → ShowsPlan r plan → ShowsReply r (plan_reply repo body plan)
shows_reply (Ok reply) repo body plan shows = shows repo body
shows_reply (Err (not_granted.Store fault)) repo body plan shows = tt
shows_reply (Err (not_granted.Denied denial)) repo body plan shows = ap (plan_reply repo body) shows

-- a denial, or a fault of the store, is a shown verdict
pub shows_denial : (denial : code.Denial) (r : Result Reply NotGranted) (verdict : Answer) → IsErrAnd r (λ e. e ≡ not_granted.Denied denial) → verdict ≡ Err (denial_view denial) → ShowsVerdict r verdict
shows_denial denial (Ok reply) verdict is given = absurd is
shows_denial denial (Err e) verdict is given = subst (λ x. ShowsVerdict (Err x) verdict) (sym is) given

-- a plan that is not permitted
pub shows_permit : (e : NotGranted) (r : Result Reply NotGranted) (repo body : List ℕ) (plan : Plan) (planned : Result Plan Denial) → IsErrAnd r (λ x. x ≡ e) → Permits (Err e) plan planned → ShowsReply r (plan_reply repo body planned)
shows_permit e (Ok reply) repo body plan planned is permits = absurd is
shows_permit (not_granted.Store fault) (Err x) repo body plan planned is permits = subst (λ y. ShowsReply (Err y) (plan_reply repo body planned)) (sym is) tt
shows_permit (not_granted.Denied denial) (Err x) repo body plan planned is permits = subst (λ y. ShowsReply (Err y) (plan_reply repo body planned)) (sym is) (ap (plan_reply repo body) permits)

-- ---- locks

-- the lock that is found on a path, or that there is none
pub lock_shown : (v : View) (ref path : List ℕ) (found : Option LockRow) → found ≡ find (is_on ref path) v.locks.items → lock_at ref path (state_seen v) ≡ option_map (lock_seen (repo_text v.repo.now)) found
lock_shown v ref path found is =
    find_map (λ (l : Lock). bytes_eq l.ref ref && bytes_eq l.path path) (lock_seen (repo_text v.repo.now)) v.locks.items ∙ ap (option_map (lock_seen (repo_text v.repo.now))) (sym is)

module _ (v : View) (case : Case) (who : Caller) (user : IsUserOf case who) (asked : LockRequest) (w : NewLock) (wanted : IsWantedBy case asked w) (may : permit (case_policy case) (question_on w) 403 ≡ Ok tt) where
  abbrev lock_case : cases.Case
  lock_case = case_with case who (state_seen v)

  abbrev pub asked_lock : Lock
  asked_lock = new_lock lock_case (lock_asked asked)

  allowed : permit (case_policy case) (lock_question right.Lock who.user asked_lock) 403 ≡ Ok tt
  allowed = ap (λ q. permit (case_policy case) q 403) (sym (rw (wanted.owner ∙ user, wanted.repo, wanted.ref, wanted.path) refl)) ∙ may

  on_path : (found : Option LockRow) → found ≡ find (is_on (ref_text w.ref_name.now) (path_text w.path.now)) v.locks.items → lock_at asked_lock.ref asked_lock.path (state_seen v) ≡ option_map (lock_seen (repo_text v.repo.now)) found
  on_path found is = ap₂ (λ ref path. lock_at ref path (state_seen v)) (sym wanted.ref) (sym wanted.path) ∙ lock_shown v (ref_text w.ref_name.now) (path_text w.path.now) found is

  -- the path is locked
  pub held_verdict : (row : LockRow) → Some row ≡ find (is_on (ref_text w.ref_name.now) (path_text w.path.now)) v.locks.items → lock_verdict lock_case (lock_asked asked) ≡ Err (by_lock (lock_seen (repo_text v.repo.now) row))
  held_verdict row is = rw (allowed, on_path (Some row) is) refl

  -- the path is free
  pub place_is_free : None ≡ find (is_on (ref_text w.ref_name.now) (path_text w.path.now)) v.locks.items → lock_verdict lock_case (lock_asked asked) ≡ free_verdict v.made asked_lock
  place_is_free is = rw (allowed, on_path None is) refl

module _ (v : View) (case : Case) (who : Caller) (user : IsUserOf case who) (asked : UnlockForm) (a : Asker) (policy : asker_policy a ≡ case_policy case) (name : asker_user a ≡ case_user case) (repo : asker_repo a ≡ (case_repo case).name)
    (same : repo_text v.repo.now ≡ (case_repo case).name) where
  -- the verdict on the request to release a lock, by the lock that is found
  pub found_shown : (found : Option LockRow) → found ≡ find (is_seen a asked.id) v.locks.items
      → unlock_verdict (case_with case who (state_seen v)) asked ≡ found_verdict case asked.force (option_map (lock_seen (case_repo case).name) found)
  found_shown found is =
      ap (λ (o : Option Lock). by_rules (ok_or o L2) >>= release_verdict (case_with case who (state_seen v)) asked.force) (visible found is) ∙ released found is
    where
      sees_alike : (row : LockRow) → sees (asker_policy a) (asker_user a) (lock_seen (asker_repo a) row) ≡ sees (case_policy case) who.user (lock_seen (repo_text v.repo.now) row)
      sees_alike row = asker_sees case a row policy name repo ∙ ap₂ (λ u n. sees (case_policy case) u (lock_seen n row)) user (sym same)

      visible : (found : Option LockRow) → found ≡ find (is_seen a asked.id) v.locks.items
          → find (λ (l : Lock). l.id == asked.id && sees (case_policy case) who.user l) (state_seen v).locks ≡ option_map (lock_seen (repo_text v.repo.now)) found
      visible found is =
          find_map (λ (l : Lock). l.id == asked.id && sees (case_policy case) who.user l) (lock_seen (repo_text v.repo.now)) v.locks.items
          ∙ ap (option_map (lock_seen (repo_text v.repo.now))) (find_alike (λ (row : LockRow). ap (λ b. row.id == asked.id && b) (sym (sees_alike row))) v.locks.items ∙ sym is)

      released : (found : Option LockRow) → found ≡ find (is_seen a asked.id) v.locks.items
          → (by_rules (ok_or (option_map (lock_seen (repo_text v.repo.now)) found) L2) >>= release_verdict (case_with case who (state_seen v)) asked.force)
          ≡ found_verdict case asked.force (option_map (lock_seen (case_repo case).name) found)
      released None is = refl
      released (Some row) is =
          let passes = both_true (row.id == asked.id) (sees (asker_policy a) (asker_user a) (lock_seen (asker_repo a) row)) (found_passes (is_seen a asked.id) v.locks.items row (sym is)) in
          seen_alike (state_seen v) case who user asked.force true (lock_seen (repo_text v.repo.now) row) (sym (sees_alike row) ∙ passes.1)
          ∙ ap (λ n. found_verdict case asked.force (Some (lock_seen n row))) same

-- ---- uploads

module _ (repo name body bytes_name : List ℕ) where
  -- the bytes of the upload have its name
  pub confirmed : (reply : Reply) (planned : Result Plan Denial) → planned ≡ Ok (receives name) → bytes_name ≡ name_of body → bytes_eq bytes_name name ≡ true
      → ((o : Object) → IsReplyOf reply (Ok (stores o))) → IsReply reply (plan_reply repo body planned)
  confirmed reply planned may is same shows =
      let named : bytes_eq name (name_of body) ≡ true = (bytes_eq-Decides name (name_of body)).1 (sym ((bytes_eq-Decides bytes_name name).0 same) ∙ is) in
      rw (may, named) (shows (record { repo = repo; name = name; bytes = body }))

  -- they have another
  pub differs : (r : Result Reply NotGranted) (planned : Result Plan Denial) → planned ≡ Ok (receives name) → bytes_name ≡ name_of body → bytes_eq bytes_name name ≡ false
      → IsErrAnd r (λ e. e ≡ not_granted.Denied (denied.Rule X2)) → ShowsReply r (plan_reply repo body planned)
  differs (Ok reply) planned may is apart refused = absurd refused
  differs (Err e) planned may is apart refused =
      let other : bytes_eq name (name_of body) ≡ false = ap (bytes_eq name) (sym is) ∙ turned bytes_name name apart in
      subst (λ x. ShowsReply (Err x) (plan_reply repo body planned)) (sym refused) (rw (may, other) refl)
    where
      turned : (a b : List ℕ) → bytes_eq a b ≡ false → bytes_eq b a ≡ false
      turned a b unlike = at (bytes_eq b a) refl
        where
          at : (v : Bool) → bytes_eq b a ≡ v → v ≡ false
          at true e = absurd (true≢false (sym ((bytes_eq-Decides a b).1 (sym ((bytes_eq-Decides b a).0 e))) ∙ unlike))
          at false e = refl

-- ---- the whole reply

-- what is admitted
abbrev both : Repo → Request → Result (Repo × Request) Rule
both r q = Ok (r, q)

-- the plan, by what is admitted
pub plan_by : (v : model.View) (now : ℕ) (caller : Caller) (a : CallerRequest) (asked : Result Request Rule) (text : List ℕ) → asked ≡ Ok a.request → text ≡ v.repo
    → plan_in v now caller a ≡ (by_rules (admission_result v.policy v.repo (is_upload caller.operation) text asked) >>= λ (p : Repo × Request). plan_for (case_seen v now caller p.0) (length a.body) p.1)
plan_by v now caller a asked text is same = rw (is, same, (bytes_eq-Decides v.repo v.repo).1 refl) (named (repo_named v.repo v.policy))
  where
    named : (o : Option Repo) → (by_rules (ok_or o R1) >>= λ repo. by_rules (check (is_covered caller a.request) A5) >>= λ covered. plan_for (case_seen v now caller repo) (length a.body) a.request)
        ≡ (by_rules (ok_or o R1 >>= λ repo. check (is_covered caller a.request) A5 >>= λ covered. both repo a.request) >>= λ (p : Repo × Request). plan_for (case_seen v now caller p.0) (length a.body) p.1)
    named None = refl
    named (Some repo) = at (is_covered caller a.request)
      where
        at : (b : Bool) → (by_rules (check b A5) >>= λ covered. plan_for (case_seen v now caller repo) (length a.body) a.request)
            ≡ (by_rules (check b A5 >>= λ covered. both repo a.request) >>= λ (p : Repo × Request). plan_for (case_seen v now caller p.0) (length a.body) p.1)
        at true = refl
        at false = refl

-- the plan, by what is admitted
abbrev pub plan_admitted : model.View → ℕ → Caller → List ℕ → Result (Repo × Request) Rule → Result Plan Denial
plan_admitted v now caller body admitted = by_rules admitted >>= λ (p : Repo × Request). plan_for (case_seen v now caller p.0) (length body) p.1

-- a request that a J rule refuses is refused by that rule, or by R1 before it
malformed : (v : model.View) (covers : Bool) (text : List ℕ) (asked : Result Request Rule) (rule : Rule) → asked ≡ Err rule → bytes_eq v.repo text ≡ true
    → admission_result v.policy v.repo covers text asked ≡ Err (rule_in (repo_named text v.policy) rule)
malformed v covers text asked rule is own = at (repo_named text v.policy) refl
  where
    at : (o : Option Repo) → repo_named text v.policy ≡ o → admission_result v.policy v.repo covers text asked ≡ Err (rule_in o rule)
    at None none = rw (own, none) refl
    at (Some r) there = refused_form v.policy v.repo covers text asked r rule own there is

-- a request in another repository
elsewhere : (v : model.View) (covers : Bool) (text : List ℕ) (asked : Result Request Rule) → bytes_eq v.repo text ≡ false → admission_result v.policy v.repo covers text asked ≡ Err A4
elsewhere v covers text asked other = rw other refl

-- what is admitted is in the repository of the view
pub admits_own : (v : model.View) (covers : Bool) (text : List ℕ) (asked : Result Request Rule) (p : Repo × Request) → admission_result v.policy v.repo covers text asked ≡ Ok p → text ≡ v.repo
admits_own v covers text asked p is = at (bytes_eq v.repo text) refl
  where
    at : (b : Bool) → bytes_eq v.repo text ≡ b → text ≡ v.repo
    at true own = sym ((bytes_eq-Decides v.repo text).0 own)
    at false other = absurd (let e : Err A4 ≡ Ok p = sym (elsewhere v covers text asked other) ∙ is in cc)

module _ (v : model.View) (now : ℕ) (a : RepoRequest) (body : List ℕ) where
  -- there is no caller
  pub nobody_foreseen : caller_in v now (bearers_of a) ≡ Err no_caller → foreseen v now a body ≡ Err no_caller
  nobody_foreseen none = at (bytes_eq v.repo a.repo.now) (request_read a)
    where
      at : (own : Bool) (asked : Result Request Rule) → foreseen_by v now a body own asked ≡ Err no_caller
      at false asked = rw none refl
      at true (Err rule) = rw none refl
      at true (Ok request) = rw none refl

  abbrev reply_by : Caller → Result (Repo × Request) Rule → Result shown.Reply NoCaller
  reply_by caller admitted = Ok (plan_reply v.repo body (plan_admitted v now caller body admitted))

  -- the reply to a caller, by what is admitted
  pub reply_foreseen : (caller : Caller) → caller_in v now (bearers_of a) ≡ Ok caller
      → foreseen v now a body ≡ Ok (plan_reply v.repo body (plan_admitted v now caller body (admission_result v.policy v.repo (is_upload caller.operation) a.repo.now (request_read a))))
  reply_foreseen caller is = at (bytes_eq v.repo a.repo.now) refl (request_read a) refl
    where
      refused : (rule : Rule) (admitted : Result (Repo × Request) Rule) → admitted ≡ Err rule → refused_by v now a rule ≡ reply_by caller admitted
      refused rule admitted same = rw (is, same) refl

      at : (own : Bool) → bytes_eq v.repo a.repo.now ≡ own → (asked : Result Request Rule) → request_read a ≡ asked
          → foreseen_by v now a body own asked ≡ reply_by caller (admission_result v.policy v.repo (is_upload caller.operation) a.repo.now (request_read a))
      at false other asked read = refused A4 _ (elsewhere v (is_upload caller.operation) a.repo.now (request_read a) other)
      at true own (Err rule) read = refused _ _ (malformed v (is_upload caller.operation) a.repo.now (request_read a) rule read own)
      at true own (Ok request) read =
          ap (λ r. r >>= λ who. Ok (plan_reply v.repo body (plan_in v now who (caller_request a body request)))) is
          ∙ ap (λ plan. Ok (plan_reply v.repo body plan)) (plan_by v now caller (caller_request a body request) (request_read a) a.repo.now read (sym ((bytes_eq-Decides v.repo a.repo.now).0 own)))
