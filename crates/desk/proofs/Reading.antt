-- Requests that only read their repository: what the function of each shows.
use Rattle.desk.proofs.Prelude.{◌&&◌, bytes_eq, found_passes, case_repo, case_seen, case_with, IsCallerOf, AnswersEach, leaves_kept, answer_ending, ◌≡◌, ◌∙◌, ◌==◌, ℕ, Bool, true, false, not, List, [], length, Option, Some, None, option_map, Result, Ok, Err, IfOk, IsErrAnd, refl, sym, ap, subst, X1, X4, V1, V2, ◌>>=◌, check, ok_or, World, IsWorld, Object, object_named, Holds, IsHonest, Reads, Answer, Denial, Plan, receives, serves, by_rules, may_pull, may_push, permit, push_question, ref_or_default, cursor_in, plan_for, plan_to, batch_verdict, may_batch, list_verdict, verify_locks_verdict, verify_verdict, Repo, RepoState, repo_state, Reply, IsReply, IsReplyOf, NotGranted, ReadsRepo, ShowsPlan, ShowsVerdict, StoreFault, denial_view, has_room, is_gone, size_of, has_place, is_some, verdict_by}
use Rattle.std.specs.Prelude.{⊤}
use Rattle.std.proofs.lemmas.Bool.{true≢false}
use Rattle.std.proofs.lemmas.Option.{none-some, same_Some}
use Rattle.store.specs.declared.state.State as store
use Rattle.std.proofs.lemmas.Slice.Eq.{bytes_eq-Decides}
use Rattle.model.proofs.Tests.{both_true}
use Rattle.model.proofs.Checks.{passed, then_any}
use Rattle.model.specs.Answers.{grants, sends}
use Rattle.model.specs.Callers.{Caller}
use Rattle.model.specs.Cases as model
use Rattle.model.specs.Forms as form
use Rattle.model.specs.Forms.{asks_batch, asks_get, asks_put, asks_verify, asks_lock, asks_list, asks_verify_locks, asks_unlock}
use Rattle.model.specs.Views.{plan_reply}
use Rattle.store.specs.Shown.{AddsNothing, Moves}
use Rattle.forms.specs.Requests.{request_asked}
use Rattle.forms.specs.declared.lock.LockRequest.{LockRequest}
use Rattle.forms.specs.declared.unlock.UnlockRequest.{UnlockRequest}
use Rattle.forms.specs.declared.objects.PutRequest.{PutRequest}
use Rattle.forms.specs.declared.request.Request as asked
use Rattle.forms.specs.declared.request.Request.TheVariants as given
use Rattle.uploads.proofs.Sizes.{size_named}
use Rattle.desk.specs.Objects.{DeniesIf}
use Rattle.desk.specs.declared.cases.Case.{Case}
use Rattle.desk.specs.declared.cases.Denial as code
use Rattle.desk.specs.declared.outcomes.NotGranted.TheVariants as not_granted
use Rattle.desk.specs.declared.readers.RepoReader.{Ghosts}
use Rattle.desk.proofs.Quiet.{IsQuiet, denial_is_quiet}
use Rattle.desk.proofs.Unchanged.{denied_after, refused_after, replied_with}

-- nothing is claimed of an error
pub none_ok : {T E : Type 0} (P : T → Type 0) (Q : E → Type 0) (r : Result T E) → IsErrAnd r Q → IfOk r P
none_ok P Q (Ok x) is = absurd is
none_ok P Q (Err e) is = tt

module _ {R : Type 0} {g : Ghosts R} {old new : R} {repo : Repo} {P : RepoState → Type 0} where
  -- a weaker claim
  pub repo_weaker : (Q : RepoState → Type 0) → ((state : RepoState) → P state → Q state) → ReadsRepo g old new repo P → ReadsRepo g old new repo Q
  repo_weaker Q f p = record { reads = p.reads; each = λ honest state shown. f state (p.each honest state shown) }

  module _ {IsAsking : Caller → Type 0} (verdict : RepoState → Caller → Answer) where
    -- the store refused, or memory ran out
    pub refused_reading : (fault : StoreFault) (r : Result Reply NotGranted) → ReadsRepo g old new repo P → IsErrAnd r (λ e. e ≡ not_granted.Store fault)
        → ReadsRepo g old new repo (λ state. (who : Caller) → IsAsking who → ShowsVerdict r (verdict state who))
    refused_reading fault (Ok reply) reads is = absurd is
    refused_reading fault (Err e) reads is = repo_weaker _ (λ state read who asks. subst (λ x. ShowsVerdict (Err x) (verdict state who)) (sym is) tt) reads

    -- the request is denied
    pub denied_reading : (denial : code.Denial) (r : Result Reply NotGranted) → ReadsRepo g old new repo P → IsErrAnd r (λ e. e ≡ not_granted.Denied denial)
        → ((state : RepoState) → P state → (who : Caller) → IsAsking who → verdict state who ≡ Err (denial_view denial))
        → ReadsRepo g old new repo (λ state. (who : Caller) → IsAsking who → ShowsVerdict r (verdict state who))
    denied_reading denial (Ok reply) reads is given = absurd is
    denied_reading denial (Err e) reads is given = repo_weaker _ (λ state read who asks. subst (λ x. ShowsVerdict (Err x) (verdict state who)) (sym is) (given state read who asks)) reads

    -- the request is granted
    pub replied_reading : (given : Answer) (reply : Reply) → ReadsRepo g old new repo P → IsReplyOf reply given
        → ((state : RepoState) → P state → (who : Caller) → IsAsking who → verdict state who ≡ given)
        → ReadsRepo g old new repo (λ state. (who : Caller) → IsAsking who → IsReplyOf reply (verdict state who))
    replied_reading given reply reads shows is = repo_weaker _ (λ state read who asks. subst (IsReplyOf reply) (sym (is state read who asks)) shows) reads

module _ {R : Type 0} {g : Ghosts R} {old new : R} {repo : Repo} {IsAsking : Caller → Type 0} (plan : RepoState → Caller → Result Plan Denial) where
  -- the store refused, or memory ran out, in place of a plan
  pub refused_plan : (fault : StoreFault) (r : Result Reply NotGranted) → g.reads old new → IsErrAnd r (λ e. e ≡ not_granted.Store fault)
      → ReadsRepo g old new repo (λ state. (who : Caller) → IsAsking who → ShowsPlan r (plan state who))
  refused_plan fault (Ok reply) reads is = absurd is
  refused_plan fault (Err e) reads is = record { reads = reads; each = λ honest state shown who asks. subst (λ x. ShowsPlan (Err x) (plan state who)) (sym is) tt }

  -- the plan is denied
  pub denied_plan : (denial : code.Denial) (r : Result Reply NotGranted) → g.reads old new → IsErrAnd r (λ e. e ≡ not_granted.Denied denial)
      → (g.honest new → (state : RepoState) → g.shows old repo state → (who : Caller) → IsAsking who → plan state who ≡ Err (denial_view denial))
      → ReadsRepo g old new repo (λ state. (who : Caller) → IsAsking who → ShowsPlan r (plan state who))
  denied_plan denial (Ok reply) reads is given = absurd is
  denied_plan denial (Err e) reads is given = record { reads = reads; each = λ honest state shown who asks. subst (λ x. ShowsPlan (Err x) (plan state who)) (sym is) (given honest state shown who asks) }

module _ {R : Type 0} {g : Ghosts R} (none : (one : R) → g.reads one one) {one : R} {repo : Repo} where
  -- what holds of any state, if nothing is read
  pub unread : {P : RepoState → Type 0} → ((state : RepoState) → P state) → ReadsRepo g one one repo P
  unread each = record { reads = none one; each = λ honest state shown. each state }

module _ {R : Type 0} {g : Ghosts R} (on : (one two three : R) → g.reads one two → g.reads two three → g.reads one three) (was : (one two : R) → g.reads one two → g.honest two → g.honest one)
    (still : (one two : R) (repo : Repo) (state : RepoState) → g.reads one two → g.shows one repo state → g.shows two repo state) {one two three : R} {repo : Repo} where
  -- two reads, and what follows from the two claims
  pub repo_then : {P Q T : RepoState → Type 0} → ((state : RepoState) → P state → Q state → T state) → ReadsRepo g one two repo P → ReadsRepo g two three repo Q → ReadsRepo g one three repo T
  repo_then both p q = record {
    reads = on one two three p.reads q.reads;
    each = λ honest state shown. both state (p.each (was two three q.reads honest) state shown) (q.each honest state (still one two repo state p.reads shown));
  }

-- two reads, each with what it says
pub both_read : {R : Type 0} {g : Ghosts R} (on : (one two three : R) → g.reads one two → g.reads two three → g.reads one three) (was : (one two : R) → g.reads one two → g.honest two → g.honest one)
    (still : (one two : R) (repo : Repo) (state : RepoState) → g.reads one two → g.shows one repo state → g.shows two repo state) {one three : R} {repo : Repo} (two : R) {P Q : RepoState → Type 0} → g.reads one two → g.reads two three
    → (g.honest two → (state : RepoState) → g.shows one repo state → P state) → (g.honest three → (state : RepoState) → g.shows two repo state → Q state) → ReadsRepo g one three repo (λ state. P state × Q state)
both_read on was still two {P} {Q} first then says more = repo_then on was still {P = P} {Q = Q} (λ state p q. (p, q)) (record { reads = first; each = says }) (record { reads = then; each = more })

module _ (state : RepoState) (size : ℕ) (name : List ℕ) where
  -- whether there is a place for an upload
  pub place_fits : has_room size state ≡ true → has_place size name state ≡ true
  place_fits room = rw room refl

  pub place_found : has_room size state ≡ false → has_place size name state ≡ is_some (size_of name state)
  place_found none = rw none refl

-- a denial is not permitted
pub permits_denial : (denial : code.Denial) (e : NotGranted) (planned : Result Plan Denial) → e ≡ not_granted.Denied denial → planned ≡ Err (denial_view denial) → DeniesIf e planned
permits_denial denial e planned is given = subst (λ x. DeniesIf x planned) (sym is) given

-- ---- plans

-- a shown verdict, as a plan
pub shows_plan : (r : Result Reply NotGranted) (verdict : Answer) → ShowsVerdict r verdict → ShowsPlan r (plan_to verdict)
shows_plan (Ok reply) (Ok grant) shows = λ repo body. shows
shows_plan (Ok reply) (Err denial) shows = λ repo body. shows
shows_plan (Err (not_granted.Store fault)) verdict shows = tt
shows_plan (Err (not_granted.Denied denial)) verdict shows = ap plan_to shows

-- a shown verdict of a request is a shown plan
pub planned : (case : Case) (request : asked.Request) (verdict : model.Case → Answer) → ((size : ℕ) (seen : model.Case) → plan_for seen size (request_asked request) ≡ plan_to (verdict seen))
    → {IsAsking : Caller → Type 0} → ((who : Caller) → IsCallerOf case who → IsAsking who) → (r : Result Reply NotGranted) → {R : Type 0} {g : Ghosts R} {old new : R} {repo : Repo}
    → ReadsRepo g old new repo (λ state. (who : Caller) → IsAsking who → ShowsVerdict r (verdict (case_with case who state)))
    → ReadsRepo g old new repo (λ state. (who : Caller) → IsCallerOf case who → (size : ℕ) → ShowsPlan r (plan_for (case_with case who state) size (request_asked request)))
planned case request verdict plans asks r reads =
    repo_weaker _ (λ state shows who is size. subst (ShowsPlan r) (sym (plans size (case_with case who state))) (shows_plan r (verdict (case_with case who state)) (shows who (asks who is)))) reads

-- ---- a store

module _ {S : Type 0} (g : store.Ghosts S) {old new : S} (repo : Repo) (P : RepoState → Type 0) where
  -- what holds of the repository's state holds of the world that the store holds
  pub as_reads : Moves g (λ t. t) old new × AddsNothing g old new
      → (IsHonest g new → (state : RepoState) → ((world : World) × Holds g old world × (state ≡ repo_state repo world)) → P state) → Reads g old new (λ world. P (repo_state repo world))
  as_reads reads each = record { same = reads.0; adds = reads.1; each = λ honest world h. each honest (repo_state repo world) (world, h, refl) }

-- a plan that changes nothing: a download finds its object
abbrev pub IsStill : RepoState → Plan → Type 0
IsStill state (grants grant) = IsQuiet (Ok grant)
IsStill state (sends name size) = size_of name state ≡ Some size
IsStill state (receives name) = ⊥

-- the request changes nothing, whatever the answer
abbrev pub only_reads : form.Request → Bool
only_reads (asks_put asked) = false
only_reads (asks_lock asked) = false
only_reads (asks_unlock asked) = false
only_reads _ = true

module _ (c : model.Case) where
  quiet_grant : (answer : Answer) → IfOk answer (λ grant. IsQuiet (Ok grant)) → IfOk (plan_to answer) (IsStill c.state)
  quiet_grant answer quiet = passed (λ grant. IsQuiet (Ok grant)) (IsStill c.state) answer _ quiet (λ grant is. is)

  pub still : (size : ℕ) (asked : form.Request) → only_reads asked ≡ true → IfOk (plan_for c size asked) (IsStill c.state)
  still size (asks_put asked) is = absurd (true≢false (sym is))
  still size (asks_lock asked) is = absurd (true≢false (sym is))
  still size (asks_unlock asked) is = absurd (true≢false (sym is))
  still size (asks_batch asked) is = quiet_grant (batch_verdict c asked) (then_any _ (may_batch c asked asked.operation) _ (λ may. record { ending = λ w. refl; after = λ w. refl }))
  still size (asks_get name) is = then_any (IsStill c.state) (may_pull c.setting.policy c.caller.user c.repo.name 404) _ (λ may.
      then_any (IsStill c.state) (by_rules (check (not (is_gone name c.state)) X4)) _ (λ there. found (size_of name c.state) refl))
    where
      found : (there : Option ℕ) → size_of name c.state ≡ there → IfOk (by_rules (ok_or there X1) >>= λ n. Ok (sends name n)) (IsStill c.state)
      found None e = tt
      found (Some n) e = e
  still size (asks_verify asked) is =
      quiet_grant (verify_verdict c asked)
      (then_any _ (may_push c.setting.policy c.caller.user c.repo.name (ref_or_default asked.ref c.repo)) _ (λ may.
      then_any _ (by_rules (ok_or (size_of asked.name c.state) V1)) _ (λ there.
      then_any _ (by_rules (check (there == asked.size) V2)) _ (λ same. record { ending = λ w. refl; after = λ w. refl }))))
  still size (asks_list asked) is =
      quiet_grant (list_verdict c asked)
      (then_any _ (may_pull c.setting.policy c.caller.user c.repo.name 403) _ (λ may. then_any _ (by_rules (cursor_in asked.cursor)) _ (λ cursor. record { ending = λ w. refl; after = λ w. refl })))
  still size (asks_verify_locks asked) is =
      quiet_grant (verify_locks_verdict c asked)
      (then_any _ (permit c.setting.policy (push_question c.caller.user c.repo.name (ref_or_default asked.ref c.repo)) 403) _ (λ may.
      then_any _ (by_rules (cursor_in asked.cursor)) _ (λ cursor. record { ending = λ w. refl; after = λ w. refl })))

-- an answer that changes nothing, and that is shown by a reply to the plan
pub record IsStillAnswer (world : World) (repo : List ℕ) (content : List ℕ) (plan : Result Plan Denial) : Type 0 where
  pub given : Answer
  pub is : verdict_by world repo plan content ≡ given
  pub quiet : IsQuiet given
  pub shown : (reply : Reply) → ((repo body : List ℕ) → IsReply reply (plan_reply repo body plan)) → IsReplyOf reply given

-- the object that is found has the name
name_found : (world : World) (repo name : List ℕ) (o : Object) → object_named repo name world ≡ Some o → name ≡ o.name
name_found world repo name o is =
    sym ((bytes_eq-Decides o.name name).0
    (both_true (bytes_eq o.repo repo) (bytes_eq o.name name) (found_passes (λ (p : Object). bytes_eq p.repo repo && bytes_eq p.name name) world.objects o is)).1)

module _ (world : World) (repo : Repo) (content : List ℕ) (laws : IsWorld world) where
  pub still_answer : (plan : Result Plan Denial) → IfOk plan (IsStill (repo_state repo world)) → IsStillAnswer world repo.name content plan
  still_answer (Err denial) kept = record {
    given = Err denial;
    is = refl;
    quiet = denial_is_quiet denial;
    shown = λ reply shows. shows [] [];
  }
  still_answer (Ok (grants grant)) kept = record { given = Ok grant; is = refl; quiet = kept; shown = λ reply shows. shows [] [] }
  still_answer (Ok (receives name)) kept = elim kept [ ]
  still_answer (Ok (sends name size)) kept = at (object_named repo.name name world) refl
    where
      at : (found : Option Object) → object_named repo.name name world ≡ found → IsStillAnswer world repo.name content (Ok (sends name size))
      at None e = absurd (none-some size (sym (size_named world repo name laws ∙ ap (option_map (λ (o : Object). length o.bytes)) e) ∙ kept))
      at (Some o) e =
          let sized : size ≡ length o.bytes = sym (same_Some (length o.bytes) size (sym (size_named world repo name laws ∙ ap (option_map (λ (p : Object). length p.bytes)) e) ∙ kept)) in
          let named = name_found world repo.name name o e in
          record {
            given = Ok (serves o);
            is = rw e refl;
            quiet = record { ending = λ w. refl; after = λ w. refl };
            shown = λ reply shows. rw (← named, ← sized) (shows [] []);
          }

-- a request that only reads is answered by what it shows
module _ {S : Type 0} (g : store.Ghosts S) (case : Case) (asked : form.Request) (only : only_reads asked ≡ true) {old new : S} where
  pub answered_reading : (r : Result Reply NotGranted) → Reads g old new (λ world. (who : Caller) → IsCallerOf case who → (size : ℕ) → ShowsPlan r (plan_for (case_seen world case who) size asked))
      → (size : ℕ) (content : List ℕ) → AnswersEach g (IsCallerOf case) old new (λ world who. verdict_by world (case_repo case).name (plan_for (case_seen world case who) size asked) content) r
  answered_reading (Err (not_granted.Store fault)) reads size content = refused_after fault _ reads refl
  answered_reading (Err (not_granted.Denied denial)) reads size content =
      denied_after denial _ reads refl (λ world laws shows who is. ap (λ plan. verdict_by world (case_repo case).name plan content) (shows who is size))
  answered_reading (Ok reply) reads size content = record {
    honest = reads.same.was_honest;
    each = λ honest world h who is.
        let seen = case_seen world case who in
        let plan = plan_for seen size asked in
        let answer = still_answer world (case_repo case) content h.laws plan (still seen size asked only) in (
          replied_with g old new _ (verdict_by world (case_repo case).name plan content) answer.given reply reads answer.quiet.ending answer.quiet.after
              (answer.shown reply (reads.each honest world h who is size)) world h answer.is,
          leaves_kept g old new (answer_ending world (Some (verdict_by world (case_repo case).name plan content))) reads.same,
        );
  }

-- the request is none of those that may change something
pub reads_only : (request : asked.Request) → ((put : PutRequest) → request ≡ given.Put put → ⊥) → ((lock : LockRequest) → request ≡ given.Lock lock → ⊥) → ((unlock : UnlockRequest) → request ≡ given.Unlock unlock → ⊥)
    → only_reads (request_asked request) ≡ true
reads_only (given.Batch it) put lock unlock = refl
reads_only (given.Get it) put lock unlock = refl
reads_only (given.Put it) put lock unlock = absurd (put it refl)
reads_only (given.Verify it) put lock unlock = refl
reads_only (given.Lock it) put lock unlock = absurd (lock it refl)
reads_only (given.List it) put lock unlock = refl
reads_only (given.VerifyLocks it) put lock unlock = refl
reads_only (given.Unlock it) put lock unlock = absurd (unlock it refl)
