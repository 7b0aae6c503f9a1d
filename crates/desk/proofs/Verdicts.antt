-- How the definitions decide a request, step by step.
use Rattle.desk.proofs.Prelude.{◌≡◌, ◌∙◌, ℕ, not, ◌||◌, List, Some, Result, Ok, Err, bytes_eq, refl, sym, ap₂, subst, IsErrAnd, Ghosts, Rule, repo_text, ◌>>=◌, check, ok_or, World, Repo, Question, repo_named, needs_upload, is_upload, caller_by, lock_question, Answer, Denial, Plan, by_rule, by_rules, permit, store_refusal, place_verdict, new_lock, finish, plan_to, plan_for, caller_plan, desk_plan, failed, left_by, answer_ending, lock_asked, StoreFault, Holds, From, IsHonest, Leads, KeepsTables, Reads, ends_still, denial_changes_none, leaves_then, reads_lead, still_then, Answers, AnswersAlone, AnswersOrDenies, given_by, given_or, NotGranted, IsReplyOf, Reply, admission_result, state_of, lock_wanted, IsWantedBy, question_on, allowed_verdict, IsUserOf, case_policy, case_seen, NewLock}
use Rattle.std.specs.Bool.{⊤}
use Rattle.names.specs.declared.rules.Rule.TheVariants as rule
use Rattle.model.specs.declared.Right.TheVariants as right
use Rattle.model.specs.World as kept
use Rattle.model.specs.Policy.{Policy}
use Rattle.model.specs.Forms.{Request}
use Rattle.model.specs.Callers as model
use Rattle.model.specs.Cases.{Setting, DeskRequest, case_in}
use Rattle.model.specs.Locks.{lock_verdict}
use Rattle.model.specs.Steps.{after}
use Rattle.forms.specs.declared.lock.LockRequest.{LockRequest}
use Rattle.refinement.specs.Left.{Gives}
use Rattle.tokens.specs.Callers.{IsHolder}
use Rattle.tokens.specs.declared.callers.Caller.{Caller}
use Rattle.desk.specs.declared.outcomes.NotGranted.TheVariants as not_granted
use Rattle.desk.specs.declared.cases.Case.{Case}

-- successive checks by rules are one check by the first of them that fails
checks_joined : (own : Result ⊤ Rule) (repo : Result Repo Rule) (asked : Result Request Rule) (covered : Request → Result ⊤ Rule) (f : Repo → Request → Result Plan Denial)
    → (by_rules own >>= λ _. by_rules repo >>= λ r. by_rules asked >>= λ q. by_rules (covered q) >>= λ _. f r q)
    ≡ (by_rules (own >>= λ _. repo >>= λ r. asked >>= λ q. covered q >>= λ _. Ok (r, q)) >>= λ (taken : Repo × Request). f taken.0 taken.1)
checks_joined (Err e) repo asked covered f = refl
checks_joined (Ok x) (Err e) asked covered f = refl
checks_joined (Ok x) (Ok r) (Err e) covered f = refl
checks_joined (Ok x) (Ok r) (Ok q) covered f = at (covered q)
  where
    at : (v : Result ⊤ Rule) → (by_rules v >>= λ _. f r q) ≡ (by_rules (v >>= λ _. Ok (r, q)) >>= λ (taken : Repo × Request). f taken.0 taken.1)
    at (Err e) = refl
    at (Ok y) = refl

module _ (world : World) (setting : Setting) (asked : DeskRequest) where
  -- the plan if a token identifies a caller
  pub held_by : (who : model.Caller) → caller_by world setting.now asked.bearers ≡ Ok who → desk_plan world setting asked ≡ caller_plan world setting who asked
  held_by who is = rw is refl

  -- the plan if no token does
  pub held_by_none : (r : Rule) → caller_by world setting.now asked.bearers ≡ Err r → desk_plan world setting asked ≡ Err (by_rule r)
  held_by_none r is = rw is refl

  module _ (who : model.Caller) where
    abbrev admits : Result (Repo × Request) Rule
    admits = admission_result setting.policy who.repo (is_upload who.operation) asked.repo asked.request

    by_admission : caller_plan world setting who asked ≡ (by_rules admits >>= λ (taken : Repo × Request). plan_for (case_in world setting who taken.0) asked.left taken.1)
    by_admission =
        checks_joined (check (bytes_eq who.repo asked.repo) rule.A4) (ok_or (repo_named asked.repo setting.policy) rule.R1) asked.request
        (λ request. check (not (needs_upload request) || is_upload who.operation) rule.A5) (λ repo request. plan_for (case_in world setting who repo) asked.left request)

    -- the plan for a request that is refused before the state is read
    pub not_taken : (r : Rule) → admits ≡ Err r → caller_plan world setting who asked ≡ Err (by_rule r)
    not_taken r is = by_admission ∙ rw is refl

    pub taken_up : (repo : Repo) (request : Request) → admits ≡ Ok (repo, request) → caller_plan world setting who asked ≡ plan_for (case_in world setting who repo) asked.left request
    taken_up repo request is = by_admission ∙ rw is refl

-- for a caller, the code and the definitions admit the same requests
pub admitted_alike : (policy : Policy) (c : Caller) (who : model.Caller) (repo_asked : List ℕ) (asked : Result Request Rule) → IsHolder c who
    → admission_result policy (repo_text c.repo) (is_upload c.operation) repo_asked asked ≡ admission_result policy who.repo (is_upload who.operation) repo_asked asked
admitted_alike policy c who repo_asked asked h = ap₂ (λ own operation. admission_result policy own (is_upload operation) repo_asked asked) h.repo h.operation

-- the attempt that the code makes is the lock that the request of the definitions asks for
pub verdict_alike : (world : World) (case : Case) (who : model.Caller) (asked : LockRequest) (w : NewLock) → IsUserOf case who → IsWantedBy case asked w
    → allowed_verdict world (case_policy case) w ≡ lock_verdict (case_seen world case who) (lock_asked asked)
verdict_alike world case who asked w is_user is = ap₂ (λ (q : Question) (l : kept.Lock). permit (case_policy case) q 403 >>= λ may. place_verdict (state_of l.repo world) l) question place
  where
    place : lock_wanted world w ≡ new_lock (case_seen world case who) (lock_asked asked)
    place = rw (is.repo, is.ref, is.path, is.owner, is.at, is_user) refl

    question : question_on w ≡ lock_question right.Lock who.user (new_lock (case_seen world case who) (lock_asked asked))
    question = rw (is.repo, is.ref, is.path, is.owner, is_user) refl

-- an answer that needs no content is the verdict
pub answer_finished : (world : World) (repo body : List ℕ) (answer : Answer) → (plan_to answer >>= λ plan. finish world repo body plan) ≡ answer
answer_finished world repo body (Ok grant) = refl
answer_finished world repo body (Err denial) = refl

-- ---- answers, as they are given

module _ {S : Type 0} (g : Ghosts S) (old new : S) (world : World) (given : Answer) where
  -- a refusal of the inner call is passed on as a refusal
  pub passed_on : (fault : StoreFault) (r : Result Reply NotGranted) → IsErrAnd r (λ e. e ≡ not_granted.Store fault) → Gives g old new world given store_refusal → KeepsTables g old new → AnswersAlone g old new world given r
  passed_on fault (Ok reply) is p same = absurd is
  passed_on fault (Err e) is p same = subst (λ (x : NotGranted). AnswersAlone g old new world given (Err x)) (sym is) (record { shows = tt; gives = p }, same)

  -- the store refused or memory ran out before anything was tried
  pub refused_done : (fault : StoreFault) → Leads g old new world (λ bound. bound) → Answers g old new world given (Err fault)
  refused_done fault p = record { shows = tt; gives = ends_still g old new failed world (after world (Some given)) refl p }

  pub refused_early : (fault : StoreFault) (r : Result Reply NotGranted) → IsErrAnd r (λ e. e ≡ not_granted.Store fault) → Leads g old new world (λ bound. bound) → KeepsTables g old new → AnswersAlone g old new world given r
  refused_early fault r is p same = passed_on fault r is (ends_still g old new failed world (after world (Some given)) refl p) same

module _ {S : Type 0} (g : Ghosts S) (old mid new : S) (world : World) (given : Answer) where
  -- the result after calls that only read
  pub done_then : (r : Result Reply StoreFault) → Leads g old mid world (λ bound. bound) → Answers g mid new world given r → Answers g old new world given r
  done_then r p done = record {
    shows = done.shows;
    gives = still_then g old mid new world (after world (Some (given_by given r))) (left_by (answer_ending world (Some (given_by given r))) world (after world (Some given))) p done.gives;
  }

  granted_or_denied : (r : Result Reply NotGranted) → Leads g old mid world (λ bound. bound) → AnswersOrDenies g mid new world given r → AnswersOrDenies g old new world given r
  granted_or_denied (Ok reply) p done = done_then (Ok reply) p done
  granted_or_denied (Err (not_granted.Store fault)) p done = done_then (Err fault) p done
  granted_or_denied (Err (not_granted.Denied denial)) p done = (done.0, still_then g old mid new world world (λ bound. bound) p done.1)

  pub granted_then : {P : World → Type 0} (r : Result Reply NotGranted) → Reads g old mid P → Holds g old world → AnswersAlone g mid new world given r → AnswersAlone g old new world given r
  granted_then r reads h done = (granted_or_denied r (reads_lead g old mid _ world reads h) done.0, leaves_then g old mid new (answer_ending world (Some (given_or given r))) reads.same done.1)

module _ {S : Type 0} (g : Ghosts S) {old mid new : S} {P : World → Type 0} (verdict : World → Answer) (r : Result Reply NotGranted) (read : Reads g old mid P) where
  -- what answers after calls that only read, with what they found
  pub then_answers : (IsHonest g new → IsHonest g mid) → (IsHonest g new → (world : World) → Holds g mid world → P world → AnswersAlone g mid new world (verdict world) r) → From g old new (λ world. AnswersAlone g old new world (verdict world) r)
  then_answers honest answers = record {
    honest = λ k. read.same.was_honest (honest k);
    each = λ k world h. granted_then g old mid new world (verdict world) r read h (answers k world (reads_lead g old mid P world read h).holds (read.each (honest k) world h));
  }
