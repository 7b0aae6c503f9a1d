-- Requests that only read the store: their replies, and what a stop leaves.
use Rattle.desk.proofs.Prelude.{◌≡◌, ◌∙◌, ℕ, Bool, true, false, cond, List, Some, Result, Ok, Err, refl, sym, ap, subst, IsErrAnd, Ghosts, World, Object, IsWorld, Answer, Denial, serves, is_store_refusal, plan_to, plan_for, failed, unchanged, is_changed, answer_ending, Holds, StoreFault, From, KeepsTables, LeavesTables, Reads, Ends, reads_lead, reads_none, ends_still, leaves_kept, Reply, IsReplyOf, Answers, AnswersAlone, AnswersCaller, AnswersEach, AnswersUser, RepliesOrDenies, verdict_by, IsCallerOf, case_repo, case_seen, denial_view, NotGranted, AnswersBy, given_in}
use Rattle.std.specs.Prelude.{⊤}
use Rattle.model.specs.Callers.{Caller}
use Rattle.model.specs.Forms.{Request}
use Rattle.model.specs.Cases as cases
use Rattle.model.specs.Steps.{after}
use Rattle.desk.specs.declared.cases.Case.{Case}
use Rattle.desk.specs.declared.cases.Denial as code
use Rattle.desk.specs.declared.outcomes.NotGranted.TheVariants as not_granted
use Rattle.desk.proofs.Verdicts.{answer_finished, refused_done}
use Rattle.desk.proofs.Told.{given_same, given_refusal, still_shows, told, told_refusal, told_denial}

-- the verdict changes nothing, and its reply is given after calls that only read
pub replied_with : {S : Type 0} (g : Ghosts S) (old new : S) (P : World → Type 0) (verdict given : Answer) (reply : Reply) → Reads g old new P
    → ((world : World) → is_changed (answer_ending world (Some given)) ≡ false) → ((world : World) → after world (Some given) ≡ world)
    → IsReplyOf reply given → (world : World) → Holds g old world → verdict ≡ given → Answers g old new world verdict (Ok reply)
replied_with g old new P verdict given reply reads ending same shows world h is =
    subst (λ (v : Answer). Answers g old new world v (Ok reply)) (sym is) (record {
      shows = shows;
      gives = subst (λ (w : World). Ends g old new (answer_ending world (Some given)) world w w) (sym (same world))
          (ends_still g old new (answer_ending world (Some given)) world world (ending world) (reads_lead g old new P world reads h));
    })

module _ {S : Type 0} {g : Ghosts S} {old new : S} {IsAsking : Caller → Type 0} {verdict : World → Caller → Answer} {P : World → Type 0} where
  -- the store refused, or memory ran out, after calls that only read
  pub refused_after : (fault : StoreFault) (r : Result Reply NotGranted) → Reads g old new P → IsErrAnd r (λ e. e ≡ not_granted.Store fault) → AnswersEach g IsAsking old new verdict r
  refused_after fault (Ok reply) reads is = absurd is
  refused_after fault (Err e) reads is = subst (λ (x : NotGranted). AnswersEach g IsAsking old new verdict (Err x)) (sym is) (record {
    honest = reads.same.was_honest;
    each = λ honest world h who asks. (refused_done g old new world (verdict world who) fault (reads_lead g old new P world reads h), reads.same);
  })

  -- the request is denied after calls that only read
  pub denied_after : (denial : code.Denial) (r : Result Reply NotGranted) → Reads g old new P → IsErrAnd r (λ e. e ≡ not_granted.Denied denial)
      → ((world : World) → IsWorld world → P world → (who : Caller) → IsAsking who → verdict world who ≡ Err (denial_view denial)) → AnswersEach g IsAsking old new verdict r
  denied_after denial (Ok reply) reads is given = absurd is
  denied_after denial (Err e) reads is given = subst (λ (x : NotGranted). AnswersEach g IsAsking old new verdict (Err x)) (sym is) (record {
    honest = reads.same.was_honest;
    each = λ honest world h who asks. (
      (given world h.laws (reads.each honest world h) who asks, reads_lead g old new P world reads h),
      leaves_kept g old new (answer_ending world (Some (verdict world who))) reads.same,
    );
  })

-- the request is denied before any call
pub denied_unread : {S : Type 0} {g : Ghosts S} {s : S} {IsAsking : Caller → Type 0} {verdict : World → Caller → Answer} (denial : code.Denial) (r : Result Reply NotGranted) → IsErrAnd r (λ e. e ≡ not_granted.Denied denial)
    → ((world : World) (who : Caller) → IsAsking who → verdict world who ≡ Err (denial_view denial)) → AnswersEach g IsAsking s s verdict r
denied_unread denial r is given = denied_after denial r (reads_none _ _ (λ _. ⊤) (λ _ _ _. tt)) is (λ world laws read who asks. given world who asks)

module _ {S : Type 0} {g : Ghosts S} {old new : S} {IsAsking IsCalling : Caller → Type 0} {verdict given : World → Caller → Answer} {r : Result Reply NotGranted} where
  -- the same verdict
  pub answers_alike : ((world : World) (who : Caller) → IsCalling who → IsAsking who × (verdict world who ≡ given world who)) → AnswersEach g IsAsking old new verdict r → AnswersEach g IsCalling old new given r
  answers_alike alike done = record {
    honest = done.honest;
    each = λ honest world h who calls.
        let same = alike world who calls in
        subst (λ (v : Answer). AnswersAlone g old new world v r) same.1 (done.each honest world h who same.0);
  }

-- ---- requests without a content

module _ (case : Case) (verdict : cases.Case → Answer) (asked : Request) (left : ℕ) (content : List ℕ) (plans : (seen : cases.Case) → plan_for seen left asked ≡ plan_to (verdict seen)) where
  -- the answer to such a request, whatever the content is
  abbrev answer_to : World → Caller → Answer
  answer_to world who = verdict_by world (case_repo case).name (plan_for (case_seen world case who) left asked) content

  planned : (world : World) (who : Caller) → verdict (case_seen world case who) ≡ answer_to world who
  planned world who =
      let seen = case_seen world case who in
      sym (ap (λ plan. verdict_by world (case_repo case).name plan content) (plans seen) ∙ answer_finished world (case_repo case).name content (verdict seen))

  module _ {S : Type 0} {g : Ghosts S} {old new : S} {r : Result Reply NotGranted} where
    pub whole_user : AnswersUser g case old new verdict r → AnswersEach g (IsCallerOf case) old new answer_to r
    whole_user done = answers_alike (λ world who is. (is.user, planned world who)) done

-- ---- the reply to a request, or to its denial

module _ {S : Type 0} (g : Ghosts S) (old new : S) where
  -- the reply, and what is left of the tables
  abbrev pub Replies : World → Answer → Reply → Type 0
  Replies world verdict r = AnswersBy g old new world verdict r × LeavesTables g (answer_ending world (Some (given_in verdict r))) old new

  -- a denial leaves the tables as they were
  denial_keeps : (world : World) (given : Answer) (denial : Denial) → given ≡ Err denial → LeavesTables g (answer_ending world (Some given)) old new → KeepsTables g old new
  denial_keeps world given denial is leaves = at (is_store_refusal (Err denial)) (subst (λ (v : Answer). LeavesTables g (answer_ending world (Some v)) old new) is leaves)
    where
      at : (v : Bool) → LeavesTables g (cond v failed unchanged) old new → KeepsTables g old new
      at true same = same
      at false same = same

  reply_of : (world : World) (verdict : Answer) (done : Result Reply NotGranted) (r : Reply) → AnswersAlone g old new world verdict done → RepliesOrDenies done r → Replies world verdict r
  reply_of world verdict (Ok reply) r done is =
      let shows = still_shows verdict reply r true is done.0.shows in
      (told g old new world verdict r shows done.0.gives, subst (λ (a : Answer). LeavesTables g (answer_ending world (Some a)) old new) (sym (given_same verdict r shows)) done.1)
  reply_of world verdict (Err (not_granted.Store fault)) r done is =
      (told_refusal g old new world verdict r is done.0.gives, subst (λ (a : Answer). LeavesTables g (answer_ending world (Some a)) old new) (sym (given_refusal verdict r is)) done.1)
  reply_of world verdict (Err (not_granted.Denied denial)) r done is =
      (told_denial g old new world verdict (denial_view denial) r done.0.0 is done.0.1, leaves_kept g old new _ (denial_keeps world verdict (denial_view denial) done.0.0 done.1))

  pub replied : {IsAsking : Caller → Type 0} {verdict : World → Caller → Answer} {done : Result Reply NotGranted} {r : Reply} → AnswersEach g IsAsking old new verdict done → RepliesOrDenies done r
      → From g old new (λ world. (who : Caller) → IsAsking who → Replies world (verdict world who) r)
  replied answers is = record { honest = answers.honest; each = λ honest world h who asks. reply_of world _ _ _ (answers.each honest world h who asks) is }
