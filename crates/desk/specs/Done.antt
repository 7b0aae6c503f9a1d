-- An answered request.
use Rattle.std.specs.Prelude.{◌≡◌, ◌≢◌, ◌<◌, ◌≤◌, ◌+◌, ◌++◌, ℕ, Bool, true, false, List, length, Option, Some, None, Result, Ok, Err, IfOk, IfErr, OnOk, is_ok, is_err, MatchBool, ⊤}
use Rattle.store.specs.declared.state.State.{Ghosts}
use Rattle.names.specs.Texts.{largest_object}
use Rattle.names.specs.declared.bodies.Body.{Ghosts as BodyGhosts}
use Rattle.names.specs.declared.bodies.BodyFault.{BodyFault}
use Rattle.model.specs.Reading.{◌>>=◌}
use Rattle.model.specs.Callers.{Caller}
use Rattle.model.specs.Cases as model
use Rattle.model.specs.Cases.{Setting, DeskRequest}
use Rattle.model.specs.Verdict.{desk_plan}
use Rattle.model.specs.Policy.{Policy}
use Rattle.model.specs.World.{World, total}
use Rattle.model.specs.Answers.{Answer, Denial, Plan, receives, store_refusal}
use Rattle.model.specs.Objects.{finish}
use Rattle.model.specs.Views.{SameViews}
use Rattle.model.specs.Bounds.{Bound, answer_ending}
use Rattle.model.specs.Laws.{quota_of}
use Rattle.tables.specs.declared.fault.StoreFault.{StoreFault}
use Rattle.store.specs.Shown.{IsHonest}
use Rattle.refinement.specs.Representation.{Holds}
use Rattle.refinement.specs.Left.{From, Gives, IsBoundedBy, Keeps, Leads, LeavesTables}
use Rattle.uploads.specs.Bounds.{AreWithin, StoresWithin, LeavesWithin}
use Rattle.desk.specs.declared.replies.Reply.{Reply}
use Rattle.desk.specs.declared.outcomes.NotGranted.{NotGranted}
use Rattle.desk.specs.declared.outcomes.NotGranted.TheVariants as not_granted
use Rattle.desk.specs.declared.cases.Case.{Case}
use Rattle.desk.specs.Contents.{HasRead, IsLeftBy}
use Rattle.desk.specs.Replies.{IsReplyOf, ShowsIf, given_in, is_refused}
use Rattle.desk.specs.Rights.{IsUserOf, IsCallerOf, case_seen, denial_view}

-- the answer that is given: the verdict, or a store refusal if the store refused or memory ran out
abbrev pub given_by : Answer → Result Reply StoreFault → Answer
given_by verdict (Ok reply) = verdict
given_by verdict (Err fault) = store_refusal

-- the same for a request without a content, which may also be denied
abbrev pub given_or : Answer → Result Reply NotGranted → Answer
given_or verdict (Ok reply) = verdict
given_or verdict (Err (not_granted.Store fault)) = store_refusal
given_or verdict (Err (not_granted.Denied denial)) = verdict

-- every user's view of any other repository is unchanged
abbrev pub LeavesOthers : List ℕ → World → World → Type 0
LeavesOthers repo old new = (other : List ℕ) → repo ≢ other → SameViews other old new

module _ {S : Type 0} (g : Ghosts S) where
  -- a reply shows the verdict, and the given answer is carried out
  pub record Answers (old new : S) (world : World) (verdict : Answer) (r : Result Reply StoreFault) : Type 0 where
    pub shows : IfOk r (λ reply. IsReplyOf reply verdict)
    pub gives : Gives g old new world verdict (given_by verdict r)

  -- the verdict is answered; or it is this denial, and the store was only read
  abbrev pub AnswersOrDenies : S → S → World → Answer → Result Reply NotGranted → Type 0
  AnswersOrDenies old new world verdict (Ok reply) = Answers old new world verdict (Ok reply)
  AnswersOrDenies old new world verdict (Err (not_granted.Store fault)) = Answers old new world verdict (Err fault)
  AnswersOrDenies old new world verdict (Err (not_granted.Denied denial)) =
      (verdict ≡ Err (denial_view denial)) × Leads g old new world (λ bound. bound)

  -- the same, and unless the answer makes a change the tables are as before
  abbrev pub AnswersAlone : S → S → World → Answer → Result Reply NotGranted → Type 0
  AnswersAlone old new world verdict r =
      AnswersOrDenies old new world verdict r × LeavesTables g (answer_ending world (Some (given_or verdict r))) old new

  -- each such caller is answered or denied: the verdict is that on the world that the store held
  pub record AnswersEach
      (IsAsking : Caller → Type 0) (old new : S) (verdict : World → Caller → Answer) (r : Result Reply NotGranted) : Type 0 where
    pub honest : IsHonest g new → IsHonest g old
    pub each : IsHonest g new → (world : World) → Holds g old world → (who : Caller) → IsAsking who
        → AnswersAlone old new world (verdict world who) r

  -- the user of the case is answered or denied, by the verdict on the case
  abbrev pub AnswersUser : Case → S → S → (model.Case → Answer) → Result Reply NotGranted → Type 0
  AnswersUser case old new verdict r =
      AnswersEach (IsUserOf case) old new (λ world who. verdict (case_seen world case who)) r

  -- the same, if the verdict also depends on the token that the caller presented
  abbrev pub AnswersCaller : Case → S → S → (model.Case → Answer) → Result Reply NotGranted → Type 0
  AnswersCaller case old new verdict r =
      AnswersEach (IsCallerOf case) old new (λ world who. verdict (case_seen world case who)) r

-- the reply to a request whose body was read: its own, or that to its denial, or the store refusal
abbrev pub RepliesOrDenies : Result Reply NotGranted → Reply → Type 0
RepliesOrDenies (Ok reply) r = r ≡ record reply { body_read = true }
RepliesOrDenies (Err (not_granted.Store fault)) r = IsReplyOf r store_refusal
RepliesOrDenies (Err (not_granted.Denied denial)) r = ShowsIf (Err (denial_view denial)) r

-- ---- requests with a content

-- the verdict by a plan and a content
abbrev pub verdict_by : World → List ℕ → Result Plan Denial → List ℕ → Answer
verdict_by world repo plan content = plan >>= λ granted. finish world repo content granted

-- the answer that is given, if any: none if the content is cut off
abbrev pub given_with : Answer → Result Reply BodyFault → Option Answer
given_with verdict (Ok reply) = Some (given_in verdict reply)
given_with verdict (Err fault) = None

-- any reply but the store refusal leaves the body exactly if the plan refuses, before the content is read; or it is that
-- to the whole content
abbrev pub IsInTime : Result Plan Denial → (left : ℕ) → Result Reply BodyFault → Type 0
IsInTime plan left (Ok reply) = is_refused reply ≡ false
    → MatchBool reply.body_read ((name : List ℕ) × (plan ≡ Ok (receives name)) × (left ≡ 0)) (is_err plan ≡ true)
IsInTime plan left (Err fault) = is_ok plan ≡ true

-- the request was answered without its content
abbrev pub IsSettled : Result Reply BodyFault → Type 0
IsSettled (Ok reply) = reply.body_read ≡ true
IsSettled (Err fault) = ⊥

module _ {S : Type 0} (g : Ghosts S) where
  -- the reply shows the verdict, or is the store refusal, and this answer is carried out
  pub record AnswersBy (old new : S) (world : World) (verdict : Answer) (reply : Reply) : Type 0 where
    pub shows : ShowsIf verdict reply
    pub gives : Gives g old new world verdict (given_in verdict reply)

  -- a reply is given; or the content is cut off, and the world is kept
  abbrev pub AnswersIf : S → S → World → Answer → Result Reply BodyFault → Type 0
  AnswersIf old new world verdict (Ok reply) = AnswersBy old new world verdict reply
  AnswersIf old new world verdict (Err fault) = Keeps g old new world

  -- these bytes of the content were read, and `left` more were not. The answer is that to any content that begins with
  -- them; that of an upload, to any of its whole length. An upload is denied before its content is read, or answered by
  -- all of it; after the store refusal the world is kept unless all of it was read. Unless a content may have been begun,
  -- the tables are as before if the answer makes no change
  pub record IsAnsweredAs
      (is_upload : Bool) (old new : S) (world : World) (repo : List ℕ) (plan : Result Plan Denial) (bytes : List ℕ)
      (left : ℕ) (r : Result Reply BodyFault) : Type 0 where
    pub answers : (more : List ℕ) → (is_upload ≡ true → length more ≡ left)
        → AnswersIf old new world (verdict_by world repo plan (bytes ++ more)) r
    pub in_time : is_upload ≡ true → IsInTime plan left r
    pub kept : is_upload ≡ true → IfOk r (λ reply. is_refused reply ≡ true → 0 < left → Keeps g old new world)
    pub tables : (more : List ℕ) → (is_upload ≡ true → is_err plan ≡ true)
        → LeavesTables g (answer_ending world (given_with (verdict_by world repo plan (bytes ++ more)) r)) old new

-- whoever asks, the request is answered by the plan, and these bytes of its content were read: of an upload all of them,
-- unless it is refused or cut off; of any other request none
pub record AnswersRequest
    {S B W : Type 0} (g : Ghosts S) (b : BodyGhosts B) (is_upload : Bool) (repo : List ℕ) (IsAsking : W → Type 0)
    (plan : World → W → ℕ → Result Plan Denial) (old new : S) (before after : B) (r : Result Reply BodyFault) : Type 0 where
  pub bytes : List ℕ
  pub read : HasRead b before after bytes
  pub answered : From g old new (λ world. (who : W) → IsAsking who → (size : ℕ) → (is_upload ≡ true → size ≡ b.size before)
      → IsAnsweredAs g is_upload old new world repo (plan world who size) bytes (b.size after) r)
  pub settled : is_upload ≡ false → IsSettled r × (after ≡ before)
  pub leaves : IfOk r (λ reply. reply.body_read ≡ false → after ≡ before)
  pub whole : IfOk r (λ reply. is_refused reply ≡ false → reply.body_read ≡ true → is_upload ≡ true → b.size after ≡ 0)
  pub good : OnOk r (b.failed after ≡ b.failed before)
  pub fault : IfErr r (IsLeftBy b before after)

-- a request to the desk, whose content has this size, is answered by the definitions' plan for it
abbrev pub AnswersAll : {S B : Type 0} → Ghosts S → BodyGhosts B → (is_upload : Bool) → Setting → (ℕ → DeskRequest)
    → (old new : S) → (before after : B) → Result Reply BodyFault → Type 0
AnswersAll g b is_upload setting asked old new before after r =
    AnswersRequest g b is_upload (asked 0).repo (λ (who : ⊤). ⊤) (λ world who size. desk_plan world setting (asked size)) old new before after r

module _ {S : Type 0} (g : Ghosts S) where
  -- the world that the store holds after a request in a repository: other repositories are unchanged, and a total that was
  -- at most a bound, as the policy's quota for it is, still is
  pub record LeavesWorld (new : S) (policy : Policy) (repo : List ℕ) (world : World) : Type 0 where
    pub kept : World
    pub holds : Holds g new kept
    pub apart : LeavesOthers repo world kept
    pub within : (name : List ℕ) (most : ℕ) → total name world ≤ most → quota_of name policy ≤ most → total name kept ≤ most

  -- a repository whose total was at most a bound, as the policy's quota for it is, has at most this bound and one largest
  -- object in the database; and in whatever a stop leaves, if its total was in each world that a stop might have left
  abbrev pub StaysWithin : S → S → Policy → World → Type 0
  StaysWithin old new policy world =
      (repo : List ℕ) (most : ℕ) → total repo world ≤ most → quota_of repo policy ≤ most
      → StoresWithin g new repo (most + largest_object)
      × ((bound : Bound) → IsBoundedBy g old bound → AreWithin repo most bound → LeavesWithin g new repo (most + largest_object))
