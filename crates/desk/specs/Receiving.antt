-- The bytes of an upload are received.
use Rattle.std.specs.Prelude.{◌≡◌, ◌<◌, ◌+◌, ℕ, true, false, List, [], ◌++◌, length, Result, Ok, Err, OnOk, IfOk, IsTrue, ⊤}
use Rattle.std.specs.Borrow.{Bor}
use Rattle.store.specs.declared.state.State.{Ghosts}
use Rattle.names.specs.Names.{repo_text}
use Rattle.names.specs.Texts.{is_repo}
use Rattle.names.specs.declared.bodies.BodyFault.{BodyFault}
use Rattle.names.specs.declared.rules.Rule.TheVariants.{X2}
use Rattle.names.specs.declared.texts.RepoName.{RepoName}
use Rattle.model.specs.World.{World, Object, name_of}
use Rattle.model.specs.Answers.{Answer, Denial, Plan, receives, stores, by_rule, store_refusal}
use Rattle.model.specs.Objects.{content_verdict}
use Rattle.tables.specs.Staging.{upload_number}
use Rattle.tables.specs.declared.fault.StoreFault.{StoreFault}
use Rattle.tables.specs.declared.rows.UploadId.{UploadId}
use Rattle.refinement.specs.Left.{Keeps, Gives}
use Rattle.refinement.specs.Staging.{Stages}
use Rattle.chunks.specs.Intakes.{HasTaken, HasArrived}
use Rattle.chunks.specs.declared.intake.Intake.{Intake}
use Rattle.chunks.specs.declared.intake.Arrival.{Arrival}
use Rattle.tokens.specs.declared.callers.CallerFault.{CallerFault}
use Rattle.tokens.specs.declared.callers.CallerFault.TheVariants as caller
use Rattle.desk.specs.declared.admission.RepoRequest.{RepoRequest}
use Rattle.desk.specs.declared.slices.Receiving.{Receiving}
use Rattle.desk.specs.declared.cases.Denial.TheVariants as denied
use Rattle.desk.specs.declared.outcomes.NotGranted.{NotGranted}
use Rattle.desk.specs.declared.outcomes.NotGranted.TheVariants as not_granted
use Rattle.desk.specs.declared.replies.Reply.{Reply}
use Rattle.desk.specs.declared.receiving.Receipt.{Receipt}
use Rattle.desk.specs.declared.receiving.Receipt.TheVariants.{Stored, Differs}
use Rattle.desk.specs.declared.receiving.ReceiveFault.{ReceiveFault}
use Rattle.desk.specs.declared.receiving.ReceiveFault.TheVariants as fault
use Rattle.desk.specs.Asking.{is_upload_of}
use Rattle.desk.specs.Objects.{DeniesIf}
use Rattle.desk.specs.Replies.{IsReplyOf, ShowsIf}
use Rattle.desk.specs.Rights.{denial_view}

-- the object of bytes that arrived
abbrev pub object_from : (repo name bytes : List ℕ) → Object
object_from repo name bytes = record { repo = repo; name = name; bytes = bytes }

-- the answer that a receipt reports
abbrev pub answer_of : Object → Receipt → Answer
answer_of o Stored = Ok (stores o)
answer_of o Differs = Err (by_rule X2)

module _ {S : Type 0} (g : Ghosts S) where
  -- the world is kept, and after an Ok the intake has taken these bytes too
  abbrev pub Takes : {T E : Type 0} → S → Intake → S → Intake → List ℕ → Result T E → World → Type 0
  Takes old i new j more r world =
      (repo name : List ℕ) (size : ℕ) (bytes : List ℕ) → HasTaken g old i repo name size bytes
      → Keeps g old new world × OnOk r (HasTaken g new j repo name size (bytes ++ more))

  -- these bytes arrived: the upload is staged, and its chunks and the last one are these bytes, of this name and number
  pub record HasAll (s : S) (id : UploadId) (arrival : Arrival) (repo name : List ℕ) (size : ℕ) (bytes : List ℕ) : Type 0 where
    pub arrived : HasArrived g s (upload_number id) arrival.last repo name size bytes
    pub named : arrival.name ≡ name_of bytes
    pub counted : arrival.size ≡ length bytes

  -- the world is kept, and after an Ok these bytes arrived
  abbrev pub Fills : {E : Type 0} → S → S → UploadId → ℕ → List ℕ → Result Arrival E → World → Type 0
  Fills old new id size bytes r world =
      (repo name : List ℕ) → Stages g old (upload_number id) repo name size []
      → Keeps g old new world × IfOk r (λ arrival. HasAll new id arrival repo name size bytes)

  -- the verdict on the object was given and carried out, as the receipt reports; or the store refused
  abbrev pub Carries : S → S → World → Object → Result Receipt StoreFault → Type 0
  Carries old new world o (Ok receipt) =
      (content_verdict o ≡ answer_of o receipt) × Gives g old new world (content_verdict o) (content_verdict o)
  Carries old new world o (Err f) = Gives g old new world (content_verdict o) store_refusal

  -- an upload whose bytes arrived, as many as it was begun with, was answered
  abbrev pub Settles : S → S → UploadId → Arrival → Result Receipt StoreFault → World → Type 0
  Settles old new id arrival r world =
      (repo name bytes : List ℕ) → IsTrue (is_repo repo) → HasAll old id arrival repo name arrival.size bytes
      → Carries old new world (object_from repo name bytes) r

  -- these bytes of an upload arrived, and `left` more did not. It was answered if none is left. If the store refused,
  -- it was answered whatever the rest is, and the world is kept unless all arrived; if the bytes ended, the world is kept
  abbrev pub Receives : S → S → World → (repo name bytes : List ℕ) → (left : ℕ) → Result Receipt ReceiveFault → Type 0
  Receives old new world repo name bytes left (Ok receipt) =
      Carries old new world (object_from repo name bytes) (Ok receipt)
  Receives old new world repo name bytes left (Err (fault.Store f)) =
      ((rest : List ℕ) → length rest ≡ left → Carries old new world (object_from repo name (bytes ++ rest)) (Err f))
      × (0 < left → Keeps g old new world)
  Receives old new world repo name bytes left (Err (fault.Body cause)) = Keeps g old new world

  -- the same of an upload that was staged without bytes, for a repository and with a name
  abbrev pub ReceivesStaged : S → S → UploadId → (size : ℕ) → (bytes : List ℕ) → (left : ℕ) → Result Receipt ReceiveFault → World → Type 0
  ReceivesStaged old new id size bytes left r world =
      (repo name : List ℕ) → IsTrue (is_repo repo) → size ≡ length bytes + left → Stages g old (upload_number id) repo name size []
      → Receives old new world repo name bytes left r

-- the reply that a receipt leads to: 200, which takes no memory, or X2; the store refusal if the store refused or memory
-- ran out; or the fault by which the content was cut off
abbrev pub RepliesReceived : Result Receipt ReceiveFault → Result Reply BodyFault → Type 0
RepliesReceived (Ok Stored) (Ok reply) = (o : Object) → IsReplyOf reply (Ok (stores o))
RepliesReceived (Ok Differs) (Ok reply) = ShowsIf (Err (by_rule X2)) reply
RepliesReceived (Err (fault.Store f)) (Ok reply) = IsReplyOf reply store_refusal
RepliesReceived (Err (fault.Body f)) (Err cut) = cut ≡ f
RepliesReceived _ _ = ⊥

-- ---- an upload that is judged by itself

-- why a request without a caller is not granted
abbrev pub uncalled : CallerFault → NotGranted
uncalled (caller.Rule rule) = not_granted.Denied (denied.Rule rule)
uncalled (caller.Store fault) = not_granted.Store fault

-- the plan is to receive an object of this name in this repository, or it is this denial; or the store refused
abbrev pub JudgesUpload : (repo : List ℕ) → Result Plan Denial → Result (Bor RepoName × Bor (List ℕ)) NotGranted → Type 0
JudgesUpload repo plan (Ok (home, name)) = (repo_text home.now ≡ repo) × (plan ≡ Ok (receives name.now))
JudgesUpload repo plan (Err refused) = DeniesIf refused plan

-- the reply to an upload that is not granted: that to its denial, before its content is read, or the store refusal
abbrev pub RefusesUpload : NotGranted → Reply → Type 0
RefusesUpload (not_granted.Denied denial) reply = ShowsIf (Err (denial_view denial)) reply × (reply.body_read ≡ false)
RefusesUpload (not_granted.Store fault) reply = IsReplyOf reply store_refusal × (reply.body_read ≡ true)

-- ---- an upload that is received in slices

module _ {S : Type 0} (g : Ghosts S) where
  -- the upload is staged under its name and size in its repository, these bytes of it have arrived, and this number has not
  pub record IsReceiving (s : S) (r : Receiving) (bytes : List ℕ) : Type 0 where
    pub upload : r.intake.upload ≡ r.upload
    pub taken : HasTaken g s r.intake (repo_text r.repo) r.name r.size bytes
    pub left : length bytes + r.left ≡ r.size

  -- all bytes of the upload have arrived, and they are these; and the request uploads an object
  pub record HasReceived (s : S) (r : Receiving) (asked : RepoRequest) (bytes : List ℕ) : Type 0 where
    pub receiving : IsReceiving s r bytes
    pub all : r.left ≡ 0
    pub uploads : is_upload_of asked ≡ true
