-- What is done for an operator: the task of the command that his request names.
use Rattle.std.specs.Prelude.{◌≡◌, ◌⊎◌, ◌++◌, ℕ, All, Bool, true, false, List, [], ◌∷◌, flat_map, map, length, option_map, Option, Some, None, Result, Ok, Err, IfErr, ⊤}
use Rattle.outbox.specs.declared.operator_stream.OperatorStream.{OperatorStream}
use Rattle.store.specs.declared.state.State.{Ghosts}
use Rattle.hex.specs.Hex.{encode_lower}
use Rattle.names.specs.Names.{path_text, repo_text, user_text}
use Rattle.policy.specs.Values.{policy_view}
use Rattle.policy.specs.declared.policies.Policy.{Policy}
use Rattle.model.specs.World.{World}
use Rattle.model.specs.Operator as model
use Rattle.model.specs.Steps.{Event}
use Rattle.tokens.specs.Issuing.{token_asked}
use Rattle.tokens.specs.declared.requests.TokenRequest.{TokenRequest}
use Rattle.control.specs.Requests.{Request, IsReadAs, prefix_bytes}
use Rattle.control.specs.Replies.{IsPiece, Piece, piece_bytes, status_code}
use Rattle.control.specs.Versions.{refusal_bytes, version}
use Rattle.control.specs.declared.status.Status.{Status}
use Rattle.control.specs.declared.status.Status.TheVariants.{Good}
use Rattle.service.specs.Messages.{IsRequestOf}
use Rattle.command_line.specs.Words.{command_words}
use Rattle.command_line.specs.declared.args.OperatorCommand.{OperatorCommand}
use Rattle.command_line.specs.declared.args.OperatorCommand.TheVariants as command
use Rattle.command_line.specs.declared.args.ForeseeArgs.{ForeseeArgs}
use Rattle.command_line.specs.declared.args.MayArgs.{MayArgs}
use Rattle.command_line.specs.declared.args.PushArgs.{PushArgs}
use Rattle.command_line.specs.declared.args.TokenArgs.{TokenArgs}
use Rattle.operator.specs.Listed.{AreLinesOf}
use Rattle.operator.specs.Paths.{HasRepo, IsRepoAt}
use Rattle.operator.specs.Tasks.{HasEnded, WorksAs}
use Rattle.operator.specs.declared.faults.TaskFault.{TaskFault}
use Rattle.operator.specs.declared.foreseeing.Foresight.{Foresight}
use Rattle.operator.specs.declared.inspecting.Inspection.{Inspection}
use Rattle.operator.specs.declared.inspecting.Purpose.{Purpose}
use Rattle.operator.specs.declared.inspecting.Purpose.TheVariants.{Check, Repair}
use Rattle.operator.specs.declared.permitting.AccessQuestion.{AccessQuestion}
use Rattle.operator.specs.declared.pushing.Push.{Push}
use Rattle.operator.specs.declared.tasks.Task.{Task}
use Rattle.operator.specs.declared.tasks.Task.TheVariants as task
use Rattle.machine.specs.Observations.{Observation, timed, drawn, finished, received, sent, loaded, waited}
use Rattle.server.specs.Given.{IsGiven}
use Rattle.faults.specs.Statuses.{ended_of, status_of, status_of_end}
use Rattle.faults.specs.declared.faults.Fault.{Fault}
use Rattle.faults.specs.declared.faults.Fault.TheVariants.{HoldOver}
use Rattle.faults.specs.declared.faults.Fault.TheVariants as refusal
use Rattle.server.specs.declared.foreseeing.GivenMessage.{GivenMessage}
use Rattle.server.specs.declared.outcomes.Outcome.{Outcome}
use Rattle.server.specs.declared.outcomes.Outcome.TheVariants.{Unchanged, Stopped, Reloaded, Began}
use Rattle.server.specs.declared.waiting.Waiting.{Waiting}

-- ---- the task of a command

-- the moment of a command: the one that it names, or the machine's
abbrev pub IsMomentOf : Option ℕ → ℕ → List Observation → Type 0
IsMomentOf (Some named) now seen = (now ≡ named) × (seen ≡ [])
IsMomentOf None now seen = seen ≡ timed now ∷ []

-- the token that the arguments ask for, of these random bytes
abbrev pub token_for : TokenArgs → (repo : List ℕ) → (now seconds : ℕ) → (random : List ℕ) → model.TokenRequest
token_for asked repo now seconds random = record {
  text = encode_lower random;
  user = user_text asked.user;
  repo = repo;
  operation = asked.operation;
  now = now;
  seconds = seconds;
}

-- a token of the machine's random bytes, for the user, the operation and the policy's repository that are asked for, valid for
-- as long as the policy says from its moment on
abbrev pub IsAskedToken : Policy → TokenArgs → List Observation → TokenRequest → Type 0
IsAskedToken policy asked seen request =
    (now : ℕ) × (before : List Observation) × IsMomentOf asked.now now before
    × (random : List ℕ) × (seen ≡ before ++ drawn random ∷ [])
    × (repo : List ℕ) × IsRepoAt asked.path.now repo × HasRepo (policy_view policy) repo
    × (token_asked request ≡ token_for asked repo now (policy_view policy).token_seconds random)

-- what Git asks of the policy's repository for the user
abbrev pub IsAccessOf : Policy → MayArgs → AccessQuestion → Type 0
IsAccessOf policy asked question =
    (question.policy.now ≡ policy) × (question.user.now ≡ asked.user) × (question.repo.now ≡ asked.repo)
    × (question.access ≡ asked.access) × HasRepo (policy_view policy) (repo_text asked.repo)

-- a push to the ref by the user, under the policy, of the paths in the lines of the input
abbrev pub IsPushOf : Policy → PushArgs → (input : List ℕ) → Push → Type 0
IsPushOf policy asked input push =
    (push.policy.now ≡ policy) × (push.user.now ≡ asked.user) × (push.repo.now ≡ asked.repo)
    × (push.ref_name.now ≡ asked.ref_name) × AreLinesOf input (map path_text push.paths.items)

-- the request of a message and its body
abbrev pub IsMessageOf : GivenMessage → Foresight → Type 0
IsMessageOf message f = IsRequestOf message.asked message.request f.request × (f.body.now ≡ message.body.now)

-- a message of the user to the repository at the moment, under the policy
abbrev pub IsForesightOf : Policy → ForeseeArgs → (now : ℕ) → GivenMessage → Foresight → Type 0
IsForesightOf policy asked now message f =
    (f.policy.now ≡ policy) × (f.user.now ≡ asked.user) × (f.repo.now ≡ asked.repo) × (f.now ≡ now) × IsMessageOf message f

-- the task of a command: under the policy, on the input, with what was observed of the machine
abbrev pub IsTaskOf : Policy → OperatorCommand → (input : List ℕ) → List Observation → Task → Type 0
IsTaskOf policy (command.Authenticate asked) input seen (task.Issue by request) =
    (by.now ≡ policy) × IsAskedToken policy asked seen request
IsTaskOf policy (command.Prune named) input seen (task.Prune now) = IsMomentOf named now seen
IsTaskOf policy (command.May asked) input seen (task.May question) = IsAccessOf policy asked question × (seen ≡ [])
IsTaskOf policy (command.PushCheck asked) input seen (task.CheckPush push) =
    IsPushOf policy asked input push × (seen ≡ [])
IsTaskOf policy (command.Foresee asked) input seen (task.Foresee f) =
    (now : ℕ) × IsMomentOf asked.now now seen
    × (message : GivenMessage) × IsGiven input asked.repo message × IsForesightOf policy asked now message f
IsTaskOf policy (command.Locks asked) input seen (task.ListLocks repo) = (repo.now ≡ asked) × (seen ≡ [])
IsTaskOf policy (command.Objects asked) input seen (task.ListObjects repo) = (repo.now ≡ asked) × (seen ≡ [])
IsTaskOf policy command.Check input seen (task.CheckObjects terminal) = seen ≡ []
IsTaskOf policy command.Repair input seen (task.Repair terminal) = seen ≡ []
IsTaskOf policy command.Sweep input seen task.Sweep = seen ≡ []
IsTaskOf policy (command.Retire asked) input seen (task.Retire repo oid) =
    (repo.now ≡ asked.repo) × (oid.now ≡ asked.oid) × (seen ≡ [])
IsTaskOf policy (command.Tokens asked) input seen (task.ListTokens repo now) =
    (repo.now ≡ asked.repo) × IsMomentOf asked.now now seen
IsTaskOf policy (command.Usage named) input seen (task.Usage by now) = (by.now ≡ policy) × IsMomentOf named now seen
IsTaskOf policy _ input seen _ = ⊥

-- a task that needs nothing but the command
abbrev pub IsPlainTask : OperatorCommand → Task → Type 0
IsPlainTask command task = (policy : Policy) (input : List ℕ) → IsTaskOf policy command input [] task

-- the command has a moment or an input, or is for the server itself
abbrev pub NeedsMore : OperatorCommand → Type 0
NeedsMore (command.Locks repo) = ⊥
NeedsMore (command.Objects repo) = ⊥
NeedsMore command.Check = ⊥
NeedsMore command.Repair = ⊥
NeedsMore command.Sweep = ⊥
NeedsMore (command.Retire asked) = ⊥
NeedsMore _ = ⊤

-- ---- what was done

-- a task ended so, and so did its command
pub record RunsAs {S : Type 0} (g : Ghosts S) (old new : S) (world : World) (task : Task) (ended : Result ⊤ Fault) : Type 0 where
  pub tried : Result ⊤ TaskFault
  pub is : ended ≡ ended_of tried
  pub works : WorksAs g old new world task tried

-- nothing was sent or received
abbrev pub AreReadings : List Observation → Type 0
AreReadings [] = ⊤
AreReadings (timed now ∷ seen) = AreReadings seen
AreReadings (drawn bytes ∷ seen) = AreReadings seen
AreReadings (loaded policy ∷ seen) = AreReadings seen
AreReadings (waited operator seconds closed ∷ seen) = AreReadings seen
AreReadings (_ ∷ seen) = ⊥

-- a command with a task ended so: as its task did; or with a fault, and nothing was done
abbrev pub IsDone : Policy → OperatorCommand → (input : List ℕ) → Result ⊤ Fault → World → List Observation → List Event → (kept : World) → Type 0
IsDone policy command input ended world seen steps kept =
    ((fault : Fault) × (ended ≡ Err fault) × (steps ≡ []) × AreReadings seen)
    ⊎ ((task : Task) × IsTaskOf policy command input seen task
    × (tried : Result ⊤ TaskFault) × (ended ≡ ended_of tried) × HasEnded world task steps kept tried)

-- ---- commands for the server itself

-- an inspection for this purpose was begun while no other one went on, and no object is found damaged yet
pub record Inspects (purpose : Purpose) (busy : Bool) (inspection : Inspection) : Type 0 where
  pub free : busy ≡ false
  pub same : inspection.purpose ≡ purpose
  pub none : inspection.damaged ≡ 0

-- such an inspection was begun
abbrev pub IsInspection : Purpose → (busy : Bool) → Outcome → Type 0
IsInspection purpose busy (Began inspection) = Inspects purpose busy inspection
IsInspection purpose busy _ = ⊥

-- these bytes are pieces of a reply, and none of them is its end
abbrev pub ArePieces : List ℕ → Type 0
ArePieces bytes = ∥ ((pieces : List Piece) × All IsPiece pieces × (bytes ≡ flat_map piece_bytes pieces)) ∥₁

-- pieces of a reply were sent to the operator
abbrev pub AreSent : OperatorStream → List Observation → Type 0
AreSent operator seen = (bytes : List ℕ) × ArePieces bytes × (seen ≡ sent operator bytes ∷ [])

-- pieces were sent to the operator, who was waited for then, at most this many seconds, and closed his side or not
abbrev pub IsHeld : OperatorStream → (seconds : ℕ) → (closed : Bool) → List Observation → Type 0
IsHeld operator seconds closed seen =
    (bytes : List ℕ) × ArePieces bytes × (seen ≡ sent operator bytes ∷ waited operator seconds closed ∷ [])

-- the policy file was read, and pieces were sent to the operator
abbrev pub IsReloaded : OperatorStream → Policy → List Observation → Type 0
IsReloaded operator policy seen =
    (bytes : List ℕ) × ArePieces bytes × (seen ≡ loaded policy ∷ sent operator bytes ∷ [])

-- a command for the server itself was obeyed, and ended so: it waited until the operator closed his side, if that was within the
-- time; it is to stop; it has the policy of the file; it printed how it is; or it goes on with a check or a repair that was begun
-- while it was not busy with another one
abbrev pub IsObeyed : (busy : Bool) → OperatorStream → OperatorCommand → Result Outcome Fault → List Observation → Type 0
IsObeyed busy operator command.Check (Ok (Began inspection)) seen = Inspects Check busy inspection × (seen ≡ [])
IsObeyed busy operator command.Repair (Ok (Began inspection)) seen = Inspects Repair busy inspection × (seen ≡ [])
IsObeyed busy operator (command.Hold seconds) (Ok Unchanged) seen = IsHeld operator seconds true seen
IsObeyed busy operator (command.Hold seconds) (Err HoldOver) seen = IsHeld operator seconds false seen
IsObeyed busy operator command.Stop (Ok Stopped) seen = seen ≡ []
IsObeyed busy operator command.Reload (Ok (Reloaded policy)) seen = IsReloaded operator policy seen
IsObeyed busy operator command.Status (Ok Unchanged) seen = seen ≡ []
IsObeyed busy operator _ _ seen = ⊥

-- a command for the server itself was obeyed; or it ended with a fault, and nothing was done
abbrev pub Obeys : (busy : Bool) → OperatorStream → OperatorCommand → Result Outcome Fault → List Observation → Type 0
Obeys busy operator command ended seen =
    IsObeyed busy operator command ended seen ⊎ ((fault : Fault) × (ended ≡ Err fault) × AreReadings seen)

-- how a command ended that has a task, which ended so
abbrev pub ended_as : Result ⊤ Fault → Result Outcome Fault
ended_as (Ok done) = Ok Unchanged
ended_as (Err fault) = Err fault

-- a command ended so: it was obeyed, and no step was taken; or as its task did
abbrev pub HasEndedSo : Policy → (busy : Bool) → OperatorStream → OperatorCommand → (input : List ℕ) → Result Outcome Fault → World → List Observation → List Event → (kept : World) → Type 0
HasEndedSo policy busy operator command input ended world seen steps kept =
    (IsObeyed busy operator command ended seen × (steps ≡ []))
    ⊎ ((done : Result ⊤ Fault) × (ended ≡ ended_as done) × IsDone policy command input done world seen steps kept)

-- the policy of a server after a command with this outcome
abbrev pub policy_after : Policy → Outcome → Policy
policy_after policy (Reloaded other) = other
policy_after policy _ = policy

-- the server is to stop
abbrev pub is_stopped : Outcome → Bool
is_stopped Stopped = Bool.true
is_stopped _ = Bool.false

-- ---- requests

-- the request for a command with this input
abbrev pub request_for : OperatorCommand → (input : List ℕ) → Request
request_for command input = record { input = input; words = command_words command }

-- a request ended so: as the command that it is for; or with a fault, and nothing was done
abbrev pub IsRequestDone : Policy → (busy : Bool) → OperatorStream → (body : List ℕ) → Result Outcome Fault → World → List Observation → List Event → (kept : World) → Type 0
IsRequestDone policy busy operator body ended world seen steps kept =
    ((fault : Fault) × (ended ≡ Err fault) × (steps ≡ []) × (seen ≡ []))
    ⊎ ((command : OperatorCommand) × (input : List ℕ) × IsReadAs body (request_for command input)
    × HasEndedSo policy busy operator command input ended world seen steps kept)

-- the bytes of a request were received from the operator: the version and their number, and then these
abbrev pub IsReceived : OperatorStream → (body : List ℕ) → List Observation → Type 0
IsReceived operator body seen = seen ≡ received operator (prefix_bytes (length body)) ∷ received operator body ∷ []

-- nothing was observed but bytes that were received, and at most the refusal of another version that was sent
abbrev pub IsSilent : List Observation → Type 0
IsSilent [] = ⊤
IsSilent (received operator bytes ∷ seen) = IsSilent seen
IsSilent (sent operator bytes ∷ []) = bytes ≡ refusal_bytes
IsSilent (_ ∷ seen) = ⊥

-- ---- replies

-- the beginning of a reply was sent to the operator
abbrev pub IsReplyBegun : OperatorStream → List Observation → Type 0
IsReplyBegun operator seen = seen ≡ sent operator (version ∷ []) ∷ []

-- pieces of a reply were sent to the operator, and then its end with this status; or no end, or nothing
abbrev pub IsReplied : OperatorStream → Status → List Observation → Type 0
IsReplied operator status seen =
    (seen ≡ []) ⊎ AreSent operator seen
    ⊎ ((bytes : List ℕ) × ArePieces bytes × (seen ≡ sent operator bytes ∷ finished operator (status_code status ∷ []) ∷ []))

-- an inspection was begun
abbrev pub is_begun : Outcome → Bool
is_begun (Began inspection) = true
is_begun _ = false

-- the end of a reply to a request that ended so was sent to the operator, or none; none if an inspection was begun
abbrev pub IsEnded : OperatorStream → Result Outcome Fault → List Observation → Type 0
IsEnded operator (Ok outcome) seen =
    (is_begun outcome ≡ true → seen ≡ []) × (is_begun outcome ≡ false → IsReplied operator Good seen)
IsEnded operator (Err fault) seen = IsReplied operator (status_of fault) seen

-- what became of the server after a request that ended so
abbrev pub became_of : Result Outcome Fault → Outcome
became_of (Ok outcome) = outcome
became_of (Err fault) = Unchanged

-- a request was received from the operator and done, and the reply has pieces and ends with the status with which it ended; or an
-- inspection was begun, and the reply goes on
pub record IsRequestServed (policy : Policy) (busy : Bool) (operator : OperatorStream) (outcome : Outcome) (world : World) (seen : List Observation) (steps : List Event) (kept : World) : Type 0 where
  pub body : List ℕ
  pub ended : Result Outcome Fault
  pub asked : List Observation
  pub begin : List Observation
  pub own : List Observation
  pub end : List Observation
  pub are : seen ≡ asked ++ begin ++ own ++ end
  pub read : IsReceived operator body asked
  pub begun : IsReplyBegun operator begin
  pub done : IsRequestDone policy busy operator body ended world own steps kept
  pub replied : IsEnded operator ended end
  pub made : outcome ≡ became_of ended

-- an operator's request was served; or nothing was done
abbrev pub IsAnswered : Policy → (busy : Bool) → OperatorStream → Outcome → World → List Observation → List Event → (kept : World) → Type 0
IsAnswered policy busy operator outcome world seen steps kept =
    IsRequestServed policy busy operator outcome world seen steps kept
    ⊎ ((outcome ≡ Unchanged) × (steps ≡ []) × IsSilent seen)

-- ---- inspections

-- an inspection ends with this fault: the database refused, memory ran out, or what it sends could not be sent; none says that an
-- object is damaged
abbrev pub IsInspectionFault : Fault → Type 0
IsInspectionFault (refusal.Store fault) = ⊤
IsInspectionFault refusal.Memory = ⊤
IsInspectionFault refusal.Output = ⊤
IsInspectionFault refusal.Operator = ⊤
IsInspectionFault _ = ⊥

-- the operator's inspection has ended: its reply ends with the status with which it ended, and no damage is reported
abbrev pub HasInspected : OperatorStream → List Observation → Type 0
HasInspected operator seen = (ended : Result ⊤ Fault) × IfErr ended IsInspectionFault × IsReplied operator (status_of_end ended) seen

-- an operator's inspection went on, and he is sent pieces of his reply; or it has ended, and nobody waits
abbrev pub IsGoneOn : OperatorStream → (waiting : Option OperatorStream) → World → List Observation → List Event → (kept : World) → Type 0
IsGoneOn operator (Some stream) world seen steps kept = (stream ≡ operator) × (steps ≡ []) × AreSent operator seen
IsGoneOn operator None world seen steps kept = (steps ≡ []) × HasInspected operator seen

-- no object was found damaged
abbrev pub IsClean : Option Waiting → Type 0
IsClean None = ⊤
IsClean (Some waiting) = waiting.inspection.damaged ≡ 0

-- pieces were sent to the operator, who waits for more; or he has gone, and nobody waits
abbrev pub IsSentOn : OperatorStream → Option Waiting → List Observation → Type 0
IsSentOn operator (Some waiting) seen = (waiting.stream ≡ operator) × AreSent operator seen
IsSentOn operator None seen = seen ≡ []

-- the operator who waits, if there is one
abbrev pub operator_in : Option Waiting → Option OperatorStream
operator_in waiting = option_map (λ w. w.stream) waiting
