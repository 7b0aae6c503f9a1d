-- What a server does: a list of jobs, each for somebody who called it.
use Rattle.std.specs.Prelude.{◌≡◌, ◌⊎◌, ◌++◌, ℕ, ◌≤◌, ◌+◌, Bool, true, false, flat_map, is_none, is_some, sum_by, List, [], ◌∷◌, map, Option, Some, None, MatchOption, Result, Ok, Err, if◌then◌else◌, IfSome, ⊤}
use Rattle.outbox.specs.declared.operator_stream.OperatorStream.{OperatorStream}
use Rattle.store.specs.declared.state.State.{Ghosts}
use Rattle.policy.specs.declared.policies.Policy.{Policy}
use Rattle.model.specs.World.{World, Object}
use Rattle.std.specs.Io.KnownBytes.{Appends, Consumes, IsAtEnd}
use Rattle.model.specs.Cases.{Setting}
use Rattle.model.specs.Sessions.{IsSession, IsUnread, Session, session_text}
use Rattle.model.specs.Steps.{Event, Run, exchanged}
use Rattle.downloads.specs.declared.download.Download.{Download}
use Rattle.downloads.specs.Downloads.{closes_of}
use Rattle.service.specs.Later.{IsThisObject, LastCloses}
use Rattle.service.specs.Served.{end_seen}
use Rattle.service.specs.declared.ends.End.TheVariants.{InputEnded}
use Rattle.service.specs.declared.ends.Served.{Served}
use Rattle.desk.specs.Asking.{setting_of}
use Rattle.clients.specs.declared.client.Client as sockets
use Rattle.sockets.specs.declared.queue.Caller.{Caller}
use Rattle.sockets.specs.declared.queue.Caller.TheVariants.{Client, Operator}
use Rattle.operator.specs.Works.{Works, steps_of}
use Rattle.machine.specs.declared.machine.Machine as machine
use Rattle.machine.specs.Observations.{Observation, Talk, called, talked, timed}
use Rattle.server.specs.Commands.{AreSent, HasInspected, IsAnswered, IsClean, is_stopped, operator_in, policy_after}
pub use Rattle.machine.specs.Calls.{Call, Calls, idles, observes, seen_in}
use Rattle.transfers.specs.Transfers.{IsClosed, IsNextPart, IsNumberOf, IsOwedNothing, LeavesRest, Owed}
use Rattle.faults.specs.declared.faults.Fault.{Fault}
use Rattle.server.specs.declared.outcomes.Outcome.{Outcome}
use Rattle.server.specs.declared.outcomes.Outcome.TheVariants.{Unchanged, Began}
use Rattle.server.specs.declared.server.Finish.{Finish}
use Rattle.server.specs.declared.waiting.Waiting.{Waiting}

-- ---- jobs

-- why a job is done: somebody called; or an operator waits for the rest of an inspection, which goes on, or ends
pub data Reason : Type 0 where
  for_caller : Caller → Reason
  goes_on : Reason
  ends : Reason

-- why it is done, what was observed of the machine meanwhile, the steps that were taken, what became of the server, and what is
-- owed to clients after it
pub record Job : Type 0 where
  pub reason : Reason
  pub seen : List Observation
  pub steps : List Event
  pub outcome : Outcome
  pub owes : List Owed

-- what a server goes by: its policy, the operator who waits for the rest of an inspection, and what is owed to clients
pub record ServerState : Type 0 where
  pub policy : Policy
  pub waiting : Option OperatorStream
  pub owed : List Owed

-- what was observed before a job: the call
abbrev pub seen_before : Reason → List Observation
seen_before (for_caller caller) = called caller ∷ []
seen_before _ = []

-- what was observed for a job
abbrev pub seen_for : Job → List Observation
seen_for job = seen_before job.reason ++ job.seen

-- no message of the client was served: nothing was observed, or the moment alone, or his connection was closed then
abbrev pub ServesNothing : sockets.Client → List Observation → Type 0
ServesNothing client [] = ⊤
ServesNothing client (timed now ∷ seen) = (seen ≡ []) ⊎ IsClosed client seen
ServesNothing client _ = ⊥

-- a talk with a client that ended so is a session of the definitions under the setting: its exchanges answer the bytes that were
-- read, in order, all of them if no more came; what they write is what the client was sent; and they are the steps that were
-- taken. If the content of an object is left to be sent, the replies are whole with it, and the last one says whether the
-- connection is closed then. Or there was no memory to read with, and he was sent the store's refusal
pub record IsTalk (setting : Setting) (talk : Talk) (served : Served) (later : Option Download) (world : World) (steps : List Event) (kept : World) : Type 0 where
  pub session : Session
  pub under : session.setting ≡ setting
  pub answered : session.answered ≡ served.answered
  pub read : Consumes talk.left talk.rest session.bytes
  pub written : Appends talk.was talk.is session.written
  pub is : IsSession session (end_seen served.end) world kept ⊎ IsUnread session (end_seen served.end) world kept
  pub steps_are : steps ≡ map exchanged session.exchanges
  pub ended : served.end ≡ InputEnded → IsAtEnd talk.rest
  pub owes : IfSome later (λ d. (o : Object) × IsThisObject d kept o
      × (session.written ++ o.bytes ≡ session_text session.exchanges) × LastCloses session.exchanges (closes_of d))

-- a turn of a client: a talk with this client, under the policy and at the machine's moment, after which the content of an object
-- may be owed to him; or no step, and his message was not served
abbrev pub IsTurn : Policy → sockets.Client → (owed owes : List Owed) → World → List Observation → List Event → (kept : World) → Type 0
IsTurn policy client owed owes world seen steps kept =
    ((owes ≡ owed) × (steps ≡ []) × ServesNothing client seen)
    ⊎ ((now number : ℕ) × (talk : Talk) × (served : Served) × (later : Option Download) × (after : List Observation)
    × (seen ≡ timed now ∷ talked client talk served ∷ after) × IsTalk (setting_of policy now) talk served later world steps kept
    × IsNumberOf client number × LeavesRest client number later owed owes after)

-- a client who called is served: he has a turn if nothing is owed to him; else he is sent the next part, and no step is taken
abbrev pub IsClientServed : Policy → sockets.Client → (owed owes : List Owed) → World → List Observation → List Event → (kept : World) → Type 0
IsClientServed policy client owed owes world seen steps kept =
    (IsOwedNothing client owed × IsTurn policy client owed owes world seen steps kept)
    ⊎ (IsNextPart client owed owes world seen × (steps ≡ []))

-- the steps are those that the caller asked for, with what was observed; none for an operator who waits, who is sent more pieces
-- of his reply, or its end. Only a client's job changes what is owed
abbrev pub IsFor : ServerState → Reason → Outcome → (owes : List Owed) → World → List Observation → List Event → (kept : World) → Type 0
IsFor s (for_caller (Client client)) outcome owes world seen steps kept =
    IsClientServed s.policy client s.owed owes world seen steps kept × (outcome ≡ Unchanged)
IsFor s (for_caller (Operator stream)) outcome owes world seen steps kept =
    IsAnswered s.policy (is_some s.waiting) stream outcome world seen steps kept × (owes ≡ s.owed)
IsFor s goes_on outcome owes world seen steps kept =
    MatchOption s.waiting ⊥ (λ operator. AreSent operator seen) × (steps ≡ []) × (outcome ≡ Unchanged) × (owes ≡ s.owed)
IsFor s ends outcome owes world seen steps kept =
    MatchOption s.waiting ⊥ (λ operator. HasInspected operator seen) × (steps ≡ []) × (outcome ≡ Unchanged) × (owes ≡ s.owed)

-- who waits for the rest of an inspection after a job
abbrev pub waiting_after : Option OperatorStream → Reason → Outcome → Option OperatorStream
waiting_after waiting (for_caller (Operator stream)) (Began inspection) = Some stream
waiting_after waiting ends outcome = None
waiting_after waiting _ _ = waiting

-- what a server goes by after a job
abbrev pub state_after : ServerState → Job → ServerState
state_after s job = record {
  policy = policy_after s.policy job.outcome;
  waiting = waiting_after s.waiting job.reason job.outcome;
  owed = job.owes;
}

-- each job is done for its caller or for the operator who waits, in the world that the jobs before it have left, under the policy
-- that was read last, and with what is owed to clients since then
abbrev pub AreJobs : ServerState → World → List Job → World → Type 0
AreJobs s world [] kept = kept ≡ world
AreJobs s world (job ∷ jobs) kept =
    (after : World) × IsFor s job.reason job.outcome job.owes world job.seen job.steps after × Run world job.steps after
    × AreJobs (state_after s job) after jobs kept

-- what a server goes by after the jobs
abbrev pub state_left : ServerState → List Job → ServerState
state_left s [] = s
state_left s (job ∷ jobs) = state_left (state_after s job) jobs

-- what a server begins with: nobody waits, and nothing is owed
abbrev pub first_state : Policy → ServerState
first_state policy = record { policy = policy; waiting = None; owed = [] }

-- what a server goes by that has this policy, this operator who waits, and owes this
abbrev pub server_state : Policy → Option Waiting → List Owed → ServerState
server_state policy waiting owed = record { policy = policy; waiting = operator_in waiting; owed = owed }

-- whether the server is to stop after the last job; it is not to stop after an earlier one
abbrev pub AreStopped : Bool → List Job → Type 0
AreStopped stopped [] = stopped ≡ false
AreStopped stopped (job ∷ []) = is_stopped job.outcome ≡ stopped
AreStopped stopped (job ∷ jobs) = (is_stopped job.outcome ≡ false) × AreStopped stopped jobs

-- whether a caller has stopped the server
abbrev pub has_stopped : Result (Option OperatorStream) Fault → Bool
has_stopped (Ok operator) = is_some operator
has_stopped (Err fault) = false

-- 1 for the first turn of a connection
abbrev pub first_turn : Caller → ℕ
first_turn (Client client) = if is_none client.number then 1 else 0
first_turn (Operator stream) = 0

-- 1 for a job that is the first turn of a connection
abbrev pub turn_in : Reason → ℕ
turn_in (for_caller caller) = first_turn caller
turn_in _ = 0

-- how many connections had a turn
abbrev pub connections : List Job → ℕ
connections jobs = sum_by (λ job. turn_in job.reason) jobs

-- how a server ended after the jobs: the last one stopped it, or as many connections had a turn as were to be served; or with a
-- fault
abbrev pub HasFinished : (most : ℕ) → List Job → Result Finish Fault → Type 0
HasFinished most jobs (Ok finish) =
    (finish.connections ≤ connections jobs) × AreStopped (is_some finish.stopped_by) jobs
    × (finish.stopped_by ≡ None → finish.connections ≡ most)
HasFinished most jobs (Err fault) = AreStopped false jobs

-- ---- calls of the store

module _ {S : Type 0} (g : Ghosts S) where
  -- the talk led the store by the steps of its exchanges
  pub record Converses (setting : Setting) (talk : Talk) (served : Served) (later : Option Download) (old new : S) (world : World) : Type 0 where
    pub done : Works g old new world
    pub is : IsTalk setting talk served later world (steps_of done.works) done.kept

  -- calls that take no step
  abbrev pub Tidies : (old new : S) → World → Type 0
  Tidies old new world = (done : Works g old new world) × (steps_of done.works ≡ [])

  -- jobs, one after the other, whoever the callers are
  pub record ServesAll (policy : Policy) (old new : S) (world : World) : Type 0 where
    pub jobs : List Job
    pub done : Works g old new world
    pub are_jobs : AreJobs (first_state policy) world jobs done.kept
    pub steps : steps_of done.works ≡ flat_map (λ job. job.steps) jobs

-- ---- a machine

module _ {M : Type 0} (m : machine.Ghosts M) where
  -- ---- a server

  module _ {S : Type 0} (g : Ghosts S) where
    -- for one caller: what was observed of the machine, and the steps by which the store was led
    pub record Helps (IsOwn : World → List Observation → List Event → World → Type 0) (old new : S) (was is : M) (world : World) : Type 0 where
      pub calls : List Call
      pub made : Calls m was calls is
      pub done : Works g old new world
      pub own : IsOwn world (seen_in calls) (steps_of done.works) done.kept

    -- jobs, one after the other: what was observed of the machine is what was observed for each of them, in this order, and
    -- the steps by which the store was led are theirs
    pub record Serves (s : ServerState) (old new : S) (was is : M) (world : World) (jobs : List Job) : Type 0 where
      pub calls : List Call
      pub made : Calls m was calls is
      pub done : Works g old new world
      pub are_jobs : AreJobs s world jobs done.kept
      pub seen : seen_in calls ≡ flat_map seen_for jobs
      pub steps : steps_of done.works ≡ flat_map (λ job. job.steps) jobs

    -- jobs were done, and no more connections had a turn than before, and had their first one in these jobs; this is what the server
    -- goes by after them, and whether the last one stopped it
    pub record ServesMore (s : ServerState) (old new : S) (was is : M) (world : World) (before after : ℕ) (left : ServerState) (stopped : Bool) : Type 0 where
      pub jobs : List Job
      pub serves : Serves s old new was is world jobs
      pub few : after ≤ before + connections jobs
      pub is_left : left ≡ state_left s jobs
      pub are_stopped : AreStopped stopped jobs

    -- the same, if nothing was found damaged before by the inspection that somebody waits for; and nothing was since
    abbrev pub ServesClean : (was is : Option Waiting) → ServerState → (old new : S) → (u v : M) → World → (before after : ℕ) → (left : ServerState) → Bool → Type 0
    ServesClean was is s old new u v world before after left stopped =
        IsClean was → ServesMore s old new u v world before after left stopped × IsClean is
