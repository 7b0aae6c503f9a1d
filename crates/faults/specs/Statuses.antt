-- The program's exit status, and the fault that it reports.
use Rattle.std.specs.Prelude.{Bool, Result, Ok, Err, ⊤}
use Rattle.service.specs.declared.ends.End.{End}
use Rattle.service.specs.declared.ends.End.TheVariants.{InputEnded, Closed, StoreRefused, ReadFailed, WriteFailed, StoreFailed}
use Rattle.service.specs.declared.reading.MessageFault.{MessageFault}
use Rattle.service.specs.declared.reading.MessageFault.TheVariants as message
use Rattle.command_line.specs.declared.faults.ArgsFault.{ArgsFault}
use Rattle.command_line.specs.declared.faults.ArgsFault.TheVariants as args
use Rattle.tables.specs.declared.fault.StoreFault.{StoreFault}
use Rattle.tables.specs.declared.fault.StoreFault.TheVariants as tables
use Rattle.tables.specs.declared.fault.OpenFault.{OpenFault}
use Rattle.tables.specs.declared.fault.OpenFault.TheVariants as opening
use Rattle.policy.specs.declared.faults.PolicyFault.{PolicyFault}
use Rattle.policy.specs.declared.faults.PolicyFault.TheVariants as policy
use Rattle.operator.specs.declared.faults.TaskFault.{TaskFault}
use Rattle.operator.specs.declared.faults.TaskFault.TheVariants as task
use Rattle.operator.specs.declared.paths.PathsFault.{PathsFault}
use Rattle.operator.specs.declared.paths.PathsFault.TheVariants as paths
use Rattle.control.specs.declared.request.RequestFault.{RequestFault}
use Rattle.control.specs.declared.request.RequestFault.TheVariants as request
use Rattle.control.specs.declared.status.Status.{Status}
use Rattle.control.specs.declared.status.Status.TheVariants.{Good, Refused, Invalid}
use Rattle.faults.specs.declared.faults.Fault.{Fault}
use Rattle.faults.specs.declared.faults.Fault.TheVariants.{Arguments, Value, BadPath, TooManyPaths, InputTooLong, NoMessage, NoCaller, NoObject, Clock, PolicyFile, Policy, PolicyDescribed, Repository, Random, Network, UnknownSchema, Store, Contents, Token, Memory, Output, Session, Control, Operator, Version, HoldOver, Busy, Request, Reported, ReportedInvalid}

-- invalid for a fault of the arguments, of the paths, of a request or of its size, the status that was reported, else refused
abbrev pub status_of : Fault → Status
status_of (Arguments _) = Invalid
status_of (Value _) = Invalid
status_of (BadPath _) = Invalid
status_of TooManyPaths = Invalid
status_of Request = Invalid
status_of InputTooLong = Invalid
status_of NoMessage = Refused
status_of NoCaller = Refused
status_of NoObject = Refused
status_of Clock = Refused
status_of PolicyFile = Refused
status_of (Policy _) = Refused
status_of (PolicyDescribed _ _) = Refused
status_of Repository = Refused
status_of Random = Refused
status_of Network = Refused
status_of UnknownSchema = Refused
status_of (Store _) = Refused
status_of (Contents _) = Refused
status_of (Token _) = Refused
status_of Memory = Refused
status_of Output = Refused
status_of (Session _) = Refused
status_of Control = Refused
status_of Operator = Refused
status_of Version = Refused
status_of HoldOver = Refused
status_of Busy = Refused
status_of Reported = Refused
status_of ReportedInvalid = Invalid

-- good if the command ended without a fault
abbrev pub status_of_end : {A : Type 0} → Result A Fault → Status
status_of_end (Ok x) = Good
status_of_end (Err fault) = status_of fault

-- arguments that are not a command, or memory ran out
abbrev pub of_args : ArgsFault → Fault
of_args (args.Rejected text) = Arguments text
of_args (args.Value name) = Value name
of_args args.NoCommand = Request
of_args args.Memory = Memory

-- a refusal by the database, or memory ran out
abbrev pub of_store : StoreFault → Fault
of_store tables.Refused = Store tables.Refused
of_store tables.Memory = Memory

-- another schema, or a refusal by the database, or memory ran out
abbrev pub of_open : OpenFault → Fault
of_open opening.UnknownSchema = UnknownSchema
of_open (opening.Store refused) = of_store refused

-- a text that is not a policy, or memory ran out
abbrev pub of_policy : PolicyFault → Fault
of_policy (policy.Refused fault) = Policy fault
of_policy policy.Memory = Memory

-- a task that was not done, or whose output reports what is wrong
abbrev pub of_task : TaskFault → Fault
of_task (task.Store fault) = Store fault
of_task (task.Token fault) = Token fault
of_task task.NoCaller = NoCaller
of_task task.NoObject = NoObject
of_task task.Memory = Memory
of_task task.Output = Output
of_task task.Reported = Reported

-- how a command ended whose task ended so
abbrev pub ended_of : Result ⊤ TaskFault → Result ⊤ Fault
ended_of (Ok done) = Ok done
ended_of (Err fault) = Err (of_task fault)

-- a request that has no bytes, or memory ran out
abbrev pub of_request : RequestFault → Fault
of_request request.TooLong = InputTooLong
of_request request.TooManyWords = Request
of_request request.Memory = Memory

-- lines that are not the paths of a push, or memory ran out
abbrev pub of_paths : PathsFault → Fault
of_paths (paths.BadPath line) = BadPath line
of_paths paths.TooMany = TooManyPaths
of_paths paths.Memory = Memory

-- bytes that are no message, or memory ran out
abbrev pub of_message : MessageFault → Fault
of_message message.Cut = NoMessage
of_message (message.Refused rule) = NoMessage
of_message message.Memory = Memory

-- a session ends well if the input ended or the server closed the connection
abbrev pub is_good : End → Bool
is_good InputEnded = Bool.true
is_good Closed = Bool.true
is_good StoreRefused = Bool.true
is_good ReadFailed = Bool.false
is_good WriteFailed = Bool.false
is_good StoreFailed = Bool.false

-- the server reports connections that did not end well, and store refusals
abbrev pub is_reported : End → Bool
is_reported InputEnded = Bool.false
is_reported Closed = Bool.false
is_reported StoreRefused = Bool.true
is_reported ReadFailed = Bool.true
is_reported WriteFailed = Bool.true
is_reported StoreFailed = Bool.true
