-- The reply that a task foretells.
use Rattle.std.specs.Prelude.{◌≡◌, Result, Ok, Err, ⊤}
use Rattle.names.specs.Names.{repo_text, user_text}
use Rattle.policy.specs.Values.{policy_view}
use Rattle.model.specs.Replies as model
use Rattle.model.specs.Views.{NoCaller, no_caller, view_of}
use Rattle.model.specs.World.{World}
use Rattle.desk.specs.Foreseeing.{foreseen}
use Rattle.desk.specs.Replies.{IsReply}
use Rattle.desk.specs.declared.replies.Reply.{Reply}
use Rattle.operator.specs.Failing.{IsPlain}
use Rattle.operator.specs.declared.faults.TaskFault.{TaskFault}
use Rattle.operator.specs.declared.faults.TaskFault.TheVariants as fault
use Rattle.operator.specs.declared.foreseeing.Foresight.{Foresight}

-- the reply is the foreseen one; or there is no caller; or the task was not done
abbrev pub IsToldAs : Result Reply TaskFault → Result model.Reply NoCaller → Type 0
IsToldAs (Ok reply) seen = (is : model.Reply) × (seen ≡ Ok is) × IsReply reply is
IsToldAs (Err fault.NoCaller) seen = seen ≡ Err no_caller
IsToldAs (Err _) seen = ⊤

-- what is foreseen of the task's request, from what its user sees of its repository in this world
abbrev pub Foretells : World → Foresight → Result Reply TaskFault → Type 0
Foretells world f r =
    IsToldAs r (foreseen (view_of world (policy_view f.policy.now) (user_text f.user.now) (repo_text f.repo.now)) f.now f.request f.body.now)

-- a reply is not foreseen: there is no caller, or for a plain reason
abbrev pub IsReplyFault : TaskFault → Type 0
IsReplyFault fault.NoCaller = ⊤
IsReplyFault other = IsPlain other

-- some reply is foreseen
abbrev pub HasForetold : World → Foresight → Type 0
HasForetold world f = (reply : Reply) × Foretells world f (Ok reply)
