-- What a view foretells is what the world of the view foretells.
use Rattle.operator.proofs.Prelude.{◌≡◌, Result, Ok, Err, World, subst, policy_view, TaskFault}
use Rattle.names.specs.Names.{repo_text, user_text}
use Rattle.model.specs.Views.{View, view_of}
use Rattle.desk.specs.Foreseeing.{IsForeseen}
use Rattle.desk.specs.declared.foreseeing.ForeseeFault.{ForeseeFault}
use Rattle.desk.specs.declared.foreseeing.ForeseeFault.TheVariants as fault
use Rattle.desk.specs.declared.replies.Reply.{Reply}
use Rattle.operator.specs.Faults.{of_foresight}
use Rattle.operator.specs.Foresights.{Foretells, IsReplyFault}
use Rattle.operator.specs.Tasks.{IsForesightFault}
use Rattle.operator.specs.declared.faults.TaskFault.TheVariants as task
use Rattle.operator.specs.declared.foreseeing.Foresight.{Foresight}

-- the view of the task
abbrev own_view : World → Foresight → View
own_view world f = view_of world (policy_view f.policy.now) (user_text f.user.now) (repo_text f.repo.now)

seen_so : (world : World) (f : Foresight) (seen : View) (r : Result Reply ForeseeFault) → seen ≡ own_view world f → IsForeseen seen f.now f.request f.body.now r
    → IsForeseen (own_view world f) f.now f.request f.body.now r
seen_so world f seen r same is = subst (λ (v : View). IsForeseen v f.now f.request f.body.now r) same is

pub foretold : (world : World) (f : Foresight) (seen : View) (reply : Reply) → seen ≡ own_view world f → IsForeseen seen f.now f.request f.body.now (Ok reply) → Foretells world f (Ok reply)
foretold world f seen reply same is = seen_so world f seen (Ok reply) same is

pub not_foretold : (world : World) (f : Foresight) (seen : View) (why : ForeseeFault) → seen ≡ own_view world f → IsForeseen seen f.now f.request f.body.now (Err why) → Foretells world f (Err (of_foresight why))
not_foretold world f seen fault.NoCaller same is = seen_so world f seen (Err fault.NoCaller) same is
not_foretold world f seen fault.Memory same is = tt

-- why no reply is foreseen is why the task fails
pub foresight_cause : (world : World) (f : Foresight) (e : TaskFault) → IsReplyFault e → Foretells world f (Err e) → IsForesightFault world f e
foresight_cause world f task.NoCaller why told = told
foresight_cause world f (task.Store x) why told = tt
foresight_cause world f task.Memory why told = tt
foresight_cause world f task.Output why told = tt
foresight_cause world f (task.Token x) why told = absurd why
foresight_cause world f task.NoObject why told = absurd why
foresight_cause world f task.Reported why told = absurd why
