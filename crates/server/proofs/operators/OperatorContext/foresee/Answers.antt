use Rattle.std.proofs.lemmas.Result.{err_from_is_err_and}
use Rattle.command_line.specs.declared.args.OperatorCommand.TheVariants.{Foresee}
use Rattle.server.proofs.Jobs.{moment_read, none_read}
use Rattle.server.proofs.Commands.{fault_helps, task_helps}
use Rattle.server.proofs.operators.OperatorContext.foresee.Goals as goal

pub returns-in_err-now-clause-done : goal.returns-in_err-now-clause-done
returns-in_err-now-clause-done g c =
    fault_helps g.M.Machine g.S.State c.args.self.now.policy.now (Foresee c.args.asked.now) c.args.input.now c.from_residual.result c.args.store.now c.args.machine.now c.moment_of.new.machine _ c.in_err-now.ensures.err.1 (none_read c.in_err-now.ensures.err.0 c.in_err-now.ensures.err.2)
    (err_from_is_err_and c.from_residual.result c.from_residual.ensures.1).0 (err_from_is_err_and c.from_residual.result c.from_residual.ensures.1).1

pub returns-in_err-message-clause-done : goal.returns-in_err-message-clause-done
returns-in_err-message-clause-done g c =
    fault_helps g.M.Machine g.S.State c.args.self.now.policy.now (Foresee c.args.asked.now) c.args.input.now c.from_residual-in_err-message.result c.args.store.now c.args.machine.now c.moment_of.new.machine _ c.in_ok-now.ensures.ok.1 (moment_read c.args.asked.now.now c.in_ok-now.now _ c.in_ok-now.ensures.ok.2)
    (err_from_is_err_and c.from_residual-in_err-message.result c.from_residual-in_err-message.ensures.1).0 (err_from_is_err_and c.from_residual-in_err-message.result c.from_residual-in_err-message.ensures.1).1

pub returns-clause-done : goal.returns-clause-done
returns-clause-done g c =
    let task = c.task.ensures in
    task_helps g.M.Machine g.S.State c.args.self.now.policy.now (Foresee c.args.asked.now) c.args.input.now c.task.result c.work.result c.args.store.now c.work.new.store c.args.machine.now c.moment_of.new.machine _ c.in_ok-now.ensures.ok.1
    c.work.ensures.done (rw task.1 (c.in_ok-now.now, c.in_ok-now.ensures.ok.2, c.in_ok-message.message, c.in_ok-message.ensures, task.2))
