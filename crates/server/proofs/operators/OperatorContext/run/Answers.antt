use Rattle.std.proofs.Common.{[], refl}
use Rattle.std.proofs.lemmas.Result.{err_from_is_err_and}
use Rattle.command_line.specs.declared.args.OperatorCommand.TheVariants as command
use Rattle.server.proofs.Jobs.{none_read}
use Rattle.server.proofs.Commands.{fault_helps, task_helps}
use Rattle.server.proofs.operators.OperatorContext.run.Goals as goal

pub returns-in-Some-clause-done : goal.returns-in-Some-clause-done
returns-in-Some-clause-done g c =
    task_helps g.M.Machine g.S.State c.args.self.now.policy.now c.args.command.now c.args.input.now c.in-Some.task c.work.result c.args.store.now c.work.new.store c.args.machine.now c.args.machine.now [] refl c.work.ensures.done
    (c.in-Some.ensures.some c.args.self.now.policy.now c.args.input.now)

pub returns-in-Authenticate-clause-done : goal.returns-in-Authenticate-clause-done
returns-in-Authenticate-clause-done g c = rw c.in-Authenticate.is (c.issue.ensures.done c.args.input.now)

pub returns-in-Foresee-clause-done : goal.returns-in-Foresee-clause-done
returns-in-Foresee-clause-done g c = rw c.in-Foresee.is c.foresee.ensures.done

pub returns-in_err-now-in-Prune-clause-done : goal.returns-in_err-now-in-Prune-clause-done
returns-in_err-now-in-Prune-clause-done g c =
    fault_helps g.M.Machine g.S.State c.args.self.now.policy.now c.args.command.now c.args.input.now c.from_residual.result c.args.store.now c.args.machine.now c.moment_of.new.machine _ c.in_err-now-in-Prune.ensures.err.1
    (none_read c.in_err-now-in-Prune.ensures.err.0 c.in_err-now-in-Prune.ensures.err.2) (err_from_is_err_and c.from_residual.result c.from_residual.ensures.1).0 (err_from_is_err_and c.from_residual.result c.from_residual.ensures.1).1

pub returns-in_ok-now-in-Prune-clause-done : goal.returns-in_ok-now-in-Prune-clause-done
returns-in_ok-now-in-Prune-clause-done g c =
    rw c.in-Prune.is
    (task_helps g.M.Machine g.S.State c.args.self.now.policy.now (command.Prune c.in-Prune.named) c.args.input.now _ c.work-in-Prune.result c.args.store.now c.work-in-Prune.new.store c.args.machine.now c.moment_of.new.machine _ c.in_ok-now-in-Prune.ensures.ok.1
    c.work-in-Prune.ensures.done c.in_ok-now-in-Prune.ensures.ok.2)

pub returns-in_err-now-in-Tokens-clause-done : goal.returns-in_err-now-in-Tokens-clause-done
returns-in_err-now-in-Tokens-clause-done g c =
    fault_helps g.M.Machine g.S.State c.args.self.now.policy.now c.args.command.now c.args.input.now c.from_residual-in_err-now-in-Tokens.result c.args.store.now c.args.machine.now c.moment_of-in-Tokens.new.machine _ c.in_err-now-in-Tokens.ensures.err.1
    (none_read c.in_err-now-in-Tokens.ensures.err.0 c.in_err-now-in-Tokens.ensures.err.2) (err_from_is_err_and c.from_residual-in_err-now-in-Tokens.result c.from_residual-in_err-now-in-Tokens.ensures.1).0 (err_from_is_err_and c.from_residual-in_err-now-in-Tokens.result c.from_residual-in_err-now-in-Tokens.ensures.1).1

pub returns-in_ok-now-in-Tokens-clause-done : goal.returns-in_ok-now-in-Tokens-clause-done
returns-in_ok-now-in-Tokens-clause-done g c =
    rw c.in-Tokens.is
    (task_helps g.M.Machine g.S.State c.args.self.now.policy.now (command.Tokens c.in-Tokens.asked) c.args.input.now _ c.work-in-Tokens.result c.args.store.now c.work-in-Tokens.new.store c.args.machine.now c.moment_of-in-Tokens.new.machine _ c.in_ok-now-in-Tokens.ensures.ok.1
    c.work-in-Tokens.ensures.done (refl, c.in_ok-now-in-Tokens.ensures.ok.2))

pub returns-in_err-now-in-Usage-clause-done : goal.returns-in_err-now-in-Usage-clause-done
returns-in_err-now-in-Usage-clause-done g c =
    fault_helps g.M.Machine g.S.State c.args.self.now.policy.now c.args.command.now c.args.input.now c.from_residual-in_err-now-in-Usage.result c.args.store.now c.args.machine.now c.moment_of-in-Usage.new.machine _ c.in_err-now-in-Usage.ensures.err.1
    (none_read c.in_err-now-in-Usage.ensures.err.0 c.in_err-now-in-Usage.ensures.err.2) (err_from_is_err_and c.from_residual-in_err-now-in-Usage.result c.from_residual-in_err-now-in-Usage.ensures.1).0 (err_from_is_err_and c.from_residual-in_err-now-in-Usage.result c.from_residual-in_err-now-in-Usage.ensures.1).1

pub returns-in_ok-now-in-Usage-clause-done : goal.returns-in_ok-now-in-Usage-clause-done
returns-in_ok-now-in-Usage-clause-done g c =
    rw c.in-Usage.is
    (task_helps g.M.Machine g.S.State c.args.self.now.policy.now (command.Usage c.in-Usage.named) c.args.input.now _ c.work-in-Usage.result c.args.store.now c.work-in-Usage.new.store c.args.machine.now c.moment_of-in-Usage.new.machine _ c.in_ok-now-in-Usage.ensures.ok.1
    c.work-in-Usage.ensures.done (refl, c.in_ok-now-in-Usage.ensures.ok.2))

pub returns-in_err-question-in-May-clause-done : goal.returns-in_err-question-in-May-clause-done
returns-in_err-question-in-May-clause-done g c =
    fault_helps g.M.Machine g.S.State c.args.self.now.policy.now c.args.command.now c.args.input.now c.from_residual-in_err-question-in-May.result c.args.store.now c.args.machine.now c.args.machine.now [] refl tt
    (err_from_is_err_and c.from_residual-in_err-question-in-May.result c.from_residual-in_err-question-in-May.ensures.1).0 (err_from_is_err_and c.from_residual-in_err-question-in-May.result c.from_residual-in_err-question-in-May.ensures.1).1

pub returns-in_ok-question-in-May-clause-done : goal.returns-in_ok-question-in-May-clause-done
returns-in_ok-question-in-May-clause-done g c =
    rw c.in-May.is
    (task_helps g.M.Machine g.S.State c.args.self.now.policy.now (command.May c.in-May.asked) c.args.input.now _ c.work-in-May.result c.args.store.now c.work-in-May.new.store c.args.machine.now c.args.machine.now [] refl
    c.work-in-May.ensures.done (c.in_ok-question-in-May.ensures, refl))

pub returns-in_err-push-in-PushCheck-clause-done : goal.returns-in_err-push-in-PushCheck-clause-done
returns-in_err-push-in-PushCheck-clause-done g c =
    fault_helps g.M.Machine g.S.State c.args.self.now.policy.now c.args.command.now c.args.input.now c.from_residual-in_err-push-in-PushCheck.result c.args.store.now c.args.machine.now c.args.machine.now [] refl tt
    (err_from_is_err_and c.from_residual-in_err-push-in-PushCheck.result c.from_residual-in_err-push-in-PushCheck.ensures.1).0 (err_from_is_err_and c.from_residual-in_err-push-in-PushCheck.result c.from_residual-in_err-push-in-PushCheck.ensures.1).1

pub returns-in_ok-push-in-PushCheck-clause-done : goal.returns-in_ok-push-in-PushCheck-clause-done
returns-in_ok-push-in-PushCheck-clause-done g c =
    rw c.in-PushCheck.is
    (task_helps g.M.Machine g.S.State c.args.self.now.policy.now (command.PushCheck c.in-PushCheck.asked) c.args.input.now _ c.work-in-PushCheck.result c.args.store.now c.work-in-PushCheck.new.store c.args.machine.now c.args.machine.now [] refl
    c.work-in-PushCheck.ensures.done (c.in_ok-push-in-PushCheck.ensures, refl))

pub returns-in_default-command-clause-done : goal.returns-in_default-command-clause-done
returns-in_default-command-clause-done g c = fault_helps g.M.Machine g.S.State c.args.self.now.policy.now c.args.command.now c.args.input.now _ c.args.store.now c.args.machine.now c.args.machine.now [] refl tt _ refl
