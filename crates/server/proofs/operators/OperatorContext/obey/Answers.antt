use Rattle.std.proofs.Common.{◌∙◌, Err, [], ap, inl, refl}
use Rattle.command_line.specs.declared.args.OperatorCommand.TheVariants.{Check, Hold, Reload, Repair, Stop}
use Rattle.std.proofs.lemmas.Result.{err_from_is_err_and}
use Rattle.operator.specs.declared.inspecting.Purpose.TheVariants as purpose
use Rattle.server.proofs.Commands.{order_helps, outcome_helps}
use Rattle.server.proofs.Inspected.{check_obeyed, inspection_helps, repair_obeyed}
use Rattle.server.proofs.operators.OperatorContext.obey.Goals as goal

pub returns-in-Check-clause-done : goal.returns-in-Check-clause-done
returns-in-Check-clause-done g c =
    rw c.in-Check.is
    (inspection_helps g.M.Machine g.S.State c.args.self.now.policy.now c.args.self.now.is_busy c.args.self.now.stream.now purpose.Check Check c.args.input.now c.inspect.result c.args.store.now c.inspect.new.store c.args.machine.now
    (check_obeyed c.args.self.now.is_busy c.args.self.now.stream.now) c.inspect.ensures.ok c.inspect.ensures.reads)

pub returns-in-Repair-clause-done : goal.returns-in-Repair-clause-done
returns-in-Repair-clause-done g c =
    rw c.in-Repair.is
    (inspection_helps g.M.Machine g.S.State c.args.self.now.policy.now c.args.self.now.is_busy c.args.self.now.stream.now purpose.Repair Repair c.args.input.now c.inspect-in-Repair.result c.args.store.now c.inspect-in-Repair.new.store c.args.machine.now
    (repair_obeyed c.args.self.now.is_busy c.args.self.now.stream.now) c.inspect-in-Repair.ensures.ok c.inspect-in-Repair.ensures.reads)

pub returns-in-Hold-clause-done : goal.returns-in-Hold-clause-done
returns-in-Hold-clause-done g c =
    rw c.in-Hold.is
    (order_helps g.M.Machine g.S.State c.args.self.now.policy.now c.args.self.now.is_busy c.args.self.now.stream.now (Hold c.in-Hold.seconds) c.args.input.now c.hold.result c.args.store.now c.args.machine.now c.hold.new.machine c.hold.ensures.done)

pub returns-in-Stop-clause-done : goal.returns-in-Stop-clause-done
returns-in-Stop-clause-done g c =
    rw c.in-Stop.is
    (order_helps g.M.Machine g.S.State c.args.self.now.policy.now c.args.self.now.is_busy c.args.self.now.stream.now Stop c.args.input.now _ c.args.store.now c.args.machine.now c.args.machine.now ([], refl, inl refl))

pub returns-in-Reload-clause-done : goal.returns-in-Reload-clause-done
returns-in-Reload-clause-done g c =
    rw c.in-Reload.is
    (order_helps g.M.Machine g.S.State c.args.self.now.policy.now c.args.self.now.is_busy c.args.self.now.stream.now Reload c.args.input.now c.reload.result c.args.store.now c.args.machine.now c.reload.new.machine c.reload.ensures.done)

pub returns-in-Status-clause-done : goal.returns-in-Status-clause-done
returns-in-Status-clause-done g c = rw c.in-Status.is (c.print_status.ensures.done c.args.input.now)

pub returns-in_err-run-in_default-clause-done : goal.returns-in_err-run-in_default-clause-done
returns-in_err-run-in_default-clause-done g c =
    let p = err_from_is_err_and c.from_residual.result c.from_residual.ensures.1 in
    let helped = outcome_helps g.M.Machine g.S.State c.args.self.now.policy.now c.args.self.now.is_busy c.args.self.now.stream.now c.args.command.now c.args.input.now c.run.result c.args.store.now c.run.new.store c.args.machine.now c.run.new.machine c.run.ensures.done in
    rw (p.1 ∙ ap Err p.2) (rw c.in_err-run-in_default.was at helped)

pub returns-in_ok-run-in_default-clause-done : goal.returns-in_ok-run-in_default-clause-done
returns-in_ok-run-in_default-clause-done g c =
    let helped = outcome_helps g.M.Machine g.S.State c.args.self.now.policy.now c.args.self.now.is_busy c.args.self.now.stream.now c.args.command.now c.args.input.now c.run.result c.args.store.now c.run.new.store c.args.machine.now c.run.new.machine c.run.ensures.done in
    rw c.in_ok-run-in_default.was at helped
