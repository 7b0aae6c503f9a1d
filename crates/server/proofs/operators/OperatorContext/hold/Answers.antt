use Rattle.std.specs.Prelude.{true, false}
use Rattle.std.proofs.Common.{[], ◌∷◌, inl, inr, refl}
use Rattle.std.proofs.lemmas.Result.{err_from_is_err_and}
use Rattle.machine.specs.Observations.{waited}
use Rattle.server.proofs.Jobs.{held_for, none_read}
use Rattle.server.proofs.operators.OperatorContext.hold.Goals as goal

pub returns-in_err-print-clause-done : goal.returns-in_err-print-clause-done
returns-in_err-print-clause-done g c =
    let p = err_from_is_err_and c.from_residual.result c.from_residual.ensures.1 in
    rw p.1 ([], refl, inr (p.0, refl, tt))

pub returns-in_err-send-clause-done : goal.returns-in_err-send-clause-done
returns-in_err-send-clause-done g c =
    let p = err_from_is_err_and c.from_residual-in_err-send.result c.from_residual-in_err-send.ensures.1 in
    let none = c.in_err-send.ensures.err in
    rw p.1 (none.0, none.1, inr (p.0, refl, none_read none.0 none.2))

pub returns-then-wait_for-clause-done : goal.returns-then-wait_for-clause-done
returns-then-wait_for-clause-done g c =
    let sent = c.in_ok-send.ensures.ok in
    let held = held_for g.M.Machine c.args.machine.now c.send.new.machine c.wait_for.new.self c.args.self.now.stream.now c.args.seconds true sent.0 sent.1 sent.2 (rw c.if-wait_for.true at c.wait_for.ensures) in
    (held.0, held.1, inl held.2)

pub returns-else-wait_for-clause-done : goal.returns-else-wait_for-clause-done
returns-else-wait_for-clause-done g c =
    let sent = c.in_ok-send.ensures.ok in
    let held = held_for g.M.Machine c.args.machine.now c.send.new.machine c.wait_for.new.self c.args.self.now.stream.now c.args.seconds false sent.0 sent.1 sent.2 (rw c.if-wait_for.false at c.wait_for.ensures) in
    (held.0, held.1, inl held.2)
