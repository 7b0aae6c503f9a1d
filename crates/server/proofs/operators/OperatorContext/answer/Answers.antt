use Rattle.std.proofs.Common.{inl, inr, List, ℕ, [], refl, subst}
use Rattle.control.specs.Requests.{IsReadAs}
use Rattle.std.proofs.lemmas.Result.{err_from_is_err_and}
use Rattle.server.proofs.Jobs.{from_idle, from_own}
use Rattle.server.proofs.operators.OperatorContext.answer.Goals as goal

pub returns-in_err-input-clause-done : goal.returns-in_err-input-clause-done
returns-in_err-input-clause-done g c =
    let p = err_from_is_err_and c.from_residual.result c.from_residual.ensures.1 in
    from_idle g.M.Machine g.S.State _ c.args.store.now c.args.machine.now c.args.machine.now [] refl (λ world. inl (p.0, p.1, refl, refl))

pub returns-in_default-clause-done : goal.returns-in_default-clause-done
returns-in_default-clause-done g c = from_idle g.M.Machine g.S.State _ c.args.store.now c.args.machine.now c.args.machine.now [] refl (λ world. inl (_, refl, refl, refl))

pub returns-in_err-command-clause-done : goal.returns-in_err-command-clause-done
returns-in_err-command-clause-done g c =
    let p = err_from_is_err_and c.from_residual-in_err-command.result c.from_residual-in_err-command.ensures.1 in
    from_idle g.M.Machine g.S.State _ c.args.store.now c.args.machine.now c.args.machine.now [] refl (λ world. inl (p.0, p.1, refl, refl))

pub returns-clause-done : goal.returns-clause-done
returns-clause-done g c =
    let named = rw c.as_slice.ensures.value at c.in_ok-command.ensures.ok in
    let read = subst (λ (words : List (List ℕ)). IsReadAs c.args.body.now (record { input = c.in-Some.field-0.input.now; words = words })) named (rw c.in-Some.is at c.in_ok-input.ensures.some) in
    from_own g.M.Machine g.S.State _ _ c.args.store.now c.obey.new.store c.args.machine.now c.obey.new.machine (λ world l steps kept own. inr (c.in_ok-command.command, c.in-Some.field-0.input.now, read, own)) c.obey.ensures.done
