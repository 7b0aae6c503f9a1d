use Rattle.std.proofs.Common.{◌∙◌, Err, ap, refl}
use Rattle.std.proofs.lemmas.Result.{err_from_is_err_and}
use Rattle.refinement.proofs.Leading.{from_weaker}
use Rattle.operator.proofs.Working.{from_task}
use Rattle.server.proofs.operators.OperatorContext.work.Goals as goal

pub returns-in_err-run-clause-done : goal.returns-in_err-run-clause-done
returns-in_err-run-clause-done g c =
    let p = err_from_is_err_and c.from_residual.result c.from_residual.ensures.1 in
    let ended = p.1 ∙ ap Err p.2 in
    from_weaker g.S.State c.args.store.now c.run.new.store _ _ (λ world w. record { tried = c.run.result; is = rw c.in_err-run.was ended; works = w })
    (from_task g.S.State c.args.store.now c.run.new.store c.args.task.now c.run.result c.run.ensures.world)

pub returns-clause-done : goal.returns-clause-done
returns-clause-done g c =
    from_weaker g.S.State c.args.store.now c.run.new.store _ _ (λ world w. record { tried = c.run.result; is = rw c.in_ok-run.was refl; works = w })
    (from_task g.S.State c.args.store.now c.run.new.store c.args.task.now c.run.result c.run.ensures.world)
