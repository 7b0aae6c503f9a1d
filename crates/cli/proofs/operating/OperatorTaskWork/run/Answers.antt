use Rattle.std.proofs.Common.{◌∙◌, Err, ap, refl}
use Rattle.std.proofs.lemmas.Result.{err_from_is_err_and}
use Rattle.refinement.proofs.Leading.{from_weaker}
use Rattle.operator.proofs.Working.{from_task}
use Rattle.cli.proofs.operating.OperatorTaskWork.run.Goals as goal

pub returns-in_err-run-clause-world : goal.returns-in_err-run-clause-world
returns-in_err-run-clause-world g c =
    let p = err_from_is_err_and c.from_residual.result c.from_residual.ensures.1 in
    let ended = p.1 ∙ ap Err p.2 in
    from_weaker g.S.State c.args.store.now c.run.new.store _ _ (λ world w. record { tried = c.run.result; is = rw c.in_err-run.was ended; works = w })
    (from_task g.S.State c.args.store.now c.run.new.store c.args.self.task.now c.run.result c.run.ensures.world)

pub returns-clause-world : goal.returns-clause-world
returns-clause-world g c =
    from_weaker g.S.State c.args.store.now c.run.new.store _ _ (λ world w. record { tried = c.run.result; is = rw c.in_ok-run.was refl; works = w })
    (from_task g.S.State c.args.store.now c.run.new.store c.args.self.task.now c.run.result c.run.ensures.world)
