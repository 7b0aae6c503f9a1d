use Rattle.operator.proofs.Prelude.{err_from_is_err_and, reads_weaker}
use Rattle.desk.specs.Views.{view_seen}
use Rattle.operator.proofs.Foretold.{foretold, not_foretold}
use Rattle.operator.proofs.foreseeing.reply_to.Goals as goal

pub returns-in_err-reply-clause-reads : goal.returns-in_err-reply-clause-reads
returns-in_err-reply-clause-reads g c =
    let p = err_from_is_err_and c.from_residual-in_err-reply.result c.from_residual-in_err-reply.ensures.1 in
    reads_weaker g.S.State c.args.store.now c.view.new.store _ _
    (λ world laws seen. rw (p.1, p.2) (not_foretold world c.args.asked.now (view_seen c.in_ok-view.view) c.in_err-reply.field-0.0 seen c.in_err-reply.ensures)) c.in_ok-view.ensures

pub returns-clause-reads : goal.returns-clause-reads
returns-clause-reads g c =
    reads_weaker g.S.State c.args.store.now c.view.new.store _ _
    (λ world laws seen. foretold world c.args.asked.now (view_seen c.in_ok-view.view) c.in_ok-reply.reply seen c.in_ok-reply.ensures) c.in_ok-view.ensures
