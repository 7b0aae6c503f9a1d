use Rattle.operator.proofs.Prelude.{◌≡◌, sym, subst, err_from_is_err_and, reads_weaker, on_ok_weaker, text_of}
use Rattle.operator.specs.Foresights.{HasForetold, IsReplyFault}
use Rattle.operator.specs.declared.faults.TaskFault.TheVariants.{Output}
use Rattle.operator.proofs.Failing.{reads_last}
use Rattle.operator.proofs.Printed.{none_on}
use Rattle.operator.proofs.Foretold.{foresight_cause}
use Rattle.operator.proofs.foreseeing.print_foreseen.Goals as goal

pub returns-in_err-reply-clause-reads : goal.returns-in_err-reply-clause-reads
returns-in_err-reply-clause-reads g c =
    let p = err_from_is_err_and c.from_residual.result c.from_residual.ensures.1 in
    rw (p.1, p.2) (reads_weaker g.S.State c.args.store.now c.reply_to.new.store _ _ (λ world laws seen. foresight_cause world c.args.asked.now _ c.in_err-reply.ensures.err seen) c.in_err-reply.ensures.reads)

pub returns-clause-reads : goal.returns-clause-reads
returns-clause-reads g c =
    reads_last g.S.State c.args.store.now c.reply_to.new.store c.write.result (λ e. e ≡ Output) (λ world. HasForetold world c.args.asked.now) _ c.write.ensures.err
    (λ world e is. foresight_cause world c.args.asked.now e (subst IsReplyFault (sym is) tt) (rw is tt))
    (reads_weaker g.S.State c.args.store.now c.reply_to.new.store _ _ (λ world laws seen. (c.in_ok-reply.reply, seen)) c.in_ok-reply.ensures.reads)

-- ---- what is written

pub returns-in_err-reply-clause-printed : goal.returns-in_err-reply-clause-printed
returns-in_err-reply-clause-printed g c =
    reads_weaker g.S.State c.args.store.now c.reply_to.new.store _ _ (λ world laws seen. none_on _ _ c.from_residual.result c.from_residual.ensures.1) c.reply_to.ensures.reads

pub returns-in_err-lines_of-clause-printed : goal.returns-in_err-lines_of-clause-printed
returns-in_err-lines_of-clause-printed g c =
    reads_weaker g.S.State c.args.store.now c.reply_to.new.store _ _ (λ world laws seen. none_on _ _ c.from_residual-in_err-lines_of.result c.from_residual-in_err-lines_of.ensures.1) c.reply_to.ensures.reads

pub returns-clause-printed : goal.returns-clause-printed
returns-clause-printed g c =
    reads_weaker g.S.State c.args.store.now c.reply_to.new.store _ _
    (λ world laws seen. on_ok_weaker c.write.result (λ taken. (text_of c.in_ok-lines_of.field-0, (c.in_ok-reply.reply, seen, c.in_ok-lines_of.ensures), taken)) c.write.ensures.text)
    c.in_ok-reply.ensures.reads
