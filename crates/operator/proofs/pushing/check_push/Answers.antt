use Rattle.operator.proofs.Prelude.{◌∙◌, subst, sym, err_from_is_err_and, reads_weaker, Appends, flat_map, zip, ap₂}
use Rattle.operator.proofs.Pushed.{plain_push, may_push_is, pair_line, verdicts_printed}
use Rattle.operator.proofs.Failing.{is_memory, is_output, is_store}
use Rattle.operator.proofs.Printed.{plain_written}
use Rattle.operator.proofs.pushing.check_push.Goals as goal

pub returns-in_err-verdicts-clause-reads : goal.returns-in_err-verdicts-clause-reads
returns-in_err-verdicts-clause-reads g c =
    let p = err_from_is_err_and c.from_residual.result c.from_residual.ensures.1 in
    rw p.1 (reads_weaker g.S.State c.args.store.now c.check.new.store _ _ (λ world laws d. plain_push world c.args.push.now _ (is_store _ c.in_err-verdicts.field-0.0 p.2)) c.check.ensures)

pub returns-then-are_ok-clause-reads : goal.returns-then-are_ok-clause-reads
returns-then-are_ok-clause-reads g c =
    reads_weaker g.S.State c.args.store.now c.check.new.store _ _
    (λ world laws d.
    may_push_is world c.args.push.now c.in_ok-verdicts.verdicts.items (rw c.as_slice-paths.ensures.value at d)
    ∙ sym (rw c.as_slice-2.ensures.value at c.are_ok.ensures) ∙ c.if-are_ok.true)
    c.in_ok-verdicts.ensures

pub returns-clause-reads : goal.returns-clause-reads
returns-clause-reads g c =
    reads_weaker g.S.State c.args.store.now c.check.new.store _ _
    (λ world laws d.
    may_push_is world c.args.push.now c.in_ok-verdicts.verdicts.items (rw c.as_slice-paths.ensures.value at d)
    ∙ sym (rw c.as_slice-2.ensures.value at c.are_ok.ensures) ∙ c.if-are_ok.false)
    c.in_ok-verdicts.ensures

-- ---- what is written

pub returns-in_err-verdicts-clause-printed : goal.returns-in_err-verdicts-clause-printed
returns-in_err-verdicts-clause-printed g c =
    let p = err_from_is_err_and c.from_residual.result c.from_residual.ensures.1 in
    reads_weaker g.S.State c.args.store.now c.check.new.store _ _ (λ world laws d. rw p.1 (plain_written _ _ (is_store _ c.in_err-verdicts.field-0.0 p.2))) c.check.ensures

pub returns-in_err-lines_of-clause-printed : goal.returns-in_err-lines_of-clause-printed
returns-in_err-lines_of-clause-printed g c =
    let p = err_from_is_err_and c.from_residual-in_err-lines_of.result c.from_residual-in_err-lines_of.ensures.1 in
    reads_weaker g.S.State c.args.store.now c.check.new.store _ _ (λ world laws d. rw p.1 (plain_written _ _ (is_memory _ p.2))) c.check.ensures

pub returns-in_err-write-clause-printed : goal.returns-in_err-write-clause-printed
returns-in_err-write-clause-printed g c =
    let p = err_from_is_err_and c.from_residual-in_err-write.result c.from_residual-in_err-write.ensures.1 in
    reads_weaker g.S.State c.args.store.now c.check.new.store _ _ (λ world laws d. rw p.1 (plain_written _ _ (is_output _ (p.2 ∙ c.in_err-write.ensures.err)))) c.check.ensures

pub returns-then-are_ok-clause-printed : goal.returns-then-are_ok-clause-printed
returns-then-are_ok-clause-printed g c =
    reads_weaker g.S.State c.args.store.now c.check.new.store _ _
    (λ world laws d.
    subst (Appends (g.K.Sink.taken c.args.output.now) (g.K.Sink.taken c.write.new.output))
    (c.in_ok-lines_of.ensures
    ∙ ap₂ (λ paths verdicts. flat_map (pair_line c.args.destination) (zip paths verdicts)) c.as_slice-paths.ensures.value c.as_slice.ensures.value
    ∙ verdicts_printed world c.args.destination c.args.push.now c.in_ok-verdicts.verdicts.items (rw c.as_slice-paths.ensures.value at d))
    c.in_ok-write.ensures.text)
    c.in_ok-verdicts.ensures

pub returns-clause-printed : goal.returns-clause-printed
returns-clause-printed g c =
    reads_weaker g.S.State c.args.store.now c.check.new.store _ _
    (λ world laws d.
    subst (Appends (g.K.Sink.taken c.args.output.now) (g.K.Sink.taken c.write.new.output))
    (c.in_ok-lines_of.ensures
    ∙ ap₂ (λ paths verdicts. flat_map (pair_line c.args.destination) (zip paths verdicts)) c.as_slice-paths.ensures.value c.as_slice.ensures.value
    ∙ verdicts_printed world c.args.destination c.args.push.now c.in_ok-verdicts.verdicts.items (rw c.as_slice-paths.ensures.value at d))
    c.in_ok-write.ensures.text)
    c.in_ok-verdicts.ensures
