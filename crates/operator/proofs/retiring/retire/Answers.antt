use Rattle.operator.proofs.Prelude.{refl, subst, sym, err_from_is_err_and, from_weaker, Appends, OnOk, line, repo_text}
use Rattle.model.specs.Operator.{Removal}
use Rattle.operator.specs.Lines.{retired_line}
use Rattle.uploads.specs.Retiring.{removal_seen}
use Rattle.operator.proofs.Failing.{fails_before}
use Rattle.operator.proofs.Printed.{none_on}
use Rattle.operator.proofs.Removed.{plain_removal, from_removal, reported}
use Rattle.operator.proofs.retiring.retire.Goals as goal

pub returns-in_err-removal-clause-world : goal.returns-in_err-removal-clause-world
returns-in_err-removal-clause-world g c =
    let p = err_from_is_err_and c.from_residual.result c.from_residual.ensures.1 in
    rw p.1
    (from_weaker g.S.State c.args.store.now c.retire.new.store _ _
    (λ world t. (fails_before g.S.State _ _ c.args.store.now c.retire.new.store world _ (_, refl) t, plain_removal _ _ c.in_err-removal.field-0.0 p.2)) c.in_err-removal.ensures)

pub returns-clause-world : goal.returns-clause-world
returns-clause-world g c =
    from_removal g.S.State c.args.store.now c.retire.new.store _ _ (removal_seen c.in_ok-removal.removal) c.report.result c.report.ensures.gone c.report.ensures.err
    (from_weaker g.S.State c.args.store.now c.retire.new.store _ _ (λ world it. it.0) c.in_ok-removal.ensures)

-- ---- what is written

pub returns-in_err-removal-clause-printed : goal.returns-in_err-removal-clause-printed
returns-in_err-removal-clause-printed g c =
    from_weaker g.S.State c.args.store.now c.retire.new.store _ _ (λ world t. none_on _ _ c.from_residual.result c.from_residual.ensures.1) c.in_err-removal.ensures

pub returns-clause-printed : goal.returns-clause-printed
returns-clause-printed g c =
    from_weaker g.S.State c.args.store.now c.retire.new.store _ _
    (λ world t.
    subst (λ (given : Removal). OnOk c.report.result (Appends (g.K.Sink.taken c.args.output.now) (g.K.Sink.taken c.report.new.output) (line (retired_line given c.args.oid.now))))
    (sym (reported world _ (repo_text c.args.repo.now) c.args.oid.now _ t.0.step)) c.report.ensures.text) c.in_ok-removal.ensures
