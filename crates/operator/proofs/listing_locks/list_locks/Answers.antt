use Rattle.operator.proofs.Prelude.{◌∙◌, ap, subst, reads_weaker, Appends, OnOk, repo_text, map}
use Rattle.locks.specs.Finding.{lock_seen}
use Rattle.operator.specs.Printed.{lock_lines}
use Rattle.operator.proofs.Printed.{none_on}
use Rattle.operator.proofs.listing_locks.list_locks.Goals as goal

pub returns-in_err-rows-clause-reads : goal.returns-in_err-rows-clause-reads
returns-in_err-rows-clause-reads g c =
    reads_weaker g.S.State c.args.store.now c.all.new.store _ _ (λ world laws p. none_on _ _ c.from_residual.result c.from_residual.ensures.1) c.all.ensures

pub returns-in_err-lines_of-clause-reads : goal.returns-in_err-lines_of-clause-reads
returns-in_err-lines_of-clause-reads g c =
    reads_weaker g.S.State c.args.store.now c.all.new.store _ _ (λ world laws p. none_on _ _ c.from_residual-in_err-lines_of.result c.from_residual-in_err-lines_of.ensures.1) c.all.ensures

pub returns-clause-reads : goal.returns-clause-reads
returns-clause-reads g c =
    let repo = repo_text c.args.repo.now in
    reads_weaker g.S.State c.args.store.now c.all.new.store _ _
    (λ world laws found.
    subst (λ text. OnOk c.write.result (Appends (g.K.Sink.taken c.args.output.now) (g.K.Sink.taken c.write.new.output) text))
    (c.in_ok-lines_of.ensures repo ∙ ap (lock_lines c.args.destination) (ap (map (lock_seen repo)) c.as_slice.ensures.value ∙ found))
    c.write.ensures.text) c.in_ok-rows.ensures
