use Rattle.operator.proofs.Prelude.{refl, subst, ℕ, Ok, ◌≡◌, err_from_is_err_and, from_weaker, Prunes, Appends, OnOk, count_line, line, codes}
use Rattle.operator.specs.declared.faults.TaskFault.TheVariants.{Output}
use Rattle.operator.proofs.Failing.{fails_before, fails_after, is_store, is_output, output_follows, from_last}
use Rattle.operator.proofs.Printed.{none_on, pruned_count}
use Rattle.operator.proofs.pruning.prune.Goals as goal

pub returns-in_err-count-clause-world : goal.returns-in_err-count-clause-world
returns-in_err-count-clause-world g c =
    let p = err_from_is_err_and c.from_residual.result c.from_residual.ensures.1 in
    rw p.1
    (from_weaker g.S.State c.args.store.now c.prune.new.store _ _
    (λ world d. (fails_before g.S.State _ _ c.args.store.now c.prune.new.store world _ (_, refl) d.0, is_store _ c.in_err-count.field-0.0 p.2)) c.in_err-count.ensures)

pub returns-clause-world : goal.returns-clause-world
returns-clause-world g c =
    from_last g.S.State c.args.store.now c.prune.new.store c.print_count.result (λ e. e ≡ Output)
    (λ world. (n : ℕ) × Prunes g.S.State world c.args.now c.args.store.now c.prune.new.store (Ok n)) _ c.print_count.ensures.err
    (λ world e is d. (fails_after g.S.State _ _ c.args.store.now c.prune.new.store world _ _ (_, refl) d.1 (output_follows e is), is_output e is))
    (from_weaker g.S.State c.args.store.now c.prune.new.store _ _ (λ world d. (c.in_ok-count.count, d)) c.in_ok-count.ensures)

-- ---- what is written

pub returns-in_err-count-clause-printed : goal.returns-in_err-count-clause-printed
returns-in_err-count-clause-printed g c =
    from_weaker g.S.State c.args.store.now c.prune.new.store _ _ (λ world d. none_on _ _ c.from_residual.result c.from_residual.ensures.1) c.in_err-count.ensures

pub returns-clause-printed : goal.returns-clause-printed
returns-clause-printed g c =
    from_weaker g.S.State c.args.store.now c.prune.new.store _ _
    (λ world d.
    subst (λ (n : ℕ). OnOk c.print_count.result (Appends (g.K.Sink.taken c.args.output.now) (g.K.Sink.taken c.print_count.new.output) (line (count_line (codes "pruned") n (codes "tokens")))))
    (pruned_count world _ c.args.now c.in_ok-count.count d.step) c.print_count.ensures.text) c.in_ok-count.ensures
