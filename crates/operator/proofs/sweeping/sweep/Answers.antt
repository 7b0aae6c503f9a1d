use Rattle.operator.proofs.Prelude.{ℕ, Ok, ◌≡◌, refl, err_from_is_err_and, from_weaker, Sweeps, on_ok_weaker}
use Rattle.operator.specs.declared.faults.TaskFault.TheVariants.{Output}
use Rattle.operator.proofs.Failing.{is_store, is_output, from_last}
use Rattle.operator.proofs.Printed.{none_on}
use Rattle.operator.proofs.sweeping.sweep.Goals as goal

pub returns-in_err-count-clause-world : goal.returns-in_err-count-clause-world
returns-in_err-count-clause-world g c =
    let p = err_from_is_err_and c.from_residual.result c.from_residual.ensures.1 in
    rw p.1 (from_weaker g.S.State c.args.store.now c.sweep.new.store _ _ (λ world d. (d, is_store _ c.in_err-count.field-0.0 p.2)) c.in_err-count.ensures)

pub returns-clause-world : goal.returns-clause-world
returns-clause-world g c =
    from_last g.S.State c.args.store.now c.sweep.new.store c.print_count.result (λ e. e ≡ Output)
    (λ world. (n : ℕ) × Sweeps g.S.State world c.args.store.now c.sweep.new.store (Ok n)) _ c.print_count.ensures.err (λ world e is d. (d.1.0, is_output e is))
    (from_weaker g.S.State c.args.store.now c.sweep.new.store _ _ (λ world d. (c.in_ok-count.count, d)) c.in_ok-count.ensures)

-- ---- what is written

pub returns-in_err-count-clause-printed : goal.returns-in_err-count-clause-printed
returns-in_err-count-clause-printed g c =
    from_weaker g.S.State c.args.store.now c.sweep.new.store _ _ (λ world d. none_on _ _ c.from_residual.result c.from_residual.ensures.1) c.in_err-count.ensures

pub returns-clause-printed : goal.returns-clause-printed
returns-clause-printed g c =
    from_weaker g.S.State c.args.store.now c.sweep.new.store _ _
    (λ world d. on_ok_weaker c.print_count.result (λ taken. (_, (c.in_ok-count.count, d.1, refl), taken)) c.print_count.ensures.text) c.in_ok-count.ensures
