use Rattle.std.specs.Prelude.{false, true}
use Rattle.std.proofs.Common.{Err, Ok, ◌∙◌, ap, subst, sym}
use Rattle.std.proofs.lemmas.Result.{err_from_is_err_and}
use Rattle.faults.specs.Statuses.{of_task}
use Rattle.server.specs.Commands.{IsInspectionFault}
use Rattle.server.proofs.Inspected.{advanced, plain_fault}
use Rattle.server.proofs.waiting.advance.Goals as goal

pub returns-in_err-advance-clause-world : goal.returns-in_err-advance-clause-world
returns-in_err-advance-clause-world g c =
    let p = err_from_is_err_and c.from_residual.result c.from_residual.ensures.1 in
    rw p.1 (advanced g.S.State c.args.store.now c.advance.new.store c.args.inspection.now c.advance.new.self (Err p.0) c.advance.ensures.world (λ none. subst IsInspectionFault (sym p.2) (plain_fault c.in_err-advance.field-0.0 c.in_err-advance.ensures.err)))

pub returns-in_err-print-in-Damaged-clause-world : goal.returns-in_err-print-in-Damaged-clause-world
returns-in_err-print-in-Damaged-clause-world g c =
    let p = err_from_is_err_and c.from_residual-in_err-print-in-Damaged.result c.from_residual-in_err-print-in-Damaged.ensures.1 in
    rw p.1
    (advanced g.S.State c.args.store.now c.advance.new.store c.args.inspection.now c.advance.new.self (Err p.0) c.advance.ensures.world
    (λ none. subst IsInspectionFault (sym (p.2 ∙ ap of_task c.in_err-print-in-Damaged.ensures.err)) tt))

pub returns-in_err-finish-in-Done-clause-world : goal.returns-in_err-finish-in-Done-clause-world
returns-in_err-finish-in-Done-clause-world g c =
    let p = err_from_is_err_and c.from_residual-in_err-finish-in-Done.result c.from_residual-in_err-finish-in-Done.ensures.1 in
    rw p.1
    (advanced g.S.State c.args.store.now c.advance.new.store c.args.inspection.now c.advance.new.self (Err p.0) c.advance.ensures.world
    (λ none. subst IsInspectionFault (sym p.2) (plain_fault c.in_err-finish-in-Done.field-0.0 (c.in_err-finish-in-Done.ensures.err none))))

pub returns-in-Done-clause-world : goal.returns-in-Done-clause-world
returns-in-Done-clause-world g c = advanced g.S.State c.args.store.now c.advance.new.store c.args.inspection.now c.advance.new.self (Ok true) c.advance.ensures.world (λ none. tt)

pub returns-in_err-text-clause-world : goal.returns-in_err-text-clause-world
returns-in_err-text-clause-world g c =
    let p = err_from_is_err_and c.from_residual-in_err-text.result c.from_residual-in_err-text.ensures.1 in
    rw p.1 (advanced g.S.State c.args.store.now c.advance.new.store c.args.inspection.now c.advance.new.self (Err p.0) c.advance.ensures.world (λ none. subst IsInspectionFault (sym p.2) tt))

pub returns-in_err-push_progress-clause-world : goal.returns-in_err-push_progress-clause-world
returns-in_err-push_progress-clause-world g c =
    let p = err_from_is_err_and c.from_residual-in_err-push_progress.result c.from_residual-in_err-push_progress.ensures.1 in
    rw p.1 (advanced g.S.State c.args.store.now c.advance.new.store c.args.inspection.now c.advance.new.self (Err p.0) c.advance.ensures.world (λ none. subst IsInspectionFault (sym p.2) tt))

pub returns-clause-world : goal.returns-clause-world
returns-clause-world g c = advanced g.S.State c.args.store.now c.advance.new.store c.args.inspection.now c.advance.new.self (Ok false) c.advance.ensures.world (λ none. tt)
