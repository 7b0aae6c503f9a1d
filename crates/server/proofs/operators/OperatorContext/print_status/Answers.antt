use Rattle.std.proofs.Common.{Err, [], ◌∷◌, inl, inr, refl}
use Rattle.std.proofs.lemmas.Result.{err_from_is_err_and}
use Rattle.server.specs.Jobs.{idles}
use Rattle.server.proofs.Jobs.{also_room, from_read, one_idle}
use Rattle.server.proofs.operators.OperatorContext.print_status.Goals as goal

pub returns-in_err-stored-clause-done : goal.returns-in_err-stored-clause-done
returns-in_err-stored-clause-done g c =
    let p = err_from_is_err_and c.from_residual.result c.from_residual.ensures.1 in
    λ input. rw p.1
    (from_read g.M.Machine g.S.State _ c.args.store.now c.stored.new.store c.args.machine.now c.gauges-gauges.new.self (idles ∷ []) _ (one_idle g.M.Machine c.args.machine.now c.gauges-gauges.new.self c.gauges-gauges.ensures) c.stored.ensures
    (λ world. inr (Err p.0, refl, inl (p.0, refl, refl, tt))))

pub returns-in_err-room-clause-done : goal.returns-in_err-room-clause-done
returns-in_err-room-clause-done g c =
    let p = err_from_is_err_and c.from_residual-in_err-room.result c.from_residual-in_err-room.ensures.1 in
    λ input. rw p.1
    (from_read g.M.Machine g.S.State _ c.args.store.now c.room.new.self c.args.machine.now c.gauges-gauges.new.self (idles ∷ []) _ (one_idle g.M.Machine c.args.machine.now c.gauges-gauges.new.self c.gauges-gauges.ensures)
    (also_room g.M.Machine g.S.State c.args.store.now c.stored.new.store c.room.new.self _ c.stored.ensures c.room.ensures.same c.room.ensures.adds)
    (λ world. inr (Err p.0, refl, inl (p.0, refl, refl, tt))))

pub returns-in_err-text-clause-done : goal.returns-in_err-text-clause-done
returns-in_err-text-clause-done g c =
    let p = err_from_is_err_and c.from_residual-in_err-text.result c.from_residual-in_err-text.ensures.1 in
    λ input. rw p.1
    (from_read g.M.Machine g.S.State _ c.args.store.now c.room.new.self c.args.machine.now c.gauges-gauges.new.self (idles ∷ []) _ (one_idle g.M.Machine c.args.machine.now c.gauges-gauges.new.self c.gauges-gauges.ensures)
    (also_room g.M.Machine g.S.State c.args.store.now c.stored.new.store c.room.new.self _ c.stored.ensures c.room.ensures.same c.room.ensures.adds)
    (λ world. inr (Err p.0, refl, inl (p.0, refl, refl, tt))))

pub returns-in_err-print-clause-done : goal.returns-in_err-print-clause-done
returns-in_err-print-clause-done g c =
    let p = err_from_is_err_and c.from_residual-in_err-print.result c.from_residual-in_err-print.ensures.1 in
    λ input. rw p.1
    (from_read g.M.Machine g.S.State _ c.args.store.now c.room.new.self c.args.machine.now c.gauges-gauges.new.self (idles ∷ []) _ (one_idle g.M.Machine c.args.machine.now c.gauges-gauges.new.self c.gauges-gauges.ensures)
    (also_room g.M.Machine g.S.State c.args.store.now c.stored.new.store c.room.new.self _ c.stored.ensures c.room.ensures.same c.room.ensures.adds)
    (λ world. inr (Err p.0, refl, inl (p.0, refl, refl, tt))))

pub returns-clause-done : goal.returns-clause-done
returns-clause-done g c =
    λ input. from_read g.M.Machine g.S.State _ c.args.store.now c.room.new.self c.args.machine.now c.gauges-gauges.new.self (idles ∷ []) _ (one_idle g.M.Machine c.args.machine.now c.gauges-gauges.new.self c.gauges-gauges.ensures)
    (also_room g.M.Machine g.S.State c.args.store.now c.stored.new.store c.room.new.self _ c.stored.ensures c.room.ensures.same c.room.ensures.adds)
    (λ world. inl (refl, refl))
