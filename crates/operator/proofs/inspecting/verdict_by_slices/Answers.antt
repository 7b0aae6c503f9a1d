use Rattle.operator.proofs.Prelude.{err_from_is_err_and, reads_then}
use Rattle.operator.proofs.inspecting.verdict_by_slices.Goals as goal

pub returns-in_err-is_still_damaged-in-Other : goal.returns-in_err-is_still_damaged-in-Other
returns-in_err-is_still_damaged-in-Other g c =
    let p = err_from_is_err_and c.from_residual-in_err-is_still_damaged-in-Other.result c.from_residual-in_err-is_still_damaged-in-Other.ensures.1 in
    rw p.1 (reads_then g.S.State c.args.store.now c.advance.new.store c.is_still_damaged.new.store _ _ _ (λ world laws x y. tt) c.advance.ensures c.is_still_damaged.ensures.world)

pub returns-in_ok-is_still_damaged-in-Other : goal.returns-in_ok-is_still_damaged-in-Other
returns-in_ok-is_still_damaged-in-Other g c = reads_then g.S.State c.args.store.now c.advance.new.store c.is_still_damaged.new.store _ _ _ (λ world laws x y. y) c.advance.ensures c.in_ok-is_still_damaged-in-Other.ensures.world
