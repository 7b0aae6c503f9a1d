use Rattle.placed.proofs.Prelude.{err_from_is_err_and}
use Rattle.placed.proofs.Removing.{remove_err, remove_found, remove_none}
use Rattle.placed.proofs.placed.Placed.remove.Goals as goal

pub returns-in_err-removed-clause-changes : goal.returns-in_err-removed-clause-changes
returns-in_err-removed-clause-changes g c =
    let p = err_from_is_err_and c.from_residual-in_err-removed.result c.from_residual-in_err-removed.ensures.1 in
    rw p.1 (
    remove_err g.T.State g.D.Disk c.args.self.now c.remove_upload.new.self _ c.region_held.new.rows c.in_ok-region.region
    (rw c.deref.ensures.value at c.in_ok-region.ensures) _ p.0 c.in_err-removed.ensures
    )

pub returns-then-removed : goal.returns-then-removed
returns-then-removed g c =
    let it = remove_found g.T.State g.D.Disk c.args.self.now c.remove_upload.new.self _ c.region_held.new.rows
    c.in_ok-region.region (rw c.deref.ensures.value at c.in_ok-region.ensures) c.in_ok-removed.removed
    c.in_ok-removed.ensures c.if-removed.true c.forget.new.staged c.forget.ensures.items c.give_back.new.regions
    c.give_back.new.disk c.give_back.ensures.freed c.give_back.ensures.kept in
    record { changes = it.0; frees = it.1 }

pub returns-else-removed : goal.returns-else-removed
returns-else-removed g c =
    let it = remove_none g.T.State g.D.Disk c.args.self.now c.remove_upload.new.self _ c.region_held.new.rows
    c.in_ok-region.region (rw c.deref.ensures.value at c.in_ok-region.ensures) c.in_ok-removed.removed
    c.in_ok-removed.ensures c.if-removed.false in
    record { changes = it.0; frees = it.1 }
