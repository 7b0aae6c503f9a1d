use Rattle.placed.proofs.Prelude.{err_from_is_err_and}
use Rattle.placed.proofs.Removing.{leads_retired, retired_leaves, no_region, object_err, object_none, object_ok}
use Rattle.placed.proofs.placed.Placed.retire.Goals as goal

pub returns-in_err-region-clause-changes : goal.returns-in_err-region-clause-changes
returns-in_err-region-clause-changes g c =
    no_region g.T.State g.D.Disk c.args.self.now c.region_held.new.rows c.object.new.self c.object.result _ c.object.ensures
    _ _ c.region_held.result c.region_held.ensures _ c.from_residual-in_err-region.ensures.0 _ _

pub returns-in_err-removed-clause-changes : goal.returns-in_err-removed-clause-changes
returns-in_err-removed-clause-changes g c =
    let p = err_from_is_err_and c.from_residual-in_err-removed.result c.from_residual-in_err-removed.ensures.1 in
    rw p.1 (
    object_err g.T.State g.D.Disk c.args.self.now c.retire_object.new.self _ _ c.object.new.self c.region_held.new.rows
    c.in_ok-object.field-0 c.in_ok-object.ensures c.id_of-found.result c.id_of-found.ensures c.in_ok-region.region
    (rw c.deref.ensures.value at c.in_ok-region.ensures) _ (leads_retired _ _ _ _) _ p.0 c.in_err-removed.ensures
    )

pub returns-then-removed : goal.returns-then-removed
returns-then-removed g c =
    let it = object_ok g.T.State g.D.Disk c.args.self.now c.retire_object.new.self _ _ c.object.new.self
    c.region_held.new.rows c.in_ok-object.field-0 c.in_ok-object.ensures c.id_of-found.result c.id_of-found.ensures
    c.in_ok-region.region (rw c.deref.ensures.value at c.in_ok-region.ensures) _ (leads_retired _ _ _ _) (retired_leaves _ _)
    c.in_ok-removed.removed c.in_ok-removed.ensures c.forget_found.new.staged c.forget_found.ensures.items
    c.give_back.new.regions c.give_back.new.disk c.give_back.ensures.freed c.give_back.ensures.kept in
    record { changes = it.0; frees = it.1 }

pub returns-else-removed : goal.returns-else-removed
returns-else-removed g c =
    let it = object_none g.T.State g.D.Disk c.args.self.now c.retire_object.new.self _ _ c.object.new.self
    c.region_held.new.rows c.in_ok-object.field-0 c.in_ok-object.ensures c.id_of-found.result c.id_of-found.ensures
    c.in_ok-region.region (rw c.deref.ensures.value at c.in_ok-region.ensures) _ (leads_retired _ _ _ _) (retired_leaves _ _)
    c.in_ok-removed.removed c.if-removed.false c.in_ok-removed.ensures in
    record { changes = it.0; frees = it.1 }
