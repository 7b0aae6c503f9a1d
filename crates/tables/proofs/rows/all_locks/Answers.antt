use Rattle.tables.proofs.Prelude.{rules, show_lock, lock_fields, read_lock, one_more}
use Rattle.tables.proofs.rows.all_locks.Goals as goal

pub loop-row-preserved : goal.loop-row-preserved
loop-row-preserved c locks all =
    one_more show_lock lock_fields read_lock c.args.rows.now locks c.loop-row.row-index c.row-item.result c.in_ok-lock.lock c.loop-row.found.items c.push.new.self.items all c.loop-row-test.true c.row-item.is c.in_ok-lock.ensures.value
    (c.loop-row.invariant locks all) (search rules)
