use Rattle.tables.proofs.Prelude.{rules, one_more}
use Rattle.tables.specs.Statements.{show_repo_lock}
use Rattle.tables.specs.Listing.{repo_lock_fields, read_repo_lock}
use Rattle.tables.proofs.listing.all_repo_locks.Goals as goal

pub loop-row-preserved : goal.loop-row-preserved
loop-row-preserved c locks all =
    one_more show_repo_lock repo_lock_fields read_repo_lock c.args.rows.now locks c.loop-row.row-index c.row-item.result c.in_ok-lock.lock c.loop-row.found.items c.push.new.self.items all c.loop-row-test.true c.row-item.is c.in_ok-lock.ensures
    (c.loop-row.invariant locks all) (search rules)
