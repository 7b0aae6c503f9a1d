use Rattle.tables.proofs.Prelude.{rules, one_more}
use Rattle.tables.specs.Statements.{show_repo_retired}
use Rattle.tables.specs.Listing.{retired_fields, read_retired}
use Rattle.tables.proofs.listing.all_retired.Goals as goal

pub loop-row-preserved : goal.loop-row-preserved
loop-row-preserved c retired all =
    one_more show_repo_retired retired_fields read_retired c.args.rows.now retired c.loop-row.row-index c.row-item.result c.in_ok-name.name c.loop-row.found.items c.push.new.self.items all c.loop-row-test.true c.row-item.is c.in_ok-name.ensures
    (c.loop-row.invariant retired all) (search rules)
