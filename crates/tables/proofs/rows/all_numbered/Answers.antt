use Rattle.tables.proofs.Prelude.{rules, one_more}
use Rattle.tables.specs.Statements.{show_numbered}
use Rattle.tables.specs.Staging.{numbered_fields, read_numbered}
use Rattle.tables.proofs.rows.all_numbered.Goals as goal

pub loop-row-preserved : goal.loop-row-preserved
loop-row-preserved c chunks all =
    one_more show_numbered numbered_fields read_numbered c.args.rows.now chunks c.loop-row.row-index c.row-item.result c.in_ok-chunk.chunk c.loop-row.found.items c.push.new.self.items all c.loop-row-test.true c.row-item.is c.in_ok-chunk.ensures
    (c.loop-row.invariant chunks all) (search rules)
