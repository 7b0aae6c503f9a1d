use Rattle.tables.proofs.Prelude.{rules, one_more}
use Rattle.tables.specs.Statements.{show_chunk_key}
use Rattle.tables.specs.Listing.{key_fields, read_key}
use Rattle.tables.proofs.listing.all_keys.Goals as goal

pub loop-row-preserved : goal.loop-row-preserved
loop-row-preserved c chunks all =
    one_more show_chunk_key key_fields read_key c.args.rows.now chunks c.loop-row.row-index c.row-item.result c.in_ok-key.key c.loop-row.found.items c.push.new.self.items all c.loop-row-test.true c.row-item.is c.in_ok-key.ensures
    (c.loop-row.invariant chunks all) (search rules)
