use Rattle.tables.proofs.Prelude.{rules, one_more}
use Rattle.tables.specs.Statements.{show_upload}
use Rattle.tables.specs.Listing.{marked_fields, read_marked}
use Rattle.tables.proofs.listing.all_marked.Goals as goal

pub loop-row-preserved : goal.loop-row-preserved
loop-row-preserved c uploads all =
    one_more show_upload marked_fields read_marked c.args.rows.now uploads c.loop-row.row-index c.row-item.result c.in_ok-upload.upload c.loop-row.found.items c.push.new.self.items all c.loop-row-test.true c.row-item.is c.in_ok-upload.ensures
    (c.loop-row.invariant uploads all) (search rules)
