use Rattle.tables.proofs.Prelude.{rules, show_token, token_fields, read_token, one_more}
use Rattle.tables.proofs.rows.all_tokens.Goals as goal

pub loop-row-preserved : goal.loop-row-preserved
loop-row-preserved c tokens all =
    one_more show_token token_fields read_token c.args.rows.now tokens c.loop-row.row-index c.row-item.result c.in_ok-token.token c.loop-row.found.items c.push.new.self.items all c.loop-row-test.true c.row-item.is c.in_ok-token.ensures.value
    (c.loop-row.invariant tokens all) (search rules)
