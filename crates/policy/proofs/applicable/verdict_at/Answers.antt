use Rattle.policy.proofs.Prelude.{◌∙◌, sym, ap, arith}
use Rattle.policy.specs.Index.{decision_of}
use Rattle.policy.proofs.Indexed.{row_here, row_past}
use Rattle.policy.proofs.applicable.verdict_at.Goals as goal

pub returns-then-position-rows : goal.returns-then-position-rows
returns-then-position-rows c =
    let row = c.index-rows-position in
    c.decided.ensures
    ∙ sym (ap decision_of (row_here c.args.rows.now c.args.position row.result c.if-position-rows.true row.is))

pub returns-else-position-rows : goal.returns-else-position-rows
returns-else-position-rows c =
    sym (ap decision_of (row_past c.args.rows.now c.args.position (omega (arith, c.if-position-rows.false))))
