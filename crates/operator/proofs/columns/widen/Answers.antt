use Rattle.std.proofs.Common.{rules, ◌≡◌, ◌∙◌, arith, length, map, string_bytes}
use Rattle.std.proofs.lemmas.List.{length-map}
use Rattle.operator.proofs.Widths.{all_widened}
use Rattle.operator.proofs.columns.widen.Goals as goal

pub returns : goal.returns
returns c =
    let old : length c.args.widths.now ≡ 8 = search rules in
    let row : length c.args.row.now ≡ 8 = search rules in
    all_widened c.args.widths.now c.loop-column.widths (map string_bytes c.args.row.now) 8 old c.loop-column.invariant.long (length-map c.args.row.now string_bytes ∙ row)
    (λ k within. c.loop-column.invariant.done k (omega (arith, within, c.loop-column-test.false)))
