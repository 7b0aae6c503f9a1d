use Rattle.std.proofs.Common.{rules, ◌<◌, [], length, map, string_bytes, ◌∙◌, ap, sym, refl}
use Rattle.std.proofs.lemmas.List.{get_or-map, length-map}
use Rattle.operator.proofs.Aligned.{column_first, column_more, columns_end}
use Rattle.operator.proofs.columns.aligned.Goals as goal

pub loop-column-init : goal.loop-column-init
loop-column-init c =
    let row = c.args.row.now in
    let here : 0 < length row = search rules in
    let long : 0 < length (map string_bytes row) = rw (length-map row string_bytes) here in
    column_first c.args.widths.now (map string_bytes row) _ (string_bytes c.index-row-0.result) 0 [] (search rules) long refl
    (ap string_bytes c.index-row-0.is ∙ sym (get_or-map string_bytes row 0 c.index-row-0.result [] here)) _ (search rules)

pub loop-column-preserved : goal.loop-column-preserved
loop-column-preserved c =
    let row = c.args.row.now in
    let here : c.loop-column.column < length row = search rules in
    let long : c.loop-column.column < length (map string_bytes row) = rw (length-map row string_bytes) here in
    column_more c.args.widths.now (map string_bytes row) c.loop-column.column _ c.as_str.result.now 0 [] (search rules) long refl
    (c.as_str.ensures.value ∙ sym (get_or-map string_bytes row c.loop-column.column c.index-row-column.result [] here))
    _ _ _ c.loop-column.invariant c.in_ok-push_right.ensures

pub returns : goal.returns
returns c = columns_end c.args.widths.now (map string_bytes c.args.row.now) c.loop-column.column (search rules) _ _ c.loop-column.invariant
