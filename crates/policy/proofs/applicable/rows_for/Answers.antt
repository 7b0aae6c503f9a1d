use Rattle.policy.proofs.Prelude.{◌∙◌, sym, ap, List, ◌++◌, map, ◌+◌, append-nil, at_drop_all, filter, row_view, numbered_view, question_view, numbered_from, applies}
use Rattle.policy.specs.declared.rows.Row.{Row}
use Rattle.policy.proofs.applicable.rows_for.Goals as goal

pub returns : goal.returns
returns c =
    let q = question_view c.args.question.now in
    let chosen = map numbered_view c.loop-index.rows.items in
    let i = c.loop-index.index in
    sym (append-nil chosen)
    ∙ sym
    (at_drop_all (λ (rows : List Row). chosen ++ filter (λ x. applies q x.row) (numbered_from (i + 1) (map row_view rows))) c.deref-row-items.result.now i c.loop-index-test.false)
    ∙ sym c.loop-index.invariant ∙ ap (λ (rows : List Row). filter (λ x. applies q x.row) (numbered_from 1 (map row_view rows))) c.deref-row-items.ensures.value
