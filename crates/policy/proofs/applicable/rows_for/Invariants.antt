use Rattle.policy.proofs.Prelude.{◌≡◌, ◌+◌, ◌++◌, drop, map, filter, applies, numbered_from, row_view, numbered_view, question_view}
use Rattle.policy.proofs.applicable.rows_for.Given as goal

-- the rows that apply are those that were chosen, and those that apply of the rest
abbrev pub invariant-loop-index : goal.invariant-loop-index
invariant-loop-index l =
    filter (λ x. applies (question_view l.question) x.row) (numbered_from 1 (map row_view l.row-items))
    ≡ map numbered_view l.rows.items
    ++ filter (λ x. applies (question_view l.question) x.row) (numbered_from (l.index + 1) (map row_view (drop l.index l.row-items)))
