use Rattle.policy.proofs.Prelude.{◌≡◌, ◌+◌, drop, map, decide_from, row_view, question_view}
use Rattle.policy.proofs.decisions.decide.Given as goal

-- no row before this one matches
abbrev pub invariant-loop-index : goal.invariant-loop-index
invariant-loop-index l =
    decide_from 1 (map row_view l.row-items) (question_view l.question)
    ≡ decide_from (l.index + 1) (map row_view (drop l.index l.row-items)) (question_view l.question)
