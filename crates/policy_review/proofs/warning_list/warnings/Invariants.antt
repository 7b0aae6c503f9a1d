use Rattle.policy_review.proofs.Prelude.{◌≡◌, ◌+◌, ◌++◌, drop, map}
use Rattle.policy.specs.Values.{policy_view, row_view}
use Rattle.policy_review.specs.Values.{warning_view}
use Rattle.policy_review.specs.Warnings.{rows_warnings, warnings}
use Rattle.policy_review.proofs.warning_list.warnings.Given as goal

-- the warnings so far, and those of the rows still to come
abbrev pub invariant-loop-index : goal.invariant-loop-index
invariant-loop-index l =
    map warning_view l.found.items ++ rows_warnings (policy_view l.policy) (l.index + 1) (map row_view (drop l.index l.row-items))
    ≡ warnings (policy_view l.policy)
