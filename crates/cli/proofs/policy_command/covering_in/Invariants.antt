use Rattle.std.proofs.Common.{◌≡◌, ◌+◌, drop, map}
use Rattle.policy.specs.Values.{row_view}
use Rattle.cli.specs.Answers.{covering_from}
use Rattle.cli.proofs.policy_command.covering_in.Given as goal

-- no row before this one covers the row
abbrev pub invariant-loop-index : goal.invariant-loop-index
invariant-loop-index l =
    covering_from 1 (map row_view l.earlier) (row_view l.row)
    ≡ covering_from (l.index + 1) (map row_view (drop l.index l.earlier)) (row_view l.row)
