use Rattle.policy_review.proofs.Prelude.{◌≡◌, ◌+◌, drop}
use Rattle.std.proofs.Common.{◌≤◌}
use Rattle.policy_review.specs.Lines.{line_ends}
use Rattle.policy_review.proofs.lines.line_ends.Given as goal

-- the line ends so far, and those of the bytes still to come
abbrev pub invariant-loop-byte : goal.invariant-loop-byte
invariant-loop-byte l =
    (l.count + line_ends (drop l.byte-index l.bytes) ≡ line_ends l.bytes) × (l.count ≤ l.byte-index)
