use Rattle.std.proofs.Common.{◌≡◌, ◌++◌, replicate, string_bytes}
use Rattle.operator.proofs.columns.push_spaces.Given as goal

abbrev pub invariant-spaces : goal.invariant-spaces
invariant-spaces l = string_bytes l.line ++ replicate l.left 32 ≡ string_bytes l.fn.line ++ replicate l.fn.count 32

abbrev pub decreases-spaces : goal.decreases-spaces
decreases-spaces l = l.left
