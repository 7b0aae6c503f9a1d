use Rattle.operator.proofs.Prelude.{◌≡◌, ◌++◌, length, escaped}
use Rattle.operator.proofs.escapes.escaped.Given as goal

-- what was added, and then the escapes of the rest
abbrev pub invariant-bytes : goal.invariant-bytes
invariant-bytes l = escaped l.fn.text ≡ l.bytes.items ++ escaped l.rest

abbrev pub decreases-bytes : goal.decreases-bytes
decreases-bytes l = length l.rest
