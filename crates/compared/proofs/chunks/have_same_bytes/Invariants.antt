-- The chunks of the keys that were gone through have the same bytes.
use Rattle.compared.proofs.Comparisons.{SameSoFar}
use Rattle.compared.proofs.chunks.have_same_bytes.Given as goal

abbrev pub invariant-loop-key : goal.invariant-loop-key
invariant-loop-key g l = SameSoFar g.A.State g.B.State l.keys l.key-index l.initial.old l.old l.initial.new l.new
