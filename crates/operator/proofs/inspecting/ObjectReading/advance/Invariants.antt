use Rattle.operator.proofs.Prelude.{⊤, Reads}
use Rattle.operator.proofs.inspecting.ObjectReading.advance.Given as goal

abbrev pub invariant-chunks : goal.invariant-chunks
invariant-chunks g l = Reads g.S.State l.fn.store l.store (λ _. ⊤)
