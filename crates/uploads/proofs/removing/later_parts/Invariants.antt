use Rattle.uploads.proofs.Prelude.{⊤, Reads}
use Rattle.uploads.proofs.removing.later_parts.Given as goal

abbrev pub invariant-loop-part : goal.invariant-loop-part
invariant-loop-part g l = Reads g.S.State l.fn.store l.store (λ _. ⊤)
