use Rattle.operator.proofs.Prelude.{IfOk-weaker, ◌∙◌, append_assoc, refl}
use Rattle.operator.proofs.inspecting.Inspection.progress.Goals as goal

pub returns : goal.returns
returns c = IfOk-weaker c.format.result _ _ (λ text is. is ∙ rw c.len-all.ensures (simp append_assoc refl)) c.format.ensures.ok
