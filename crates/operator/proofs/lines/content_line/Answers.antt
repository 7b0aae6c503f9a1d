use Rattle.operator.proofs.Prelude.{◌∙◌, append_assoc, refl, IfOk-weaker}
use Rattle.operator.proofs.lines.content_line.Goals as goal

pub returns : goal.returns
returns c = IfOk-weaker c.format.result _ _ (λ text is. is ∙ rw (c.text-name.ensures.value, c.get-size.ensures.value) (simp (append_assoc) refl)) c.format.ensures.ok
