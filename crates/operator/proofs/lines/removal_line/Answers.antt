use Rattle.operator.proofs.Prelude.{◌∙◌, append_assoc, refl, IfOk-weaker}
use Rattle.operator.proofs.lines.removal_line.Goals as goal

pub returns : goal.returns
returns c = IfOk-weaker c.format.result _ _ (λ text is. is ∙ rw (c.as_str-repo.ensures.value, c.text-name.ensures.value) (simp (append_assoc) refl)) c.format.ensures.ok
