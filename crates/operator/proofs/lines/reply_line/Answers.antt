use Rattle.operator.proofs.Prelude.{◌∙◌, append_assoc, refl, IfOk-weaker}
use Rattle.operator.proofs.lines.reply_line.Goals as goal

pub returns-in-Some : goal.returns-in-Some
returns-in-Some c = rw c.in-Some.is (IfOk-weaker c.format.result _ _ (λ text is. is ∙ rw (c.as_u16-status.ensures.value) (simp (append_assoc) refl)) c.format.ensures.ok)
