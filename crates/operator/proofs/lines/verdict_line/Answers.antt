use Rattle.operator.proofs.Prelude.{◌∙◌, append_assoc, refl, IfOk-weaker}
use Rattle.operator.proofs.lines.verdict_line.Goals as goal

pub returns-in-Denied : goal.returns-in-Denied
returns-in-Denied c =
    rw c.in-Denied.is (IfOk-weaker c.format-in-Denied.result _ _ (λ text is. is ∙ rw (c.as_str-path.ensures.value) (simp (append_assoc) refl)) c.format-in-Denied.ensures.ok)

pub returns-in-Locked : goal.returns-in-Locked
returns-in-Locked c =
    rw c.in-Locked.is
    (IfOk-weaker c.format-in-Locked.result _ _
    (λ text is. is ∙ rw (c.as_str-path.ensures.value, c.as_str-owner.ensures.value, c.get-id.ensures.value) (simp (append_assoc) refl))
    c.format-in-Locked.ensures.ok)
