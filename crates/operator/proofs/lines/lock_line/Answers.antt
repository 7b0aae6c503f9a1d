use Rattle.operator.proofs.Prelude.{◌∙◌, append_assoc, refl, IfOk-weaker}
use Rattle.model.proofs.Moments.{moment_is_text}
use Rattle.operator.proofs.lines.lock_line.Goals as goal

pub returns : goal.returns
returns c =
    IfOk-weaker c.format.result _ _
    (λ text is repo.
    is ∙ rw (c.get-id.ensures.value, c.as_str-name.ensures.value, c.as_str-owner.ensures.value, c.as_str-path.ensures.value, moment_is_text _ _ c.in_ok-moment.ensures) (simp (append_assoc) refl))
    c.format.ensures.ok
