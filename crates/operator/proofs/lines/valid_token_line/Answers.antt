use Rattle.operator.proofs.Prelude.{◌∙◌, append_assoc, refl, IfOk-weaker}
use Rattle.model.proofs.Moments.{moment_is_text}
use Rattle.operator.proofs.lines.valid_token_line.Goals as goal

pub returns : goal.returns
returns c =
    IfOk-weaker c.format.result _ _
    (λ text is. is ∙ rw (c.as_str-user.ensures.value, c.operation_word-operation.ensures, moment_is_text _ _ c.in_ok-moment.ensures, c.in_ok-digits.ensures) (simp (append_assoc) refl))
    c.format.ensures.ok
