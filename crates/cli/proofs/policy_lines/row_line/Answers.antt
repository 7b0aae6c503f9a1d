use Rattle.std.proofs.Common.{◌∙◌, refl, append_assoc}
use Rattle.std.proofs.lemmas.Result.{IfOk-weaker}
use Rattle.cli.proofs.policy_lines.row_line.Goals as goal

pub returns-in-Some : goal.returns-in-Some
returns-in-Some c =
    IfOk-weaker c.format-in-Some.result _ _ (λ text is. is ∙ rw c.in-Some.is (simp (append_assoc) refl)) c.format-in-Some.ensures.ok
