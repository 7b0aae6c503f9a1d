use Rattle.operator.proofs.Prelude.{◌∙◌, append_assoc, refl, IfOk-weaker}
use Rattle.operator.proofs.listing_usage.room_line.Goals as goal

pub returns : goal.returns
returns c = IfOk-weaker c.format.result _ _ (λ text is. is ∙ simp (append_assoc) refl) c.format.ensures.ok
