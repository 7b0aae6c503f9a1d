use Rattle.forms.proofs.Prelude.{◌∙◌, refl, append_assoc, IfOk-weaker}
use Rattle.forms.proofs.links.lfs_href.Goals as goal

pub returns : goal.returns
returns c =
    IfOk-weaker c.format.result _ _ (λ href is. is ∙ rw c.as_str-name.ensures.value (simp append_assoc refl)) c.format.ensures.ok
