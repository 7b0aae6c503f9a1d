use Rattle.forms.proofs.Prelude.{◌∙◌, ap, IfOk-weaker, compact_text, has_float, offers_shown}
use Rattle.forms.proofs.ShownOffers.{batch_has_none}
use Rattle.forms.proofs.offers.batch_body.Goals as goal

pub returns : goal.returns
returns c =
    IfOk-weaker c.to_string.result _ _
    (λ text is. is (ap has_float c.in_ok-batch_value.ensures ∙ batch_has_none (offers_shown c.args.batch.now)) ∙ ap compact_text c.in_ok-batch_value.ensures)
    c.to_string.ensures.text
