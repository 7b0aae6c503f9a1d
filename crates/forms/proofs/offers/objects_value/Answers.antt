use Rattle.forms.proofs.Prelude.{◌∙◌, ap, IfOk-weaker, array, items_of}
use Rattle.forms.proofs.ShownOffers.{offers_are}
use Rattle.forms.proofs.offers.objects_value.Goals as goal

pub returns : goal.returns
returns c =
    let batch = c.args.batch.now in
    IfOk-weaker c.offers_value.result _ _
    (λ value is. is ∙ ap (λ ds. array (items_of ds)) (offers_are c.in_ok-texts.texts batch.links c.in_ok-texts.ensures batch.offers.now))
    c.offers_value.ensures
