use Rattle.forms.proofs.Prelude.{◌≡◌, map, take, offer_json}
use Rattle.serde_json.specs.View.{view}
use Rattle.forms.proofs.offers.offers_value.Given as goal

abbrev pub invariant-loop-offer : goal.invariant-loop-offer
invariant-loop-offer l =
    map view l.values.items ≡ map (λ o. offer_json l.texts o o.actions) (take l.offer-index l.offers)
