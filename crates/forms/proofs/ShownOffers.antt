-- The JSON of a batch.
use Rattle.forms.proofs.Prelude.{◌≡◌, false, List, [], ◌∷◌, map, Result, Ok, Err, refl, ap, ◌∙◌, object, has_float, items_have_float, Rule, items_of, members, offer_data, offer_members, batch_json, offer_at, offer_json, result_at}
use Rattle.model.specs.Answers as model
use Rattle.forms.specs.Offers.{AreTextsOf}
use Rattle.forms.specs.declared.offers.Actions.{Actions}
use Rattle.forms.specs.declared.offers.Actions.TheVariants.{Download, Upload, Stored}
use Rattle.forms.specs.declared.offers.Links.{Links}
use Rattle.forms.specs.declared.offers.Offer.{Offer}
use Rattle.forms.specs.declared.links.LinkTexts.{LinkTexts}

-- ---- from texts that are made once

offer_is : (t : LinkTexts) (l : Links) (o : Offer) → AreTextsOf t l → (actions : Result Actions Rule)
    → offer_json t o actions ≡ object (members (offer_members (offer_at l o) (result_at l (o.oid.now) actions)))
offer_is t l o are (Err rule) = refl
offer_is t l o are (Ok Stored) = refl
offer_is t l o are (Ok Download) = rw (are.content, are.authorization, are.expires_in) refl
offer_is t l o are (Ok Upload) = rw (are.content, are.verify, are.query, are.authorization, are.expires_in) refl

pub offers_are : (t : LinkTexts) (l : Links) → AreTextsOf t l → (offers : List Offer)
    → map (λ o. offer_json t o o.actions) offers ≡ map offer_data (map (offer_at l) offers)
offers_are t l are [] = refl
offers_are t l are (o ∷ offers) =
    ap (λ d. d ∷ map (λ o. offer_json t o o.actions) offers) (offer_is t l o are o.actions)
    ∙ ap (λ ds. offer_data (offer_at l o) ∷ ds) (offers_are t l are offers)

-- ---- no object of a batch has a float, so the text of its JSON is known

offer_has_none : (offer : model.Offer) (actions : Result model.Actions Rule) → has_float (object (members (offer_members offer actions))) ≡ false
offer_has_none offer (Err rule) = refl
offer_has_none offer (Ok model.is_stored) = refl
offer_has_none offer (Ok (model.downloads download)) = refl
offer_has_none offer (Ok (model.uploads upload verify)) = refl

offers_have_none : (offers : List model.Offer) → items_have_float (items_of (map offer_data offers)) ≡ false
offers_have_none [] = refl
offers_have_none (o ∷ offers) = rw (offer_has_none o o.actions, offers_have_none offers) refl

pub batch_has_none : (offers : List model.Offer) → has_float (batch_json offers) ≡ false
batch_has_none offers = rw (offers_have_none offers) refl
