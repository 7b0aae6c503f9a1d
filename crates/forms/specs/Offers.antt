-- The objects of a batch as a client sees them.
use Rattle.std.specs.Prelude.{◌≡◌, ℕ, List, [], ◌∷◌, ◌++◌, map, Result, Ok, Err, codes, string_bytes}
use Rattle.serde_json.specs.Data.{Data, array, object}
use Rattle.names.specs.Names.{repo_text, ref_text}
use Rattle.names.specs.declared.rules.Rule.{Rule}
use Rattle.model.specs.Answers as model
use Rattle.model.specs.Batch.{lfs_href, content_href, verify_href, ref_query}
use Rattle.model.specs.Replies.{items_of, members, actions_data, offer_data, offer_members, offer_rest}
use Rattle.forms.specs.Actions.{action_json}
use Rattle.forms.specs.declared.links.LinkTexts.{LinkTexts}
use Rattle.forms.specs.declared.offers.Actions.{Actions}
use Rattle.forms.specs.declared.offers.Actions.TheVariants.{Download, Upload, Stored}
use Rattle.forms.specs.declared.offers.Links.{Links}
use Rattle.forms.specs.declared.offers.Offer.{Offer}
use Rattle.forms.specs.declared.offers.ShownBatch.{ShownBatch}

-- an action at the address, with the token
abbrev pub action_at : Links → List ℕ → model.Action
action_at l href = record { href = href; token = l.token.now; expires_in = l.expires_in }

-- the address of an object's content
abbrev pub content_at : Links → List ℕ → List ℕ
content_at l oid = content_href l.base.now (repo_text l.repo.now) oid

-- the ref, as the query of an address
abbrev pub ref_at : Links → List ℕ
ref_at l = ref_query (ref_text l.ref_name.now)

-- the actions on an object of this name
abbrev pub actions_at : Links → List ℕ → Actions → model.Actions
actions_at l oid Download = model.downloads (action_at l (content_at l oid))
actions_at l oid Upload =
    model.uploads (action_at l (content_at l oid ++ ref_at l))
    (action_at l (verify_href l.base.now (repo_text l.repo.now) ++ ref_at l))
actions_at l oid Stored = model.is_stored

-- the actions on an object of this name, or the rule that refuses it
abbrev pub result_at : Links → List ℕ → Result Actions Rule → Result model.Actions Rule
result_at l oid (Ok actions) = Ok (actions_at l oid actions)
result_at l oid (Err rule) = Err rule

-- an object of the batch
abbrev pub offer_at : Links → Offer → model.Offer
offer_at l o =
    record { oid = o.oid.now; size = o.size; actions = result_at l (o.oid.now) o.actions }

-- the objects of the batch
abbrev pub offers_shown : ShownBatch → List model.Offer
offers_shown batch = map (offer_at batch.links) batch.offers.now

-- ---- the same, from texts that are made once for a batch

-- the texts of these links
pub record AreTextsOf (t : LinkTexts) (l : Links) : Type 0 where
  pub content : string_bytes t.content ≡ lfs_href l.base.now (repo_text l.repo.now) ++ codes "/content/"
  pub verify : string_bytes t.verify ≡ verify_href l.base.now (repo_text l.repo.now) ++ ref_at l
  pub query : string_bytes t.query ≡ ref_at l
  pub authorization : string_bytes t.authorization ≡ codes "Bearer " ++ l.token.now
  pub expires_in : t.expires_in ≡ l.expires_in

-- an action at the address
abbrev pub link_json : LinkTexts → List ℕ → Data
link_json t href = action_json t.expires_in (string_bytes t.authorization) href

-- the action by which an object is downloaded
abbrev pub download_json : LinkTexts → List ℕ → Data
download_json t oid =
    actions_data ((codes "download", link_json t (string_bytes t.content ++ oid)) ∷ [])

-- the actions by which an object is uploaded
abbrev pub upload_json : LinkTexts → List ℕ → Data
upload_json t oid = actions_data (
    (codes "upload", link_json t (string_bytes t.content ++ oid ++ string_bytes t.query))
    ∷ (codes "verify", link_json t (string_bytes t.verify)) ∷ [])

-- the object with no actions
abbrev pub bare : Offer → model.Offer
bare o = record { oid = o.oid.now; size = o.size; actions = Ok model.is_stored }

-- the object with these actions
abbrev pub with_actions : Offer → Data → Data
with_actions o actions = object (members ((codes "actions", actions) ∷ offer_rest (bare o)))

-- an object of the batch
abbrev pub offer_json : LinkTexts → Offer → Result Actions Rule → Data
offer_json t o (Err rule) = object (members (offer_members (bare o) (Err rule)))
offer_json t o (Ok Stored) = offer_data (bare o)
offer_json t o (Ok Download) = with_actions o (download_json t (o.oid.now))
offer_json t o (Ok Upload) = with_actions o (upload_json t (o.oid.now))

-- the objects of the batch
abbrev pub offers_json : LinkTexts → List Offer → Data
offers_json t offers = array (items_of (map (λ o. offer_json t o o.actions) offers))
