-- The JSON of an action, from its texts.
use Rattle.std.specs.Prelude.{ℕ, List, [], ◌∷◌, codes}
use Rattle.serde_json.specs.Data.{Data, object, string, number, unsigned}
use Rattle.model.specs.Answers as model
use Rattle.model.specs.Replies.{members}
use Rattle.forms.specs.declared.action.Action.{Action}

-- an action of the definitions
abbrev pub action_of : Action → model.Action
action_of a = record { href = a.href.now; token = a.token.now; expires_in = a.expires_in }

-- its JSON, with this value of the header field
abbrev pub action_json : ℕ → List ℕ → List ℕ → Data
action_json expires_in authorization href = object (members (
    (codes "expires_in", number (unsigned expires_in))
    ∷ (codes "header", object (members ((codes "Authorization", string authorization) ∷ [])))
    ∷ (codes "href", string href) ∷ []))
