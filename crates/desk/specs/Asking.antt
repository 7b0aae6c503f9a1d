-- A request, in the terms of the definitions.
use Rattle.std.specs.Prelude.{ℕ, Bool, true, false, Result, Ok, Err, option_map}
use Rattle.names.specs.declared.rules.Rule.{Rule}
use Rattle.model.specs.Reading.{◌>>=◌}
use Rattle.model.specs.Forms.{Request, asks_put}
use Rattle.model.specs.World.{World}
use Rattle.model.specs.Cases.{Setting, DeskRequest}
use Rattle.model.specs.Answers.{Denial, Plan}
use Rattle.model.specs.Verdict.{desk_plan}
use Rattle.policy.specs.Values.{policy_view}
use Rattle.policy.specs.declared.policies.Policy.{Policy}
use Rattle.forms.specs.Requests.{request_asked}
use Rattle.tokens.specs.Bearers.{single_value}
use Rattle.desk.specs.declared.admission.RepoRequest.{RepoRequest}

-- the policy and the moment
abbrev pub setting_of : Policy → ℕ → Setting
setting_of policy now = record { policy = policy_view policy; now = now }

-- what it asks, or the rule that refuses it
abbrev pub request_read : RepoRequest → Result Request Rule
request_read a = a.request.now >>= λ request. Ok (request_asked request)

-- the request to the desk, with a content of this size
abbrev pub request_seen : RepoRequest → ℕ → DeskRequest
request_seen a size = record {
  bearers = single_value (option_map (λ v. v.now) a.authorization);
  repo = a.repo.now;
  left = size;
  request = request_read a;
}

-- the plan for the request
abbrev pub plan_seen : World → Policy → ℕ → RepoRequest → ℕ → Result Plan Denial
plan_seen world policy now a size = desk_plan world (setting_of policy now) (request_seen a size)

-- what is asked uploads an object
abbrev pub uploads : Request → Bool
uploads (asks_put asked) = true
uploads _ = false

-- the same, if the request is not refused
abbrev pub uploads_if : Result Request Rule → Bool
uploads_if (Ok request) = uploads request
uploads_if (Err rule) = false

-- the request to the desk uploads an object
abbrev pub is_upload_of : RepoRequest → Bool
is_upload_of a = uploads_if (request_read a)
