-- A head that was read, as the service reports it.
use Rattle.std.specs.Prelude.{◌≡◌, ◌≤◌, Bool, true, List, ℕ, length, codes, string_bytes, Option, option_map, Some, Ok, Err, Result}
use Rattle.std.specs.Borrow.{Bor}
use Rattle.httparse.specs.Grammar.{RequestHead}
use Rattle.names.specs.declared.limits.TheConstants.{ALLOW_LIMIT}
use Rattle.model.specs.World.{World}
use Rattle.model.specs.Heads as model_head
use Rattle.model.specs.Heads.{head_verdict, is_method, query_of, values, asks_close, content_length}
use Rattle.model.specs.Cases.{Setting}
use Rattle.model.specs.Answers.{by_rule}
use Rattle.model.specs.Steps as model
use Rattle.model.specs.Steps.{verdict_on, closes_after, allow}
use Rattle.model.specs.Stream.{BeginsWith}
use Rattle.tokens.specs.Bearers.{single_value}
use Rattle.routes.specs.Routes.{route_seen}
use Rattle.wire.specs.HeadRules.{rule_seen}
use Rattle.forms.specs.Given.{Gives}
use Rattle.forms.specs.Requests.{request_asked}
use Rattle.forms.specs.declared.request.Request.{Request}
use Rattle.names.specs.declared.rules.Rule.{Rule}
use Rattle.model.specs.Forms.{request_of}
use Rattle.desk.specs.declared.admission.RepoRequest.{RepoRequest}
use Rattle.service.specs.Judging.{IsDenied, is_put}
use Rattle.service.specs.declared.judging.Target.{Target}
use Rattle.service.specs.declared.judging.Denied.{Denied}
use Rattle.service.specs.declared.message.Asked.{Asked}
use Rattle.service.specs.declared.message.HeadFault.{HeadFault}
use Rattle.service.specs.declared.message.HeadFault.TheVariants as fault

-- a head and its whole body
abbrev pub whole_message : RequestHead → List ℕ → model.Message
whole_message head body = model.message head body true

-- ---- what a head asks

-- the copy of a target, of the value of Authorization, and of whether the message is the last
pub record IsCopyOf (t : Target) (value : Option (Bor (List ℕ))) (is_last : Bool) (a : Asked) : Type 0 where
  pub repo : string_bytes a.repo ≡ (route_seen t.route).repo
  pub form : a.form ≡ t.form
  pub parameter : string_bytes a.parameter ≡ t.route.parameter.now
  pub query : string_bytes a.query ≡ t.query.now
  pub authorization : option_map (λ v. v.items) a.authorization ≡ option_map (λ (v : Bor (List ℕ)). v.now) value
  pub size : a.size ≡ t.size
  pub last : a.is_last ≡ is_last

-- the target that is asked for, in the terms of the definitions
abbrev pub target_asked : Asked → model_head.Target
target_asked a = record {
  repo = string_bytes a.repo;
  parameter = string_bytes a.parameter;
  form = a.form;
}

-- the head asks this; only an upload has the method PUT
pub record Asks (h : RequestHead) (a : Asked) : Type 0 where
  pub target : head_verdict h ≡ Ok (target_asked a)
  pub query : string_bytes a.query ≡ query_of h.target
  pub bearers : values (codes "authorization") h ≡ single_value (option_map (λ v. v.items) a.authorization)
  pub size : a.size ≡ content_length h
  pub last : asks_close h ≡ a.is_last
  pub put : is_method (codes "PUT") h ≡ is_put a.form

-- the head asks this; or a rule refuses it; or it is not refused, and there is no memory for its texts
abbrev pub IsRead : RequestHead → Result Asked HeadFault → Type 0
IsRead h (Ok a) = Asks h a
IsRead h (Err (fault.Denied d)) = IsDenied h d
IsRead h (Err fault.Memory) = (target : model_head.Target) × (head_verdict h ≡ Ok target)

-- the request that the head and this body make, or the rule that refuses it
abbrev pub IsReadFrom : Asked → List ℕ → Result Request Rule → Type 0
IsReadFrom a body read = Gives request_asked read (request_of a.form (string_bytes a.parameter) (string_bytes a.query) body)

-- the request to the desk, with what was read of head and body
pub record IsRequestOf (a : Asked) (read : Result Request Rule) (r : RepoRequest) : Type 0 where
  pub authorization : option_map (λ v. v.now) r.authorization ≡ option_map (λ v. v.items) a.authorization
  pub repo : r.repo.now ≡ string_bytes a.repo
  pub request : r.request.now ≡ read

-- ---- a refused head

-- a message at the front of the bytes that a head rule refuses in every world
pub record IsRefused (bytes : List ℕ) (asked : model.Message) (d : Denied) : Type 0 where
  pub next : List ℕ
  pub begins : BeginsWith bytes asked next
  pub closes : closes_after asked (Err (by_rule (rule_seen d.rule))) ≡ true
  pub verdict : (world : World) (setting : Setting) → verdict_on world setting asked ≡ Some (Err (by_rule (rule_seen d.rule)))
  pub methods : d.allow.now ≡ allow asked (Err (by_rule (rule_seen d.rule)))
  pub short : length d.allow.now ≤ ALLOW_LIMIT
