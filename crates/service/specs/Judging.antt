-- What the service reports of a head: what it asks for, or the rule that refuses it.
use Rattle.std.specs.Prelude.{◌≡◌, ◌≤◌, Bool, true, false, length, [], codes, Result, Ok, Err}
use Rattle.httparse.specs.Grammar.{RequestHead}
use Rattle.names.specs.declared.limits.TheConstants.{ALLOW_LIMIT}
use Rattle.model.specs.Heads as model
use Rattle.model.specs.Heads.{head_verdict, is_method, query_of, content_length}
use Rattle.model.specs.Answers.{by_rule}
use Rattle.model.specs.Steps.{message, allow}
use Rattle.routes.specs.Routes.{route_seen}
use Rattle.wire.specs.HeadRules.{rule_seen}
use Rattle.model.specs.declared.Form.{Form}
use Rattle.model.specs.declared.Form.TheVariants.{Put}
use Rattle.service.specs.declared.judging.Target.{Target}
use Rattle.service.specs.declared.judging.Denied.{Denied}

-- the form is that of an upload
abbrev pub is_put : Form → Bool
is_put Put = true
is_put _ = false

-- the target in the terms of the definitions
abbrev pub target_seen : Target → model.Target
target_seen t = record {
  repo = (route_seen t.route).repo;
  parameter = t.route.parameter.now;
  form = t.form;
}

-- the head asks for this target, with this query and `size` bytes of body; only an upload has the method PUT
pub record AsksFor (h : RequestHead) (t : Target) : Type 0 where
  pub target : head_verdict h ≡ Ok (target_seen t)
  pub query : t.query.now ≡ query_of h.target
  pub size : t.size ≡ content_length h
  pub put : is_method (codes "PUT") h ≡ is_put t.form

-- this rule refuses the head, and the reply names these methods
pub record IsDenied (h : RequestHead) (d : Denied) : Type 0 where
  pub rule : head_verdict h ≡ Err (rule_seen d.rule)
  pub methods : d.allow.now ≡ allow (message h [] true) (Err (by_rule (rule_seen d.rule)))
  pub short : length d.allow.now ≤ ALLOW_LIMIT

-- the result is correct for this head
abbrev pub IsJudged : RequestHead → Result Target Denied → Type 0
IsJudged h (Ok t) = AsksFor h t
IsJudged h (Err d) = IsDenied h d
