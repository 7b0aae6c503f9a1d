use Rattle.service.proofs.Prelude.{Err, Some, ap, sym, by_rule, rule_seen}
use Rattle.model.specs.Replies.{json}
use Rattle.service.proofs.refusals.head_refused.Goals as goal

pub returns : goal.returns
returns c = record {
  status = c.status.ensures (Err (by_rule (rule_seen c.args.rule))) (ap (λ r. Err (by_rule r)) (sym c.rule.ensures));
  rule = ap Some c.rule-2.ensures;
  body = ap json c.text_of.ensures;
}
