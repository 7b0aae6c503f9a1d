use Rattle.policy_review.proofs.Prelude.{◌∙◌, sym, string_bytes}
use Rattle.model.specs.Policy.{is_any}
use Rattle.policy_review.proofs.Lists.{list_any-map}
use Rattle.policy_review.proofs.doubts.has_any.Goals as goal

pub returns : goal.returns
returns c = c.some_is_any.ensures ∙ sym (list_any-map is_any string_bytes c.args.patterns.now)
