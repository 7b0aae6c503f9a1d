use Rattle.policy_review.proofs.Prelude.{◌∙◌, sym, string_bytes}
use Rattle.model.specs.Policy.{holds}
use Rattle.policy_review.proofs.Lists.{list_any-map}
use Rattle.policy_review.proofs.doubts.held_by.Goals as goal

pub returns : goal.returns
returns c = c.has_holder.ensures ∙ sym (list_any-map (holds c.args.text.now) string_bytes c.args.patterns.now)
