use Rattle.policy.proofs.Prelude.{◌∙◌, sym, string_bytes, holds}
use Rattle.policy.proofs.Lists.{list_any-map}
use Rattle.policy.proofs.rows.held_by.Goals as goal

pub returns : goal.returns
returns c = c.has_holder.ensures ∙ sym (list_any-map (holds c.args.text.now) string_bytes c.args.patterns.now)
