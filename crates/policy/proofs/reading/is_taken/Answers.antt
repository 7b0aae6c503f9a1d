use Rattle.policy.proofs.Prelude.{◌∙◌}
use Rattle.policy.proofs.Steps.{is_among-names_of}
use Rattle.policy.proofs.reading.is_taken.Goals as goal

pub returns : goal.returns
returns c = c.is_some.ensures ∙ is_among-names_of c.args.repos.now c.args.name.now c.named.result c.named.ensures
