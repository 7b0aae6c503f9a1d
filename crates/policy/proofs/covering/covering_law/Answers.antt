use Rattle.policy.proofs.Covered.{covering_row_matches}
use Rattle.policy.proofs.covering.covering_law.Goals as goal

pub returns : goal.returns
returns c = covering_row_matches
