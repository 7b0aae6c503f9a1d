use Rattle.policy.proofs.Applying.{applicable_rows_decide}
use Rattle.policy.proofs.applicable.applicable_law.Goals as goal

pub returns : goal.returns
returns c = applicable_rows_decide
