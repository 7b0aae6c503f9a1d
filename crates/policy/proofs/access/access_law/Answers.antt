use Rattle.policy.proofs.Accessing.{access_is_right}
use Rattle.policy.proofs.access.access_law.Goals as goal

pub returns : goal.returns
returns c = access_is_right
