use Rattle.refinement.proofs.Same.{same_world}
use Rattle.refinement.proofs.laws.same_law.Goals as goal

pub returns : goal.returns
returns c t a b p q = same_world t a b p q
