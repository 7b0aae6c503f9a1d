use Rattle.refinement.proofs.Same.{is_within}
use Rattle.refinement.proofs.laws.bound_law.Goals as goal

pub returns : goal.returns
returns g c bound honest bounded world left = is_within left.0 bound world left.3 (bounded.among honest left.0 left.1)
