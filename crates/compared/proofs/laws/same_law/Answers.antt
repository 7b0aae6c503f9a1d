use Rattle.compared.proofs.Represented.{same_represented}
use Rattle.compared.proofs.laws.same_law.Goals as goal

pub returns : goal.returns
returns c = same_represented
