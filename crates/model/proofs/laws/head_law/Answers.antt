use Rattle.model.proofs.Heads.{head_decides, target_decides}
use Rattle.model.proofs.laws.head_law.Goals as goal

pub returns : goal.returns
returns c = record { head = head_decides; target = target_decides }
