use Rattle.model.proofs.Left.{reports_are_true, leaves_one_change}
use Rattle.model.proofs.laws.stop_law.Goals as goal

pub returns : goal.returns
returns c = record { reports = reports_are_true; leaves = leaves_one_change }
