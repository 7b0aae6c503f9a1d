use Rattle.model.proofs.Retired.{removed_is_retired, retired_for_good}
use Rattle.model.proofs.laws.retire_law.Goals as goal

pub returns : goal.returns
returns c = record { retires = removed_is_retired; stays = retired_for_good }
