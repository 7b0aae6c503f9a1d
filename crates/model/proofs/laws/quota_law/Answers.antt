use Rattle.model.proofs.Rooms.{room_is_quota}
use Rattle.model.proofs.Quota.{stays_in_quota}
use Rattle.model.proofs.laws.quota_law.Goals as goal

pub returns : goal.returns
returns c = record { room = room_is_quota; stays = stays_in_quota }
