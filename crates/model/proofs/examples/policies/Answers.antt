use Rattle.model.proofs.Computed.{folder_is_frozen, push_is_denied}
use Rattle.model.proofs.examples.policies.Goals as goal

pub returns : goal.returns
returns c = record { folder_is_frozen = folder_is_frozen; push_is_denied = push_is_denied }
