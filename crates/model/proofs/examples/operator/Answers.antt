use Rattle.model.proofs.Computed.{refusal_closes, token_is_issued, token_is_pruned, object_is_removed, moments_are_printed}
use Rattle.model.proofs.examples.operator.Goals as goal

pub returns : goal.returns
returns c = record { refusal_closes = refusal_closes; token_is_issued = token_is_issued; token_is_pruned = token_is_pruned; object_is_removed = object_is_removed; moments_are_printed = moments_are_printed }
