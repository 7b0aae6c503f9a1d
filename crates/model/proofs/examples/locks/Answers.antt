use Rattle.model.proofs.Streamed.{first_is_first}
use Rattle.model.proofs.Computed.{first_is_locked, second_is_refused, other_ref_is_locked}
use Rattle.model.proofs.examples.locks.Goals as goal

pub returns : goal.returns
returns c = record { first_is_first = first_is_first; first_is_locked = first_is_locked; second_is_refused = second_is_refused; other_ref_is_locked = other_ref_is_locked }
