use Rattle.model.proofs.Computed.{hidden_is_left_out, pages_are_cut, pages_are_refused, locks_are_split, lock_is_released, locks_are_served}
use Rattle.model.proofs.examples.pages.Goals as goal

pub returns : goal.returns
returns c = record { hidden_is_left_out = hidden_is_left_out; pages_are_cut = pages_are_cut; pages_are_refused = pages_are_refused; locks_are_split = locks_are_split; lock_is_released = lock_is_released; locks_are_served = locks_are_served }
