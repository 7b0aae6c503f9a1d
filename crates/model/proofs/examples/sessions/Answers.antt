use Rattle.model.proofs.Streamed.{two_are_served, body_is_no_message}
use Rattle.model.proofs.examples.sessions.Goals as goal

pub returns : goal.returns
returns c = record { two_are_served = two_are_served; body_is_no_message = body_is_no_message }
