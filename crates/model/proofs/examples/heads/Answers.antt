use Rattle.model.proofs.Streamed.{crowded_is_refused}
use Rattle.model.proofs.Computed.{heads_are_refused, method_is_refused, routes_lead}
use Rattle.model.proofs.examples.heads.Goals as goal

pub returns : goal.returns
returns c = record { crowded_is_refused = crowded_is_refused; heads_are_refused = heads_are_refused; method_is_refused = method_is_refused; routes_lead = routes_lead }
