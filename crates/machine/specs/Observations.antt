-- What a server observes of the machine that it runs on.
use Rattle.std.specs.Prelude.{ℕ, Bool, List, Option}
use Rattle.outbox.specs.declared.operator_stream.OperatorStream.{OperatorStream}
use Rattle.policy.specs.declared.policies.Policy.{Policy}
use Rattle.service.specs.declared.ends.Served.{Served}
use Rattle.clients.specs.declared.client.Client.{Client}
use Rattle.sockets.specs.declared.queue.Caller.{Caller}

-- what is known of a talk with a client: the bytes that he was still to send, before it and after it; and those that he had been
-- sent, before it and after it
pub record Talk : Type 0 where
  pub left : Option (List ℕ)
  pub rest : Option (List ℕ)
  pub was : Option (List ℕ)
  pub is : Option (List ℕ)

-- somebody called; there was this talk with a client, which ended so; these bytes of an object were sent to a client; a client
-- was put aside, whose connection has this number from then on; the connection of a client was closed; it is this moment; these bytes are random; these were received from an operator; these of a
-- reply were sent to one, and its last ones; the policy file has this policy; an operator was waited for, at most this many
-- seconds, and closed his side or not
pub data Observation : Type 0 where
  called : Caller → Observation
  talked : Client → Talk → Served → Observation
  told : Client → List ℕ → Observation
  aside : Client → (number : ℕ) → Observation
  closed : Client → Observation
  timed : ℕ → Observation
  drawn : List ℕ → Observation
  received : (operator : OperatorStream) → List ℕ → Observation
  sent : (operator : OperatorStream) → List ℕ → Observation
  finished : (operator : OperatorStream) → List ℕ → Observation
  loaded : Policy → Observation
  waited : (operator : OperatorStream) → (seconds : ℕ) → (closed : Bool) → Observation
