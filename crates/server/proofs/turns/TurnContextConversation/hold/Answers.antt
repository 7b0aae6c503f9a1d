use Rattle.server.proofs.Connections.{from_conversed}
use Rattle.server.proofs.turns.TurnContextConversation.hold.Goals as goal

pub returns : goal.returns
returns g c = from_conversed g.S.State _ _ _ _ c.args.store.now c.begin.new.store c.begin.result.served c.begin.result.later c.begin.ensures.input_ended c.begin.ensures.session
