use Rattle.std.proofs.Common.{refl}
use Rattle.server.proofs.waiting.send_on.Goals as goal

pub returns-in-Err-clause-sent : goal.returns-in-Err-clause-sent
returns-in-Err-clause-sent g c = rw c.in-Err.is at c.send.ensures.err

pub returns-clause-sent : goal.returns-clause-sent
returns-clause-sent g c =
    let sent = rw c.in_default.is at c.send.ensures.ok in
    (sent.0, sent.1, (refl, sent.2))
