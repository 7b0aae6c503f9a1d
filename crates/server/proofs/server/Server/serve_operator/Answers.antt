use Rattle.server.proofs.server.Server.serve_operator.Goals as goal

pub returns-in-Ok-clause-world : goal.returns-in-Ok-clause-world
returns-in-Ok-clause-world g c = rw c.in-Ok.is at c.serve-answered.ensures

pub returns-in-Err-clause-world : goal.returns-in-Err-clause-world
returns-in-Err-clause-world g c = rw c.in-Err.is at c.serve-answered.ensures
