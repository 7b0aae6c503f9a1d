use Rattle.service.proofs.Bounded.{bounded}
use Rattle.service.proofs.Deferred.{served_as}
use Rattle.service.proofs.session.serve.Goals as goal

pub returns-clause-session : goal.returns-clause-session
returns-clause-session g c = served_as g.S.State _ _ _ c.serve_by.new.later c.serve_by.result c.serve_by.ensures.session

pub returns-clause-bounded : goal.returns-clause-bounded
returns-clause-bounded g c = bounded g.S.State _ c.args.store.now c.serve_by.new.store c.serve_by.result (returns-clause-session g c)
