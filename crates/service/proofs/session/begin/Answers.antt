use Rattle.service.proofs.Bounded.{bounded}
use Rattle.service.proofs.Deferred.{served_as}
use Rattle.service.proofs.session.begin.Goals as goal

pub returns-clause-bounded : goal.returns-clause-bounded
returns-clause-bounded g c =
    bounded g.S.State _ c.args.store.now c.serve_by-served.new.store c.serve_by-served.result
    (served_as g.S.State _ _ _ c.serve_by-served.new.later c.serve_by-served.result c.serve_by-served.ensures.session)
