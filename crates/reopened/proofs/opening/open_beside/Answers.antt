-- The database that was found in its files is the one that is accepted.
use Rattle.std.proofs.Common.{sym, subst}
use Rattle.sqlite_trees.specs.Tree.{Trees}
use Rattle.reopened.specs.Opening.{AreAmongWith}
use Rattle.reopened.proofs.Started.{when_honest, when_held}
use Rattle.reopened.proofs.opening.open_beside.Goals as goal

pub returns-clause-blank : goal.returns-clause-blank
returns-clause-blank g c none =
    when_honest _ _ c.start_beside.result c.start_beside.ensures.honest
    (λ k. c.start_beside.ensures.fresh (c.in_ok-rows.ensures.empty k.0 none))

pub returns-clause-again : goal.returns-clause-again
returns-clause-again g c bound held =
    when_held _ _ c.start_beside.result c.start_beside.ensures.honest held
    (λ db k. c.start_beside.ensures.again bound
    (subst (λ (t : Trees). AreAmongWith t (g.D.Disk.seen c.args.disk) bound) (sym ((c.in_ok-rows.ensures.found k.0).holds db.0 db.1)) db.2))
