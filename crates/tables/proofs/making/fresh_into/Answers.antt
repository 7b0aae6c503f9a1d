use Rattle.tables.proofs.Prelude.{arith, state, HasCleanDisk}
use Rattle.tables.specs.Layout.{version_of}
use Rattle.tables.proofs.Upgrading.{fresh_ok}
use Rattle.tables.proofs.making.fresh_into.Goals as goal

pub returns-clause-ok : goal.returns-clause-ok
returns-clause-ok g c clean inside blank =
    let second : HasCleanDisk (state g.S.Store c.first_into.new.tx.conn.now) = omega (arith, clean, c.later_into.ensures.within.survives.clean) in
    fresh_ok (version_of c.args.layout) (state g.S.Store c.args.tx.now.conn.now) (state g.S.Store c.first_into.new.tx.conn.now) (state g.S.Store c.later_into.new.tx.conn.now) c.later_into.result (c.in_ok-first_into.ensures.ok second inside) blank
    (c.later_into.ensures.ok clean (c.in_ok-first_into.ensures.within.inside second inside))
