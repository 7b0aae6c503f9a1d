use Rattle.tables.proofs.Prelude.{arith, state, HasCleanDisk, on_ok_weaker}
use Rattle.tables.proofs.Stages.{six_made}
use Rattle.tables.proofs.making.first_into.Goals as goal

pub returns-clause-ok : goal.returns-clause-ok
returns-clause-ok g c clean inside =
    let second : HasCleanDisk (state g.S.Store c.first_tables_into.new.tx.conn.now) = omega (arith, clean, c.last_tables_into.ensures.within.survives.clean) in
    on_ok_weaker c.last_tables_into.result
    (six_made (state g.S.Store c.args.tx.now.conn.now) (state g.S.Store c.first_tables_into.new.tx.conn.now) (state g.S.Store c.last_tables_into.new.tx.conn.now) (c.in_ok-first_tables_into.ensures.ok second inside))
    (c.last_tables_into.ensures.ok clean (c.in_ok-first_tables_into.ensures.within.inside second inside))
