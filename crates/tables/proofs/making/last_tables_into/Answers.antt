use Rattle.tables.proofs.Prelude.{arith, refl, state, HasCleanDisk, uploads, chunks, locks}
use Rattle.tables.proofs.Stages.{last_three}
use Rattle.tables.proofs.making.last_tables_into.Goals as goal

pub returns-clause-ok : goal.returns-clause-ok
returns-clause-ok g c clean inside =
    let third : HasCleanDisk (state g.S.Store c.table_into-2.new.tx.conn.now) = omega (arith, clean, c.table_into-3.ensures.within.survives.clean) in
    let second : HasCleanDisk (state g.S.Store c.table_into.new.tx.conn.now) = omega (arith, clean, c.table_into-3.ensures.within.survives.clean, c.table_into-2.ensures.within.survives.clean) in
    let in_second = c.in_ok-table_into.ensures.within.inside second inside in
    let in_third = c.in_ok-table_into-2.ensures.within.inside third in_second in
    last_three (state g.S.Store c.args.tx.now.conn.now) (state g.S.Store c.table_into.new.tx.conn.now) (state g.S.Store c.table_into-2.new.tx.conn.now) (state g.S.Store c.table_into-3.new.tx.conn.now)
    (c.in_ok-table_into.ensures.ok uploads refl second inside) (c.in_ok-table_into-2.ensures.ok chunks refl third in_second) (c.in_ok-table_into-3.ensures.ok locks refl clean in_third)
