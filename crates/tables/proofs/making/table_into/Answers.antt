use Rattle.tables.proofs.Prelude.{state}
use Rattle.tables.proofs.Stages.{before_inside}
use Rattle.tables.proofs.making.table_into.Goals as goal

pub returns-clause-ok : goal.returns-clause-ok
returns-clause-ok g c part is clean inside =
    before_inside (state g.S.Store c.args.tx.now.conn.now) (state g.S.Store c.define.new.tx.conn.now) part c.args.sql.now c.define.result is inside (c.define.ensures.runs clean inside)
