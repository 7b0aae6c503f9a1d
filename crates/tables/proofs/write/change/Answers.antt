use Rattle.tables.proofs.Prelude.{arith, IfOk-weaker, bound, state, executed}
use Rattle.tables.proofs.Changes.{written_inside}
use Rattle.tables.proofs.write.change.Goals as goal

pub returns-clause-ok : goal.returns-clause-ok
returns-clause-ok g c w text given clean inside ready =
    IfOk-weaker c.execute.result _ _ (λ _ h. h.step)
    (written_inside (state g.S.Store c.args.tx.now.conn.now) (state g.S.Store c.execute.new.self.conn.now) w c.args.sql.now (bound c.args.params.now) c.execute.result (ready (omega (arith, c.execute.ensures.survives.clean))) inside text given
    (c.execute.ensures.runs clean inside))

pub returns-clause-count : goal.returns-clause-count
returns-clause-count g c w text given clean inside ready =
    IfOk-weaker c.execute.result _ _ (λ _ h. (h.step.was_open, h.gone))
    (written_inside (state g.S.Store c.args.tx.now.conn.now) (state g.S.Store c.execute.new.self.conn.now) w c.args.sql.now (bound c.args.params.now) c.execute.result (ready (omega (arith, c.execute.ensures.survives.clean))) inside text given
    (c.execute.ensures.runs clean inside))

pub returns-clause-within : goal.returns-clause-within
returns-clause-within g c = executed g.S.Store c.args.tx.now.conn.now c.execute.new.self.conn.now c.args.sql.now (bound c.args.params.now) c.execute.result c.execute.ensures.survives c.execute.ensures.runs
