use Rattle.tables.proofs.Prelude.{arith, IfOk-weaker, bound, state, query_inside_keeps, query_stays, shown_open}
use Rattle.tables.proofs.Reading.{answered, read_steps}
use Rattle.tables.proofs.read.select.Goals as goal

pub returns-clause-rows : goal.returns-clause-rows
returns-clause-rows g c clean inside ready =
    let old = state g.S.Store c.args.tx.now.conn.now in
    let new = state g.S.Store c.query_all.new.self.conn.now in
    let params = bound c.args.params.now in
    IfOk-weaker c.query_all.result _ _ (λ rows h. (shown_open old new c.args.sql.now params rows.items h, answered old new c.args.sql.now params rows.items (ready (omega (arith, c.query_all.ensures.survives.clean))) h)) (c.query_all.ensures.ok clean)

pub returns-clause-same : goal.returns-clause-same
returns-clause-same g c r text clean inside ready =
    let old = state g.S.Store c.args.tx.now.conn.now in
    let new = state g.S.Store c.query_all.new.self.conn.now in
    IfOk-weaker c.query_all.result _ _ (λ rows h. read_steps old new c.args.sql.now (bound c.args.params.now) rows.items r (ready (omega (arith, c.query_all.ensures.survives.clean))) inside text h) (c.query_all.ensures.ok clean)

pub returns-clause-within : goal.returns-clause-within
returns-clause-within g c =
    let old = state g.S.Store c.args.tx.now.conn.now in
    let new = state g.S.Store c.query_all.new.self.conn.now in
    record {
      kept = λ clean inside. query_inside_keeps old new (λ rows. rows.items) _ _ inside c.query_all.result (c.query_all.ensures.ok clean) (c.query_all.ensures.err clean);
      inside = λ clean inside. IfOk-weaker c.query_all.result _ _ (λ rows h. query_stays old new c.args.sql.now (bound c.args.params.now) rows.items inside h) (c.query_all.ensures.ok clean);
      survives = c.query_all.ensures.survives;
    }
