use Rattle.tables.proofs.Prelude.{[], arith, IfOk-weaker, state, query_inside_keeps, query_stays, shown_open, executed}
use Rattle.tables.specs.Statements.{meta_query_text}
use Rattle.tables.proofs.Reading.{meta_read}
use Rattle.tables.proofs.read.select_meta.Goals as goal

pub returns-clause-rows : goal.returns-clause-rows
returns-clause-rows g c v clean inside has =
    let old = state g.S.Store c.args.tx.now.conn.now in
    let new = state g.S.Store c.query_all.new.self.conn.now in
    IfOk-weaker c.query_all.result _ _ (λ rows h.
    let is_open = shown_open old new meta_query_text [] rows.items h in
    (is_open, meta_read v old new rows.items (has is_open) h)) (c.query_all.ensures.ok clean)

pub returns-clause-within : goal.returns-clause-within
returns-clause-within g c =
    let old = state g.S.Store c.args.tx.now.conn.now in
    let new = state g.S.Store c.query_all.new.self.conn.now in
    record {
      kept = λ clean inside. query_inside_keeps old new (λ rows. rows.items) _ _ inside c.query_all.result (c.query_all.ensures.ok clean) (c.query_all.ensures.err clean);
      inside = λ clean inside. IfOk-weaker c.query_all.result _ _ (λ rows h. query_stays old new meta_query_text [] rows.items inside h) (c.query_all.ensures.ok clean);
      survives = c.query_all.ensures.survives;
    }
