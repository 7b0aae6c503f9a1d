use Rattle.tables.proofs.Prelude.{arith, w64, IfOk-weaker, to_z-of_z, rules, state, executed, upload_number}
use Rattle.tables.proofs.Restored.{restored_inside}
use Rattle.tables.proofs.restoring.object_row_into.Goals as goal

pub returns-clause-value : goal.returns-clause-value
returns-clause-value g c clean inside ready =
    let old = state g.S.Store c.args.tx.now.conn.now in
    let new = state g.S.Store c.execute.new.self.conn.now in
    IfOk-weaker c.execute.result _ _ (λ _ h. (h.step.was_open, h.unused))
    (restored_inside old new c.args.object.now (upload_number c.args.id) _ c.execute.result (ready (omega (arith, c.execute.ensures.survives.clean))) inside (c.execute.ensures.runs clean inside)
    (rw (c.params-to_sql.ensures, c.params-to_sql-2.ensures, c.params-to_sql-3.ensures, c.params-to_sql-4.ensures, c.as_str.ensures.value, c.text.ensures.value, to_z-of_z w64 c.args.id.number (search rules), to_z-of_z w64 c.bytes_of.result record { sfits = c.bytes_of.type_inv }, c.bytes_of.ensures)))

pub returns-clause-does : goal.returns-clause-does
returns-clause-does g c = record {
  within = executed g.S.Store c.args.tx.now.conn.now c.execute.new.self.conn.now _ _ c.execute.result c.execute.ensures.survives c.execute.ensures.runs;
  ok = λ clean inside ready.
      let old = state g.S.Store c.args.tx.now.conn.now in
      let new = state g.S.Store c.execute.new.self.conn.now in
      IfOk-weaker c.execute.result _ _ (λ _ h. h.step)
      (restored_inside old new c.args.object.now (upload_number c.args.id) _ c.execute.result (ready (omega (arith, c.execute.ensures.survives.clean))) inside (c.execute.ensures.runs clean inside)
      (rw (c.params-to_sql.ensures, c.params-to_sql-2.ensures, c.params-to_sql-3.ensures, c.params-to_sql-4.ensures, c.as_str.ensures.value, c.text.ensures.value, to_z-of_z w64 c.args.id.number (search rules), to_z-of_z w64 c.bytes_of.result record { sfits = c.bytes_of.type_inv }, c.bytes_of.ensures)));
}
