use Rattle.tables.proofs.Prelude.{arith, w64, Ok, to_z-of_z, state}
use Rattle.tables.proofs.Inserting.{inserted_inside}
use Rattle.tables.proofs.beginning.upload_into.Goals as goal

pub returns-clause-value : goal.returns-clause-value
returns-clause-value g c clean inside ready =
    let old = state g.S.Store c.args.tx.now.conn.now in
    let new = state g.S.Store c.execute.new.self.conn.now in
    let it = inserted_inside old new c.args.upload.now _ (Ok c.in_ok-execute.field-0) (ready (omega (arith, c.execute.ensures.survives.clean))) inside (c.in_ok-execute.ensures.runs clean inside)
    (rw (c.params-to_sql.ensures, c.params-to_sql-2.ensures, c.params-to_sql-3.ensures, c.as_str.ensures.value, c.text.ensures.value, to_z-of_z w64 c.bytes_of.result record { sfits = c.bytes_of.type_inv }, c.bytes_of.ensures)) in
    rw (to_z-of_z w64 c.last_insert_rowid.result record { sfits = c.last_insert_rowid.type_inv }, c.last_insert_rowid.ensures) (it.step.was_open, it.above)

pub returns-clause-ok : goal.returns-clause-ok
returns-clause-ok g c clean inside ready =
    let old = state g.S.Store c.args.tx.now.conn.now in
    let new = state g.S.Store c.execute.new.self.conn.now in
    let it = inserted_inside old new c.args.upload.now _ (Ok c.in_ok-execute.field-0) (ready (omega (arith, c.execute.ensures.survives.clean))) inside (c.in_ok-execute.ensures.runs clean inside)
    (rw (c.params-to_sql.ensures, c.params-to_sql-2.ensures, c.params-to_sql-3.ensures, c.as_str.ensures.value, c.text.ensures.value, to_z-of_z w64 c.bytes_of.result record { sfits = c.bytes_of.type_inv }, c.bytes_of.ensures)) in
    rw (to_z-of_z w64 c.last_insert_rowid.result record { sfits = c.last_insert_rowid.type_inv }, c.last_insert_rowid.ensures) it.step
