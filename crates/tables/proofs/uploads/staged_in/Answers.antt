use Rattle.tables.proofs.Prelude.{filter, refl, rules, w64, ◌∙◌, to_z-of_z, state, is_staged_with, read_upload, upload_fields, tables_in, with_fact, first_found}
use Rattle.tables.specs.Statements.{staged_with, reading}
use Rattle.tables.proofs.Calls.{does_on}
use Rattle.tables.proofs.uploads.staged_in.Goals as goal

pub returns-clause-value : goal.returns-clause-value
unfolding reading
returns-clause-value g c clean inside ready =
    let passes = is_staged_with c.args.id.number in
    let uploads = (tables_in (state g.S.Store c.args.tx.now.conn.now)).uploads in
    let it = c.in_ok-rows.ensures.rows clean inside ready in
    with_fact _ _ c.first_upload.result it.0 (first_found read_upload upload_fields passes uploads c.first_upload.result
    (c.first_upload.ensures (filter passes uploads) (c.as_slice.ensures.value ∙ it.1 (staged_with c.args.id.number) refl (rw (c.params-to_sql.ensures, to_z-of_z w64 c.args.id.number (search rules))))))

pub returns-clause-does : goal.returns-clause-does
unfolding reading
returns-clause-does g c =
    does_on g.S.Store c.args.tx.now.conn.now c.select.new.tx.conn.now c.first_upload.result (λ t. t) record { within = c.in_ok-rows.ensures.within; ok = c.in_ok-rows.ensures.same (staged_with c.args.id.number) refl }
