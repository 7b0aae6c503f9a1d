use Rattle.tables.proofs.Prelude.{filter, refl, rules, w64, ◌∙◌, to_z-of_z, state, is_staged_with, read_upload, upload_fields, tables_in, with_fact, first_found}
use Rattle.tables.specs.Statements.{staged_with, reading}
use Rattle.tables.proofs.staged.staged_row.Goals as goal

pub returns : goal.returns
unfolding reading
returns g c =
    let rows = c.in_ok-rows.ensures in
    let passes = is_staged_with c.args.id.number in
    let uploads = (tables_in (state g.S.Store c.args.conn.now)).uploads in
    record {
      answers = λ clean ready.
          let it = rows.answers clean ready in
          with_fact _ _ c.first_upload.result it.0 (first_found read_upload upload_fields passes uploads c.first_upload.result
          (c.first_upload.ensures (filter passes uploads) (c.as_slice.ensures.value ∙ it.1 (staged_with c.args.id.number) refl (rw (c.params-to_sql.ensures, to_z-of_z w64 c.args.id.number (search rules))))));
      same = rows.same;
      survives = rows.survives;
    }
