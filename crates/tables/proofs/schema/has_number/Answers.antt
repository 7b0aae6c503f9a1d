use Rattle.tables.proofs.Prelude.{◌∙◌, state, tables_in, with_fact}
use Rattle.tables.proofs.schema.has_number.Goals as goal

pub returns : goal.returns
returns g c = record {
  answers = λ v clean has.
      let it = c.in_ok-rows.ensures.answers v clean has in
      with_fact _ _ c.is_numbered.result it.0 (c.is_numbered.ensures (tables_in (state g.S.Store c.args.conn.now)).meta (c.as_slice.ensures.value ∙ it.1));
  same = c.in_ok-rows.ensures.same;
  survives = c.in_ok-rows.ensures.survives;
}
