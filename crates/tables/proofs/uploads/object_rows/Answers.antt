use Rattle.tables.proofs.Prelude.{map, option_map, refl, sym, ap, ◌∙◌, IfOk-weaker, state, repo_text, tables_in, objects_in, objects, show_upload, objects_of}
use Rattle.tables.specs.Statements.{reading}
use Rattle.tables.proofs.uploads.object_rows.Goals as goal

pub returns-in-Some : goal.returns-in-Some
unfolding reading
returns-in-Some g c =
    let it = c.read.ensures in
    let t = tables_in (state g.S.Store c.args.conn.now) in
    record {
      answers = λ clean ready. IfOk-weaker c.read.result _ _
          (λ _ h. (h.0, h.1 (objects_in (repo_text c.in-Some.repo.now)) refl (rw (c.params-to_sql.ensures, c.as_str.ensures.value)) ∙ ap (λ o. map show_upload (objects_of (option_map (λ r. repo_text r.now) o) t)) (sym c.in-Some.is)))
          (it.answers clean ready);
      same = it.same;
      survives = it.survives;
    }

pub returns-in-None : goal.returns-in-None
unfolding reading
returns-in-None g c =
    let it = c.read-in-None.ensures in
    let t = tables_in (state g.S.Store c.args.conn.now) in
    record {
      answers = λ clean ready. IfOk-weaker c.read-in-None.result _ _ (λ _ h. (h.0, h.1 objects refl refl ∙ ap (λ o. map show_upload (objects_of (option_map (λ r. repo_text r.now) o) t)) (sym c.in-None.is))) (it.answers clean ready);
      same = it.same;
      survives = it.survives;
    }
