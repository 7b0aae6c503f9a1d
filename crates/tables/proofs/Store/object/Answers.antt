use Rattle.tables.proofs.Prelude.{filter, refl, ◌∙◌, repo_text, object, is_object, read_object, upload_sized, shown, with_fact, first_found}
use Rattle.tables.specs.Statements.{reading}
use Rattle.tables.proofs.Stores.{looks_reads}
use Rattle.tables.proofs.Store.object.Goals as goal

pub returns : goal.returns
unfolding reading
returns g c =
    let repo = repo_text c.args.repo.now in
    let passes = is_object repo c.args.oid.now in
    let uploads = (shown g.S.Store c.args.self.now).uploads in
    looks_reads g.S.Store _ _ _ c.first_object.result _ _ c.in_ok-rows.ensures
    (λ clean ready.
    let it = c.in_ok-rows.ensures.answers clean ready in
    with_fact _ _ c.first_object.result it.0 (first_found read_object upload_sized passes uploads c.first_object.result
    (c.first_object.ensures (filter passes uploads) (c.as_slice.ensures.value ∙ it.1 (object repo c.args.oid.now) refl (rw (c.params-to_sql.ensures, c.params-to_sql-2.ensures, c.as_str.ensures.value, c.text.ensures.value))))))
