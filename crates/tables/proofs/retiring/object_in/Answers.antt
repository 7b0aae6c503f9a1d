use Rattle.tables.proofs.Prelude.{filter, refl, ◌∙◌, state, repo_text, object, is_object, read_object, upload_sized, tables_in, with_fact, first_found}
use Rattle.tables.specs.Statements.{reading}
use Rattle.tables.proofs.Calls.{does_on}
use Rattle.tables.proofs.retiring.object_in.Goals as goal

pub returns-clause-value : goal.returns-clause-value
unfolding reading
returns-clause-value g c clean inside ready =
    let repo = repo_text c.args.repo.now in
    let passes = is_object repo c.args.oid.now in
    let uploads = (tables_in (state g.S.Store c.args.tx.now.conn.now)).uploads in
    let it = c.in_ok-rows.ensures.rows clean inside ready in
    with_fact _ _ c.first_object.result it.0 (first_found read_object upload_sized passes uploads c.first_object.result
    (c.first_object.ensures (filter passes uploads) (c.as_slice.ensures.value ∙ it.1 (object repo c.args.oid.now) refl (rw (c.params-to_sql.ensures, c.params-to_sql-2.ensures, c.as_str.ensures.value, c.text.ensures.value)))))

pub returns-clause-does : goal.returns-clause-does
unfolding reading
returns-clause-does g c =
    does_on g.S.Store c.args.tx.now.conn.now c.select.new.tx.conn.now c.first_object.result (λ t. t) record { within = c.in_ok-rows.ensures.within; ok = c.in_ok-rows.ensures.same (object (repo_text c.args.repo.now) c.args.oid.now) refl }
