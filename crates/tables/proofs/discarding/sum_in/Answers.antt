use Rattle.tables.proofs.Prelude.{filter, refl, ◌∙◌, state, repo_text, objects_in, is_object_in, tables_in, with_fact}
use Rattle.tables.specs.Statements.{reading, by_name}
use Rattle.tables.proofs.Calls.{does_on}
use Rattle.tables.proofs.discarding.sum_in.Goals as goal

pub returns-clause-value : goal.returns-clause-value
unfolding reading
returns-clause-value g c clean inside ready =
    let repo = repo_text c.args.repo.now in
    let t = tables_in (state g.S.Store c.args.tx.now.conn.now) in
    let it = c.in_ok-rows.ensures.rows clean inside ready in
    with_fact _ _ c.sum_of.result it.0
    (c.sum_of.ensures (by_name (filter (is_object_in repo) t.uploads)) (c.as_slice.ensures.value ∙ it.1 (objects_in repo) refl (rw (c.params-to_sql.ensures, c.as_str.ensures.value))))

pub returns-clause-does : goal.returns-clause-does
unfolding reading
returns-clause-does g c =
    does_on g.S.Store c.args.tx.now.conn.now c.select.new.tx.conn.now c.sum_of.result (λ t. t) record { within = c.in_ok-rows.ensures.within; ok = c.in_ok-rows.ensures.same (objects_in (repo_text c.args.repo.now)) refl }
