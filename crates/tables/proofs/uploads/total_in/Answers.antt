use Rattle.tables.proofs.Prelude.{filter, refl, ◌∙◌, state, repo_text, used_by, is_named, read_total, repo_total, tables_in, with_fact, first_found}
use Rattle.tables.specs.Statements.{reading}
use Rattle.tables.proofs.Calls.{does_on}
use Rattle.tables.proofs.uploads.total_in.Goals as goal

pub returns-clause-value : goal.returns-clause-value
unfolding reading
returns-clause-value g c clean inside ready =
    let repo = repo_text c.args.repo.now in
    let repos = (tables_in (state g.S.Store c.args.tx.now.conn.now)).repos in
    let it = c.in_ok-rows.ensures.rows clean inside ready in
    with_fact _ _ c.first_total.result it.0 (first_found read_total repo_total (is_named repo) repos c.first_total.result
    (c.first_total.ensures (filter (is_named repo) repos) (c.as_slice.ensures.value ∙ it.1 (used_by repo) refl (rw (c.params-to_sql.ensures, c.as_str.ensures.value)))))

pub returns-clause-does : goal.returns-clause-does
unfolding reading
returns-clause-does g c =
    does_on g.S.Store c.args.tx.now.conn.now c.select.new.tx.conn.now c.first_total.result (λ t. t) record { within = c.in_ok-rows.ensures.within; ok = c.in_ok-rows.ensures.same (used_by (repo_text c.args.repo.now)) refl }
