use Rattle.tables.proofs.Prelude.{refl, rules, state, repo_text, object, is_object, show_upload, tables_in, none_shown}
use Rattle.tables.specs.Statements.{reading}
use Rattle.tables.proofs.Calls.{does_on}
use Rattle.tables.proofs.uploads.is_stored.Goals as goal

pub returns-clause-value : goal.returns-clause-value
unfolding reading
returns-clause-value g c clean inside ready =
    let repo = repo_text c.args.repo.now in
    let it = c.in_ok-rows.ensures.rows clean inside ready in (
      it.0,
      none_shown show_upload (is_object repo c.args.oid.now) (tables_in (state g.S.Store c.args.tx.now.conn.now)).uploads c.in_ok-rows.rows.items c.is_empty.result
          (it.1 (object repo c.args.oid.now) refl (rw (c.params-to_sql.ensures, c.params-to_sql-2.ensures, c.as_str.ensures.value, c.text.ensures.value))) (search rules),
    )

pub returns-clause-does : goal.returns-clause-does
unfolding reading
returns-clause-does g c =
    does_on g.S.Store c.args.tx.now.conn.now c.select.new.tx.conn.now _ (λ t. t)
    record { within = c.in_ok-rows.ensures.within; ok = c.in_ok-rows.ensures.same (object (repo_text c.args.repo.now) c.args.oid.now) refl }
