use Rattle.tables.proofs.Prelude.{refl, rules, repo_text, shown, none_shown}
use Rattle.tables.specs.Statements.{retired_as, is_retired_as, show_retired, reading}
use Rattle.tables.proofs.Stores.{looks_reads}
use Rattle.tables.proofs.Store.is_retired.Goals as goal

pub returns : goal.returns
unfolding reading
returns g c =
    let repo = repo_text c.args.repo.now in
    looks_reads g.S.Store _ _ _ _ _ _ c.in_ok-rows.ensures
    (λ clean ready.
    let it = c.in_ok-rows.ensures.answers clean ready in (
      it.0,
      none_shown show_retired (is_retired_as repo c.args.oid.now) (shown g.S.Store c.args.self.now).retired c.in_ok-rows.rows.items c.is_empty.result
          (it.1 (retired_as repo c.args.oid.now) refl (rw (c.params-to_sql.ensures, c.params-to_sql-2.ensures, c.as_str.ensures.value, c.text.ensures.value))) (search rules),
    ))
