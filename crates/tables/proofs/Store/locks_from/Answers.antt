use Rattle.tables.proofs.Prelude.{filter, take, pos, refl, ◌∙◌, repo_text, locks_from, is_from, by_id, shown, with_fact}
use Rattle.tables.specs.Statements.{reading}
use Rattle.tables.proofs.Stores.{looks_reads}
use Rattle.tables.proofs.Store.locks_from.Goals as goal

pub returns : goal.returns
unfolding reading
returns g c =
    looks_reads g.S.Store _ _ _ c.all_locks.result _ _ c.in_ok-rows.ensures
    (λ clean ready.
    let it = c.in_ok-rows.ensures.answers clean ready in
    with_fact _ _ c.all_locks.result it.0 (c.all_locks.ensures (take 64 (by_id (filter (is_from (repo_text c.args.repo.now) (pos c.args.id)) (shown g.S.Store c.args.self.now).locks))) (c.as_slice.ensures.value ∙ it.1 (locks_from (repo_text c.args.repo.now) c.args.id) refl (rw (c.params-to_sql.ensures, c.params-to_sql-2.ensures, c.as_str.ensures.value, c.get.ensures.value)))))
