use Rattle.tables.proofs.Prelude.{filter, refl, ◌∙◌, repo_text, locks_in, by_id, shown, with_fact}
use Rattle.tables.specs.Statements.{is_in, reading}
use Rattle.tables.proofs.Stores.{looks_reads}
use Rattle.tables.proofs.Store.locks_in.Goals as goal

pub returns : goal.returns
unfolding reading
returns g c =
    looks_reads g.S.Store _ _ _ c.all_locks.result _ _ c.in_ok-rows.ensures
    (λ clean ready.
    let it = c.in_ok-rows.ensures.answers clean ready in
    with_fact _ _ c.all_locks.result it.0 (c.all_locks.ensures (by_id (filter (is_in (repo_text c.args.repo.now)) (shown g.S.Store c.args.self.now).locks)) (c.as_slice.ensures.value ∙ it.1 (locks_in (repo_text c.args.repo.now)) refl (rw (c.params-to_sql.ensures, c.as_str.ensures.value)))))
