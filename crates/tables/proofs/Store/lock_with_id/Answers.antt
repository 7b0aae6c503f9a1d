use Rattle.tables.proofs.Prelude.{filter, refl, ◌∙◌, pos, repo_text, lock_with_id, read_lock, lock_fields, shown, with_fact, first_found}
use Rattle.tables.specs.Statements.{has_id, reading}
use Rattle.tables.proofs.Stores.{looks_reads}
use Rattle.tables.proofs.Store.lock_with_id.Goals as goal

pub returns : goal.returns
unfolding reading
returns g c =
    let passes = has_id (repo_text c.args.repo.now) (pos c.args.id) in
    let locks = (shown g.S.Store c.args.self.now).locks in
    looks_reads g.S.Store _ _ _ c.first_lock.result _ _ c.in_ok-rows.ensures
    (λ clean ready.
    let it = c.in_ok-rows.ensures.answers clean ready in
    with_fact _ _ c.first_lock.result it.0 (first_found read_lock lock_fields passes locks c.first_lock.result (c.first_lock.ensures (filter passes locks) (c.as_slice.ensures.value ∙ it.1 (lock_with_id (repo_text c.args.repo.now) c.args.id) refl (rw (c.params-to_sql.ensures, c.params-to_sql-2.ensures, c.as_str.ensures.value, c.get.ensures.value))))))
