use Rattle.tables.proofs.Prelude.{filter, refl, ◌∙◌, repo_text, ref_text, path_text, lock_at, is_at, read_lock, lock_fields, shown, with_fact, first_found}
use Rattle.tables.specs.Statements.{reading}
use Rattle.tables.proofs.Stores.{looks_reads}
use Rattle.tables.proofs.Store.lock_at.Goals as goal

pub returns : goal.returns
unfolding reading
returns g c =
    let passes = is_at (repo_text c.args.repo.now) (ref_text c.args.ref_name.now) (path_text c.args.path.now) in
    let locks = (shown g.S.Store c.args.self.now).locks in
    looks_reads g.S.Store _ _ _ c.first_lock.result _ _ c.in_ok-rows.ensures
    (λ clean ready.
    let it = c.in_ok-rows.ensures.answers clean ready in
    with_fact _ _ c.first_lock.result it.0 (first_found read_lock lock_fields passes locks c.first_lock.result (c.first_lock.ensures (filter passes locks) (c.as_slice.ensures.value ∙ it.1 (lock_at (repo_text c.args.repo.now) (ref_text c.args.ref_name.now) (path_text c.args.path.now)) refl (rw (c.params-to_sql.ensures, c.params-to_sql-2.ensures, c.params-to_sql-3.ensures, c.as_str.ensures.value, c.as_str-2.ensures.value, c.as_str-3.ensures.value))))))
