use Rattle.tables.proofs.Prelude.{refl, ◌∙◌, shown, with_fact}
use Rattle.tables.specs.Statements.{reading, all_locks}
use Rattle.tables.proofs.Stores.{looks_reads}
use Rattle.tables.proofs.Store.all_locks.Goals as goal

pub returns : goal.returns
unfolding reading
returns g c =
    looks_reads g.S.Store _ _ _ c.all_repo_locks.result _ _ c.in_ok-rows.ensures
    (λ clean ready.
    let it = c.in_ok-rows.ensures.answers clean ready in
    with_fact _ _ c.all_repo_locks.result it.0 (c.all_repo_locks.ensures (shown g.S.Store c.args.self.now).locks (c.as_slice.ensures.value ∙ it.1 all_locks refl refl)))
