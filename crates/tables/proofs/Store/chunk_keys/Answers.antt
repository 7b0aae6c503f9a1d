use Rattle.tables.proofs.Prelude.{refl, ◌∙◌, shown, with_fact}
use Rattle.tables.specs.Statements.{reading, chunk_keys}
use Rattle.tables.proofs.Stores.{looks_reads}
use Rattle.tables.proofs.Store.chunk_keys.Goals as goal

pub returns : goal.returns
unfolding reading
returns g c =
    looks_reads g.S.Store _ _ _ c.all_keys.result _ _ c.in_ok-rows.ensures
    (λ clean ready.
    let it = c.in_ok-rows.ensures.answers clean ready in
    with_fact _ _ c.all_keys.result it.0 (c.all_keys.ensures (shown g.S.Store c.args.self.now).chunks (c.as_slice.ensures.value ∙ it.1 chunk_keys refl refl)))
