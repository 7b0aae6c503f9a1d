use Rattle.tables.proofs.Prelude.{refl, ◌∙◌, shown, with_fact}
use Rattle.tables.specs.Statements.{reading, all_tokens}
use Rattle.tables.proofs.Stores.{looks_reads}
use Rattle.tables.proofs.Store.all_tokens.Goals as goal

pub returns : goal.returns
unfolding reading
returns g c =
    looks_reads g.S.Store _ _ _ c.all_tokens.result _ _ c.in_ok-rows.ensures
    (λ clean ready.
    let it = c.in_ok-rows.ensures.answers clean ready in
    with_fact _ _ c.all_tokens.result it.0 (c.all_tokens.ensures (shown g.S.Store c.args.self.now).tokens (c.as_slice.ensures.value ∙ it.1 all_tokens refl refl)))
