use Rattle.tables.proofs.Prelude.{filter, pos, refl, ◌∙◌, shown, with_fact}
use Rattle.tables.specs.Statements.{reading, numbered, has_number}
use Rattle.tables.proofs.Stores.{looks_reads}
use Rattle.tables.proofs.Store.chunks_numbered.Goals as goal

pub returns : goal.returns
unfolding reading
returns g c =
    looks_reads g.S.Store _ _ _ c.all_numbered.result _ _ c.in_ok-rows.ensures
    (λ clean ready.
    let it = c.in_ok-rows.ensures.answers clean ready in
    with_fact _ _ c.all_numbered.result it.0 (c.all_numbered.ensures (filter (has_number (pos c.args.n)) (shown g.S.Store c.args.self.now).chunks) (c.as_slice.ensures.value ∙ it.1 (numbered c.args.n) refl (rw (c.params-to_sql.ensures)))))
