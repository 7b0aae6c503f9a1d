use Rattle.tables.proofs.Prelude.{filter, refl, sym, ◌∙◌, staged, is_staged, shown, with_fact}
use Rattle.tables.specs.Statements.{reading}
use Rattle.tables.proofs.Begins.{learns_known, learns_read}
use Rattle.tables.proofs.Store.take_staged.Goals as goal

pub returns-in-Some-clause-learns : goal.returns-in-Some-clause-learns
returns-in-Some-clause-learns g c = learns_known g.S.Store c.args.self.now c.in-Some.known c.take.new.self (sym c.take.ensures.value ∙ c.in-Some.is) c.take.ensures.after

pub returns-clause-learns : goal.returns-clause-learns
unfolding reading
returns-clause-learns g c =
    learns_read g.S.Store c.args.self.now c.read.new.conn c.take.new.self _ c.all_remembered.result _ c.take.ensures.after c.in_ok-rows.ensures
    (λ clean ready.
    let it = c.in_ok-rows.ensures.answers clean ready in
    with_fact _ _ c.all_remembered.result it.0 (c.all_remembered.ensures (filter is_staged (shown g.S.Store c.args.self.now).uploads) (c.as_slice.ensures.value ∙ it.1 staged refl refl)))
