use Rattle.operator.proofs.Prelude.{from_weaker, refl}
use Rattle.operator.proofs.inspecting.Inspection.give_up.Goals as goal

pub returns-in_err-line-clause-world : goal.returns-in_err-line-clause-world
returns-in_err-line-clause-world g c =
    from_weaker g.S.State c.args.store.now c.give_up.new.store _ _ (λ world reads. record { reads = reads; none = refl }) c.give_up.ensures.world
