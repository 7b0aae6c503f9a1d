use Rattle.refinement.proofs.Leading.{leads_none}
use Rattle.operator.proofs.Working.{still_steps, works_still}
use Rattle.server.proofs.Swept.{from_swept}
use Rattle.server.proofs.server.Server.sweep_if.Goals as goal

pub returns-else-unswept : goal.returns-else-unswept
returns-else-unswept g c = record {
  honest = λ k. k;
  each = λ honest world h.
      let lead = leads_none g.S.State c.args.store.now world h in (works_still g.S.State _ _ world lead, still_steps g.S.State _ _ world lead);
}

pub returns-then-unswept : goal.returns-then-unswept
returns-then-unswept g c = from_swept g.S.State c.args.store.now c.sweep.new.store c.sweep.result c.sweep.ensures
