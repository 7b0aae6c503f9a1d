use Rattle.tables.proofs.Prelude.{asked_lock}
use Rattle.tables.specs.Steps.{IsOutcomeOf}
use Rattle.tables.proofs.Recalled.{create_keeps}
use Rattle.tables.proofs.Stores.{transacts_changes}
use Rattle.tables.proofs.Store.create_lock.Goals as goal

pub returns : goal.returns
unfolding IsOutcomeOf
returns g c = transacts_changes g.S.Store _ _ _ c.create.result _ (create_keeps (asked_lock c.args.lock.now)) c.create.ensures
