use Rattle.store.proofs.Alone.{changes}
use Rattle.store.proofs.Steps.{retired-agrees}
use Rattle.store.proofs.restored.TablesStoreRestored.restore_retired.Goals as goal

pub returns : goal.returns
returns g c = changes g.S.Store c.args.self.now c.restore_retired.new.self _ _ (retired-agrees _ _) c.restore_retired.result _ _ (λ t x is. is) c.restore_retired.ensures
