use Rattle.store.proofs.Alone.{changes}
use Rattle.store.proofs.Steps.{lock-agrees}
use Rattle.store.proofs.restored.TablesStoreRestored.restore_lock.Goals as goal

pub returns : goal.returns
returns g c = changes g.S.Store c.args.self.now c.restore_lock.new.self _ _ (lock-agrees _) c.restore_lock.result _ _ (λ t x is. is) c.restore_lock.ensures
