use Rattle.store.proofs.Alone.{changes}
use Rattle.store.proofs.Steps.{create-agrees}
use Rattle.store.proofs.database.TablesStoreStore.create_lock.Goals as goal

pub returns : goal.returns
returns g c = changes g.S.Store c.args.self.now c.create_lock.new.self _ _ (create-agrees _) c.create_lock.result _ _ (λ t x is. is) c.create_lock.ensures
