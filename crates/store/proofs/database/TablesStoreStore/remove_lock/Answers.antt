use Rattle.store.proofs.Alone.{changes}
use Rattle.store.proofs.Steps.{unlock-agrees}
use Rattle.store.proofs.database.TablesStoreStore.remove_lock.Goals as goal

pub returns : goal.returns
returns g c = changes g.S.Store c.args.self.now c.remove_lock.new.self _ _ (unlock-agrees _ _) c.remove_lock.result _ _ (λ t x is. is) c.remove_lock.ensures
