use Rattle.store.proofs.Alone.{reads}
use Rattle.store.proofs.database.TablesStoreStore.lock_at.Goals as goal

pub returns : goal.returns
returns g c = reads g.S.Store c.args.self.now c.lock_at.new.self c.lock_at.result _ _ (λ t x is. is) c.lock_at.ensures
