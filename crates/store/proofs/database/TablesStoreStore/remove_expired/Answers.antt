use Rattle.store.proofs.Alone.{changes}
use Rattle.store.proofs.Steps.{expire-agrees}
use Rattle.store.proofs.database.TablesStoreStore.remove_expired.Goals as goal

pub returns : goal.returns
returns g c = changes g.S.Store c.args.self.now c.remove_expired.new.self _ _ (expire-agrees _) c.remove_expired.result _ _ (λ t x is. is) c.remove_expired.ensures
