use Rattle.store.proofs.Alone.{changes}
use Rattle.store.proofs.Steps.{retire-agrees}
use Rattle.store.proofs.database.TablesStoreStore.retire_object.Goals as goal

pub returns : goal.returns
returns g c = changes g.S.Store c.args.self.now c.retire_object.new.self _ _ (retire-agrees _ _) c.retire_object.result _ _ (λ t x is. is) c.retire_object.ensures
