use Rattle.store.proofs.Alone.{changes}
use Rattle.store.proofs.Steps.{discard-agrees}
use Rattle.store.proofs.database.TablesStoreStore.discard_object.Goals as goal

pub returns : goal.returns
returns g c = changes g.S.Store c.args.self.now c.discard_object.new.self _ _ (discard-agrees _ _) c.discard_object.result _ _ (λ t x is. is) c.discard_object.ensures
