use Rattle.store.proofs.Alone.{changes}
use Rattle.store.proofs.Steps.{staged-agrees}
use Rattle.store.proofs.database.TablesStoreStore.remove_upload.Goals as goal

pub returns : goal.returns
returns g c = changes g.S.Store c.args.self.now c.remove_upload.new.self _ _ (staged-agrees _) c.remove_upload.result _ _ (λ t x is. is) c.remove_upload.ensures
