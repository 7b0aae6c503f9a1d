use Rattle.store.proofs.Alone.{changes}
use Rattle.store.proofs.Steps.{complete-agrees}
use Rattle.store.proofs.database.TablesStoreStore.complete_upload.Goals as goal

pub returns : goal.returns
returns g c = changes g.S.Store c.args.self.now c.complete_upload.new.self _ _ (complete-agrees _ _ _ _) c.complete_upload.result _ _ (λ t x is. is) c.complete_upload.ensures
