use Rattle.store.proofs.Alone.{puts_or}
use Rattle.store.proofs.Steps.{shortened-agrees}
use Rattle.store.proofs.database.TablesStoreStore.shorten_upload.Goals as goal

pub returns : goal.returns
returns g c = puts_or g.S.Store c.args.self.now c.shorten_upload.new.self _ _ (shortened-agrees _ _) c.shorten_upload.result _ _ (λ t x is. is) c.shorten_upload.ensures
