use Rattle.store.proofs.Alone.{begins}
use Rattle.store.proofs.database.TablesStoreStore.begin_upload.Goals as goal

pub returns : goal.returns
returns g c = begins g.S.Store c.args.self.now c.begin_upload.new.self c.begin_upload.result _ c.begin_upload.ensures
