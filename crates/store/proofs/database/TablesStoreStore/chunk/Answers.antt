use Rattle.store.proofs.Alone.{reads_ok, reads_err}
use Rattle.store.proofs.Steps.{content-found}
use Rattle.store.proofs.database.TablesStoreStore.chunk.Goals as goal

pub returns-in-Ok : goal.returns-in-Ok
returns-in-Ok g c =
    reads_ok g.S.Store c.args.self.now c.chunk.new.self _ _ c.in-Ok.row c.content_in.result (λ t is. content-found _ _ t c.in-Ok.row c.content_in.result c.content_in.ensures is) c.in-Ok.ensures

pub returns-in-Err : goal.returns-in-Err
returns-in-Err g c = reads_err g.S.Store c.args.self.now c.chunk.new.self _ _ c.in-Err.fault c.in-Err.ensures
