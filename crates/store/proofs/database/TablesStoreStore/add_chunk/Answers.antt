use Rattle.store.proofs.Alone.{puts_or}
use Rattle.store.proofs.Steps.{chunk-agrees}
use Rattle.store.proofs.database.TablesStoreStore.add_chunk.Goals as goal

pub returns : goal.returns
returns g c = puts_or g.S.Store c.args.self.now c.add_chunk.new.self _ _ (chunk-agrees _) c.add_chunk.result _ _ (λ t x is. is) c.add_chunk.ensures
