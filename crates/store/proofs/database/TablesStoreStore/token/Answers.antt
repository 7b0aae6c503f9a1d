use Rattle.store.proofs.Alone.{reads}
use Rattle.store.proofs.database.TablesStoreStore.token.Goals as goal

pub returns : goal.returns
returns g c = reads g.S.Store c.args.self.now c.token.new.self c.token.result _ _ (λ t x is. is) c.token.ensures
