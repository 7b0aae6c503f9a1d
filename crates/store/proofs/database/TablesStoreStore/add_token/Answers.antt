use Rattle.store.proofs.Alone.{changes}
use Rattle.store.proofs.Steps.{add-agrees}
use Rattle.store.proofs.database.TablesStoreStore.add_token.Goals as goal

pub returns : goal.returns
returns g c = changes g.S.Store c.args.self.now c.add_token.new.self _ _ (add-agrees _) c.add_token.result _ _ (λ t x is. is) c.add_token.ensures
