use Rattle.store.proofs.Alone.{changes}
use Rattle.store.proofs.Steps.{counts-agrees}
use Rattle.store.proofs.restored.TablesStoreRestored.restore_repo.Goals as goal

pub returns : goal.returns
returns g c = changes g.S.Store c.args.self.now c.restore_repo.new.self _ _ (counts-agrees _ _ _) c.restore_repo.result _ _ (λ t x is. is) c.restore_repo.ensures
