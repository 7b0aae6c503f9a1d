use Rattle.store.proofs.Alone.{changes}
use Rattle.store.proofs.Steps.{restore-agrees}
use Rattle.store.proofs.restored.TablesStoreRestored.restore_object.Goals as goal

pub returns : goal.returns
returns g c = changes g.S.Store c.args.self.now c.restore_object.new.self _ _ (restore-agrees _ _ _) c.restore_object.result _ _ (λ t x is. is) c.restore_object.ensures
