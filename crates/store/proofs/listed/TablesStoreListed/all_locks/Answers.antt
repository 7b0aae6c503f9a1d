use Rattle.store.proofs.Alone.{reads}
use Rattle.store.proofs.listed.TablesStoreListed.all_locks.Goals as goal

pub returns : goal.returns
returns g c = reads g.S.Store c.args.self.now c.all_locks.new.self c.all_locks.result _ _ (λ t x is. is) c.all_locks.ensures
