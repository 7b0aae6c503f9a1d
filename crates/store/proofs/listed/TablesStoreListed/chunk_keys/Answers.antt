use Rattle.store.proofs.Alone.{reads}
use Rattle.store.proofs.Steps.{keys-found}
use Rattle.store.proofs.listed.TablesStoreListed.chunk_keys.Goals as goal

pub returns : goal.returns
returns g c = reads g.S.Store c.args.self.now c.chunk_keys.new.self c.chunk_keys.result _ _ (λ t x is. keys-found x.items t is) c.chunk_keys.ensures
