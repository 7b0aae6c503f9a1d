use Rattle.store.proofs.Alone.{reads}
use Rattle.store.proofs.Steps.{numbered-found}
use Rattle.store.proofs.numbered.TablesStoreNumbered.chunks_numbered.Goals as goal

pub returns : goal.returns
returns g c =
    reads g.S.Store c.args.self.now c.chunks_numbered.new.self c.chunks_numbered.result _ _
    (λ t x is. numbered-found c.args.n x.items t is) c.chunks_numbered.ensures
