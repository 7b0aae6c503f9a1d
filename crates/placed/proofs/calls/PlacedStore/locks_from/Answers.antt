use Rattle.placed.proofs.Prelude.{view}
use Rattle.placed.proofs.Forward.{reads}
use Rattle.placed.proofs.calls.PlacedStore.locks_from.Goals as goal

pub returns : goal.returns
unfolding view
returns g c = reads g.T.State g.D.Disk c.args.self.now c.locks_from.new.self c.locks_from.result _ _ (λ t x is. is) c.locks_from.ensures
