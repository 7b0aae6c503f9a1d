use Rattle.placed.proofs.Prelude.{view}
use Rattle.placed.proofs.Forward.{reads}
use Rattle.placed.proofs.calls.PlacedStore.lock_at.Goals as goal

pub returns : goal.returns
unfolding view
returns g c = reads g.T.State g.D.Disk c.args.self.now c.lock_at.new.self c.lock_at.result _ _ (λ t x is. is) c.lock_at.ensures
