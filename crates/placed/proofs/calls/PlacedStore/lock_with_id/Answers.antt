use Rattle.placed.proofs.Prelude.{view}
use Rattle.placed.proofs.Forward.{reads}
use Rattle.placed.proofs.calls.PlacedStore.lock_with_id.Goals as goal

pub returns : goal.returns
unfolding view
returns g c = reads g.T.State g.D.Disk c.args.self.now c.lock_with_id.new.self c.lock_with_id.result _ _ (λ t x is. is) c.lock_with_id.ensures
