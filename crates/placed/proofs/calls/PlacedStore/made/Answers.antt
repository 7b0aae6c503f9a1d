use Rattle.placed.proofs.Prelude.{view}
use Rattle.placed.proofs.Forward.{reads}
use Rattle.placed.proofs.calls.PlacedStore.made.Goals as goal

pub returns : goal.returns
unfolding view
returns g c = reads g.T.State g.D.Disk c.args.self.now c.made.new.self c.made.result _ _ (λ t x is. is) c.made.ensures
