use Rattle.placed.proofs.Prelude.{view}
use Rattle.placed.proofs.Forward.{reads}
use Rattle.placed.proofs.listed.PlacedListed.all_retired.Goals as goal

pub returns : goal.returns
unfolding view
returns g c = reads g.T.State g.D.Disk c.args.self.now c.all_retired.new.self c.all_retired.result _ _ (λ t x is. is) c.all_retired.ensures
