use Rattle.placed.proofs.Prelude.{view}
use Rattle.placed.proofs.Forward.{reads}
use Rattle.placed.proofs.calls.PlacedStore.staged_uploads.Goals as goal

pub returns : goal.returns
unfolding view
returns g c = reads g.T.State g.D.Disk c.args.self.now c.staged_uploads.new.self c.staged_uploads.result _ _ (λ t x is. is) c.staged_uploads.ensures
