use Rattle.placed.proofs.Prelude.{view}
use Rattle.placed.proofs.Forward.{forwards}
use Rattle.placed.proofs.Tracked.{leaves-expired}
use Rattle.placed.proofs.Views.{view-expired}
use Rattle.placed.proofs.calls.PlacedStore.remove_expired.Goals as goal

pub returns : goal.returns
unfolding view
returns g c =
    forwards g.T.State g.D.Disk c.args.self.now c.remove_expired.new.self _ _ _ _ c.remove_expired.result c.remove_expired.ensures
    (λ t x is. is) (leaves-expired _) (λ t. view-expired _ _ t _)
