use Rattle.placed.proofs.Prelude.{view}
use Rattle.placed.proofs.Forward.{forwards}
use Rattle.placed.proofs.Tracked.{leaves-created}
use Rattle.placed.proofs.Views.{view-created}
use Rattle.placed.proofs.calls.PlacedStore.create_lock.Goals as goal

pub returns : goal.returns
unfolding view
returns g c =
    forwards g.T.State g.D.Disk c.args.self.now c.create_lock.new.self _ _ _ _ c.create_lock.result c.create_lock.ensures
    (λ t x is. is) (leaves-created _) (λ t. view-created _ _ t _)
