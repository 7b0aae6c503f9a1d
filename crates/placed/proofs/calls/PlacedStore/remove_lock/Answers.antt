use Rattle.placed.proofs.Prelude.{view}
use Rattle.placed.proofs.Forward.{forwards}
use Rattle.placed.proofs.Tracked.{leaves-unlocked}
use Rattle.placed.proofs.Views.{view-unlocked}
use Rattle.placed.proofs.calls.PlacedStore.remove_lock.Goals as goal

pub returns : goal.returns
unfolding view
returns g c =
    forwards g.T.State g.D.Disk c.args.self.now c.remove_lock.new.self _ _ _ _ c.remove_lock.result c.remove_lock.ensures
    (λ t x is. is) (leaves-unlocked _ _) (λ t. view-unlocked _ _ t _ _)
