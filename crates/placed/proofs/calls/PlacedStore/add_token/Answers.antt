use Rattle.placed.proofs.Prelude.{view}
use Rattle.placed.proofs.Forward.{forwards}
use Rattle.placed.proofs.Tracked.{leaves-added-token}
use Rattle.placed.proofs.Views.{view-added-token}
use Rattle.placed.proofs.calls.PlacedStore.add_token.Goals as goal

pub returns : goal.returns
unfolding view
returns g c =
    forwards g.T.State g.D.Disk c.args.self.now c.add_token.new.self _ _ _ _ c.add_token.result c.add_token.ensures
    (λ t x is. is) (leaves-added-token _) (λ t. view-added-token _ _ t _)
