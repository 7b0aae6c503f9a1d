use Rattle.placed.proofs.Forward.{finds}
use Rattle.placed.proofs.calls.PlacedStore.staged_upload.Goals as goal

pub returns : goal.returns
returns g c = finds g.T.State g.D.Disk c.args.self.now c.staged_upload.new.self _ c.staged_upload.result c.staged_upload.ensures
