-- The length of the file is asked, and nothing is changed.
use Rattle.placed.proofs.Restaged.{counted_moves}
use Rattle.placed.proofs.calls.PlacedStore.room.Goals as goal

pub returns-in_default-clause-same : goal.returns-in_default-clause-same
returns-in_default-clause-same g c =
    counted_moves g.T.State g.D.Disk c.args.self.now c.len.new.self
    (record { seen = c.len.ensures.seen; stop = c.len.ensures.crash; clean = c.len.ensures.clean }) c.args.self.now.unsynced

pub returns-clause-same : goal.returns-clause-same
returns-clause-same g c =
    counted_moves g.T.State g.D.Disk c.args.self.now c.len.new.self
    (record { seen = c.len.ensures.seen; stop = c.len.ensures.crash; clean = c.len.ensures.clean }) c.args.self.now.unsynced
