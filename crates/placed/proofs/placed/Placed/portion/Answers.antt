use Rattle.store.proofs.Moved.{moves_none, nothing_none}
use Rattle.placed.proofs.ChunkRead.{err_behind, failed_last}
use Rattle.placed.proofs.PortionRead.{portion_found}
use Rattle.placed.proofs.placed.Placed.portion.Goals as goal

pub returns-in_err-bytes-clause-reads : goal.returns-in_err-bytes-clause-reads
returns-in_err-bytes-clause-reads g c =
    failed_last g.T.State g.D.Disk _ _ c.region_of.new.self c.region_of.ensures.rest (moves_none g.T.State _) (nothing_none g.T.State _)
    c.region_of.ensures.reads.same c.region_of.ensures.reads.adds _ c.read_portion.ensures.same _ _ (err_behind _ c.from_residual-in_err-bytes.ensures.0)

pub returns-clause-reads : goal.returns-clause-reads
returns-clause-reads g c =
    portion_found g.T.State g.D.Disk _ c.region_of.new.self c.region_of.ensures.rest c.args.upload _ _ c.in-Some.is c.in_ok-region.ensures.reads _ c.read_portion.ensures.same
    c.in_ok-bytes.bytes c.args.at c.args.most c.in_ok-bytes.ensures.read
