use Rattle.desk.proofs.Arriving.{completed_all}
use Rattle.desk.proofs.slices.complete.Goals as goal

pub returns : goal.returns
returns g c = completed_all g.S.State c.args.store.now c.end-received.new.store c.clear.new.store c.args.receiving c.end-received.result c.end-received.ensures c.clear.ensures
