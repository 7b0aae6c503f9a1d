use Rattle.desk.proofs.Prelude.{from_weaker}
use Rattle.desk.proofs.Arriving.{kept_none, swept_keeps}
use Rattle.desk.proofs.receiving.clear.Goals as goal

pub returns : goal.returns
returns g c = kept_none g.S.State c.args.store.now

pub returns-in-Ok-Differs : goal.returns-in-Ok-Differs
returns-in-Ok-Differs g c = from_weaker g.S.State c.args.store.now c.abandon.new.store _ _ (λ world it. it.0) c.abandon.ensures

pub returns-in-Err-Store : goal.returns-in-Err-Store
returns-in-Err-Store g c = from_weaker g.S.State c.args.store.now c.sweep.new.store _ _ (λ world it. swept_keeps g.S.State c.args.store.now c.sweep.new.store world c.sweep.result it) c.sweep.ensures

pub returns-2 : goal.returns-2
returns-2 g c = kept_none g.S.State c.args.store.now
