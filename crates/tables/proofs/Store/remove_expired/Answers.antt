use Rattle.tables.proofs.Prelude.{pos}
use Rattle.tables.proofs.Recalled.{prune_keeps}
use Rattle.tables.proofs.Stores.{transacts_changes}
use Rattle.tables.proofs.Store.remove_expired.Goals as goal

pub returns : goal.returns
returns g c = transacts_changes g.S.Store _ _ _ c.remove_expired.result _ (prune_keeps (pos c.args.moment)) c.remove_expired.ensures
