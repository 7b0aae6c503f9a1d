use Rattle.tables.proofs.Prelude.{asked_token}
use Rattle.tables.proofs.Recalled.{add_keeps}
use Rattle.tables.proofs.Stores.{transacts_changes}
use Rattle.tables.proofs.Store.add_token.Goals as goal

pub returns : goal.returns
returns g c = transacts_changes g.S.Store _ _ _ c.add.result _ (add_keeps (asked_token c.args.token.now)) c.add.ensures
