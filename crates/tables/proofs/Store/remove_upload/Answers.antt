use Rattle.tables.proofs.Recalled.{abandon_keeps}
use Rattle.tables.proofs.Stores.{transacts_changes}
use Rattle.tables.proofs.Store.remove_upload.Goals as goal

pub returns : goal.returns
returns g c = transacts_changes g.S.Store _ _ _ c.remove.result _ (abandon_keeps c.args.id.number) c.remove.ensures
