use Rattle.tables.proofs.Prelude.{upload_number}
use Rattle.tables.proofs.Recalled.{restore_keeps}
use Rattle.tables.proofs.Stores.{transacts_changes}
use Rattle.tables.proofs.Store.restore_object.Goals as goal

pub returns : goal.returns
returns g c = transacts_changes g.S.Store _ _ _ c.restore_object.result _ (restore_keeps c.args.object.now (upload_number c.args.id) c.args.chunk) c.restore_object.ensures
