use Rattle.tables.proofs.Prelude.{pos}
use Rattle.tables.proofs.Recalled.{complete_keeps}
use Rattle.tables.proofs.Stores.{transacts_changes}
use Rattle.tables.proofs.Store.complete_upload.Goals as goal

pub returns : goal.returns
returns g c = transacts_changes g.S.Store _ _ _ c.complete.result _ (complete_keeps c.args.id.number c.args.last.now c.args.oid.now (pos c.args.size)) c.complete.ensures
