use Rattle.tables.proofs.Prelude.{pos, asked_lock}
use Rattle.tables.proofs.Recalled.{lock_keeps}
use Rattle.tables.proofs.Stores.{transacts_changes}
use Rattle.tables.proofs.Store.restore_lock.Goals as goal

pub returns : goal.returns
returns g c = transacts_changes g.S.Store _ _ _ c.restore_lock.result _ (lock_keeps (record (asked_lock c.args.lock.now) { id = pos c.args.id })) c.restore_lock.ensures
