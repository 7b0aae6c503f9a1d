use Rattle.tables.proofs.Prelude.{repo_text}
use Rattle.tables.proofs.Recounts.{discard_keeps}
use Rattle.tables.proofs.Stores.{transacts_changes}
use Rattle.tables.proofs.Store.discard_object.Goals as goal

pub returns : goal.returns
returns g c = transacts_changes g.S.Store _ _ _ c.discard.result _ (discard_keeps (repo_text c.args.repo.now) c.args.oid.now) c.discard.ensures
