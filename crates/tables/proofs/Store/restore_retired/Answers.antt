use Rattle.tables.proofs.Prelude.{repo_text}
use Rattle.tables.proofs.Recalled.{retired_keeps}
use Rattle.tables.proofs.Stores.{transacts_changes}
use Rattle.tables.proofs.Store.restore_retired.Goals as goal

pub returns : goal.returns
returns g c = transacts_changes g.S.Store _ _ _ c.restore_retired.result _ (retired_keeps (repo_text c.args.repo.now) c.args.oid.now) c.restore_retired.ensures
