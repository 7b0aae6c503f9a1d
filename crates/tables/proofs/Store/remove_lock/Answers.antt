use Rattle.tables.proofs.Prelude.{pos, repo_text}
use Rattle.tables.proofs.Recalled.{release_keeps}
use Rattle.tables.proofs.Stores.{transacts_changes}
use Rattle.tables.proofs.Store.remove_lock.Goals as goal

pub returns : goal.returns
returns g c = transacts_changes g.S.Store _ _ _ c.remove.result _ (release_keeps (repo_text c.args.repo.now) (pos c.args.id)) c.remove.ensures
