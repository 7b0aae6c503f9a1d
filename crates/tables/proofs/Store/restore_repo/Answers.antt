use Rattle.tables.proofs.Prelude.{pos, repo_text}
use Rattle.tables.proofs.Recalled.{counts_keep}
use Rattle.tables.proofs.Stores.{transacts_changes}
use Rattle.tables.proofs.Store.restore_repo.Goals as goal

pub returns : goal.returns
returns g c = transacts_changes g.S.Store _ _ _ c.restore_repo.result _ (counts_keep (repo_text c.args.repo.now) (pos c.args.made) (pos c.args.used)) c.restore_repo.ensures
