use Rattle.store.proofs.Alone.{reads}
use Rattle.store.proofs.listed.TablesStoreListed.all_repos.Goals as goal

pub returns : goal.returns
returns g c = reads g.S.Store c.args.self.now c.all_repos.new.self c.all_repos.result _ _ (λ t x is. is) c.all_repos.ensures
