use Rattle.store.proofs.Alone.{reads}
use Rattle.store.proofs.listed.TablesStoreListed.all_tokens.Goals as goal

pub returns : goal.returns
returns g c = reads g.S.Store c.args.self.now c.all_tokens.new.self c.all_tokens.result _ _ (λ t x is. is) c.all_tokens.ensures
