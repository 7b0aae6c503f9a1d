use Rattle.store.proofs.Alone.{reads}
use Rattle.store.proofs.listed.TablesStoreListed.all_uploads.Goals as goal

pub returns : goal.returns
returns g c = reads g.S.Store c.args.self.now c.all_uploads.new.self c.all_uploads.result _ _ (λ t x is. is) c.all_uploads.ensures
