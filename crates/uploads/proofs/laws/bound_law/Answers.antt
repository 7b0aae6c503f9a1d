use Rattle.uploads.proofs.Bounds.{leaves_within, stores_within}
use Rattle.uploads.proofs.laws.bound_law.Goals as goal

pub returns-clause-shown : goal.returns-clause-shown
returns-clause-shown g c world repo most holds within = stores_within g.S.State c.args.store.now world repo most holds within

pub returns-clause-left : goal.returns-clause-left
returns-clause-left g c bound repo most bounded within = leaves_within g.S.State c.args.store.now bound repo most bounded within
