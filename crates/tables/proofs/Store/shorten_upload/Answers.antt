use Rattle.tables.proofs.Prelude.{pos}
use Rattle.tables.proofs.Recalled.{shorten_keeps}
use Rattle.tables.proofs.Stores.{transacts_changes}
use Rattle.tables.proofs.Store.shorten_upload.Goals as goal

pub returns : goal.returns
returns g c = transacts_changes g.S.Store _ _ _ c.shorten.result _ (shorten_keeps c.args.id.number (pos c.args.n)) c.shorten.ensures
