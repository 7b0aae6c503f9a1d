use Rattle.tables.proofs.Prelude.{asked_chunk}
use Rattle.tables.proofs.Recalled.{chunk_keeps}
use Rattle.tables.proofs.Stores.{transacts_changes}
use Rattle.tables.proofs.Store.add_chunk.Goals as goal

pub returns : goal.returns
returns g c = transacts_changes g.S.Store _ _ _ c.add_chunk.result _ (chunk_keeps (asked_chunk c.args.upload.number c.args.n c.args.bytes.now)) c.add_chunk.ensures
