use Rattle.tables.proofs.Prelude.{without_row, without_chunks}
use Rattle.tables.specs.Staging.{without_upload}
use Rattle.tables.proofs.Calls.{does_on, does_then}
use Rattle.tables.proofs.uploads.upload_out.Goals as goal

pub returns-clause-does : goal.returns-clause-does
unfolding without_upload
returns-clause-does g c =
    let begun = c.args.tx.now.conn.now in
    let mid = c.chunks_out.new.tx.conn.now in
    let last = c.row_out.new.tx.conn.now in
    does_then g.S.Store begun mid last _ (without_chunks c.args.id.number) (without_row c.args.id.number) c.in_ok-chunks_out.ensures.does
    (does_on g.S.Store mid last _ (without_row c.args.id.number) c.in_ok-row_out.ensures.does)
