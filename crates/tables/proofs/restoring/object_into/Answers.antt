use Rattle.tables.proofs.Prelude.{sym, ap, state, with_chunk, tables_in, upload_number, asked_chunk}
use Rattle.tables.specs.Restoring.{restored_upload, with_upload_at, with_new_chunk, with_restored}
use Rattle.tables.proofs.Calls.{does_on, does_then, does_as}
use Rattle.tables.proofs.restoring.object_into.Goals as goal

pub returns-in_default-clause-does : goal.returns-in_default-clause-does
unfolding with_restored
returns-in_default-clause-does g c =
    let id = upload_number c.args.id in
    let begun = c.args.tx.now.conn.now in
    let end = c.object_row_into.new.tx.conn.now in
    let row = with_upload_at (restored_upload c.args.object.now id) in
    does_as g.S.Store begun end _ row (with_restored c.args.object.now id c.args.chunk)
    (λ clean inside ready. ap (λ k. with_new_chunk id k (row (tables_in (state g.S.Store begun)))) (sym c.in_default.is))
    (does_on g.S.Store begun end _ row c.in_ok-object_row_into.ensures.does)

pub returns-clause-does : goal.returns-clause-does
unfolding with_restored
returns-clause-does g c =
    let id = upload_number c.args.id in
    let begun = c.args.tx.now.conn.now in
    let mid = c.object_row_into.new.tx.conn.now in
    let end = c.chunk_into.new.tx.conn.now in
    let chunk = c.in-Some.chunk in
    let row = with_upload_at (restored_upload c.args.object.now id) in
    let added = with_chunk (asked_chunk id chunk.n chunk.bytes.now) in
    does_as g.S.Store begun end _ (λ t. added (row t)) (with_restored c.args.object.now id c.args.chunk)
    (λ clean inside ready. ap (λ k. with_new_chunk id k (row (tables_in (state g.S.Store begun)))) (sym c.in-Some.is))
    (does_then g.S.Store begun mid end _ row added c.in_ok-object_row_into.ensures.does (does_on g.S.Store mid end _ added c.in_ok-chunk_into.ensures.does))
