use Rattle.tables.proofs.Prelude.{pos, ap, sym, ◌∙◌, state, tables_in, without_chunks_from, begun_as, read_upload, without_staged_from, clean_before}
use Rattle.tables.proofs.Calls.{does_on, does_then, does_as}
use Rattle.tables.proofs.Completing.{shortened, is_there, nothing_shortened, is_not_there}
use Rattle.tables.proofs.uploads.shorten_into.Goals as goal

pub returns-in_default-clause-value : goal.returns-in_default-clause-value
returns-in_default-clause-value g c clean inside ready =
    let found = c.in_ok-upload.ensures.value clean inside ready in
    let none = ap (Rattle.std.proofs.Common.option_map read_upload) (sym c.in_default.is) ∙ found.1 in
    (found.0, sym (is_not_there c.args.id.number (tables_in (state g.S.Store c.args.tx.now.conn.now)) none))

pub returns-in_default-clause-does : goal.returns-in_default-clause-does
returns-in_default-clause-does g c =
    let id = c.args.id.number in
    let begun = c.args.tx.now.conn.now in
    let last = c.staged_in.new.tx.conn.now in
    does_as g.S.Store begun last _ (λ t. t) (without_staged_from id (pos c.args.n))
    (λ clean inside ready.
    let found = c.in_ok-upload.ensures.value clean inside ready in
    sym (nothing_shortened id (tables_in (state g.S.Store begun)) (ap (Rattle.std.proofs.Common.option_map read_upload) (sym c.in_default.is) ∙ found.1) (pos c.args.n)))
    (does_on g.S.Store begun last _ (λ t. t) c.in_ok-upload.ensures.does)

pub returns-clause-value : goal.returns-clause-value
returns-clause-value g c clean inside ready =
    let late = clean_before g.S.Store c.staged_in.new.tx.conn.now c.chunks_from_out.new.tx.conn.now _ c.in_ok-chunks_from_out.ensures.does.within clean in
    let found = c.in_ok-upload.ensures.value late inside ready in
    (found.0, sym (is_there c.in-Some.upload c.args.id.number (tables_in (state g.S.Store c.args.tx.now.conn.now)) (ap (Rattle.std.proofs.Common.option_map read_upload) (sym c.in-Some.is) ∙ found.1)))

pub returns-clause-does : goal.returns-clause-does
returns-clause-does g c =
    let id = c.args.id.number in
    let begun = c.args.tx.now.conn.now in
    let mid = c.staged_in.new.tx.conn.now in
    let last = c.chunks_from_out.new.tx.conn.now in
    let out = c.in_ok-chunks_from_out.ensures.does in
    let out_id = (begun_as c.in-Some.upload).id in
    does_as g.S.Store begun last _ (without_chunks_from out_id (pos c.args.n)) (without_staged_from id (pos c.args.n))
    (λ clean inside ready.
    let found = c.in_ok-upload.ensures.value (clean_before g.S.Store mid last _ out.within clean) inside ready in
    sym (shortened c.in-Some.upload id (tables_in (state g.S.Store begun)) (ap (Rattle.std.proofs.Common.option_map read_upload) (sym c.in-Some.is) ∙ found.1) (pos c.args.n)))
    (does_then g.S.Store begun mid last _ (λ t. t) (without_chunks_from out_id (pos c.args.n)) c.in_ok-upload.ensures.does (does_on g.S.Store mid last _ (without_chunks_from out_id (pos c.args.n)) out))
