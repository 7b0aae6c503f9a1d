use Rattle.tables.proofs.Prelude.{option_map, ap, sym, ◌∙◌, state, tables_in, repo_text, upload_number, read_object, without_upload, clean_before}
use Rattle.tables.specs.Discarding.{recounted, after_discard}
use Rattle.tables.proofs.Calls.{does_on, does_then, does_as}
use Rattle.tables.proofs.Recounts.{nothing_discarded, one_discarded}
use Rattle.tables.proofs.discarding.discard_into.Goals as goal

pub returns-in_default-clause-does : goal.returns-in_default-clause-does
returns-in_default-clause-does g c =
    let begun = c.args.tx.now.conn.now in
    let last = c.object_in.new.tx.conn.now in
    does_as g.S.Store begun last _ (λ t. t) (after_discard (repo_text c.args.repo.now) c.args.oid.now)
    (λ clean inside ready.
    let found = c.in_ok-object.ensures.value clean inside ready in
    sym (nothing_discarded (repo_text c.args.repo.now) c.args.oid.now (tables_in (state g.S.Store begun)) (ap (option_map read_object) (sym c.in_default.is) ∙ found.1)))
    (does_on g.S.Store begun last _ (λ t. t) c.in_ok-object.ensures.does)

pub returns-clause-does : goal.returns-clause-does
returns-clause-does g c =
    let repo = repo_text c.args.repo.now in
    let oid = c.args.oid.now in
    let id = upload_number c.in-Some.object.id in
    let begun = c.args.tx.now.conn.now in
    let found_at = c.object_in.new.tx.conn.now in
    let out_at = c.upload_out.new.tx.conn.now in
    let last = c.recount_into.new.tx.conn.now in
    let out = c.in_ok-upload_out.ensures.does in
    let count = c.in_ok-recount_into.ensures.does in
    does_as g.S.Store begun last _ (λ t. recounted repo (without_upload id t)) (after_discard repo oid)
    (λ clean inside ready.
    let mid = clean_before g.S.Store out_at last _ count.within clean in
    let found = c.in_ok-object.ensures.value (clean_before g.S.Store found_at out_at _ out.within mid) inside ready in
    sym (one_discarded repo oid (tables_in (state g.S.Store begun)) c.in-Some.object (ap (option_map read_object) (sym c.in-Some.is) ∙ found.1)))
    (does_then g.S.Store begun out_at last _ (without_upload id) (recounted repo) (does_then g.S.Store begun found_at out_at _ (λ t. t) (without_upload id) c.in_ok-object.ensures.does out) (does_on g.S.Store out_at last _ (recounted repo) count))
