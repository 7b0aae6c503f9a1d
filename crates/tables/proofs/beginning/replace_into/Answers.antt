use Rattle.tables.proofs.Prelude.{subst, state, repo_text, Tables, tables_in, with_upload, asked_upload, IsAbove, without_staged_in, clean_before, goes_on, inside_then}
use Rattle.tables.specs.Staging.{after_begin}
use Rattle.tables.proofs.Calls.{steps_then, ready_after}
use Rattle.tables.proofs.Replacing.{above_all}
use Rattle.tables.proofs.beginning.replace_into.Goals as goal

pub returns-clause-value : goal.returns-clause-value
returns-clause-value g c last clean inside ready =
    let repo = repo_text c.args.upload.now.repo.now in
    let id = c.in_ok-id.id.number in
    let old = state g.S.Store c.args.tx.now.conn.now in
    let mid = state g.S.Store c.last_out.new.tx.conn.now in
    let out = c.in_ok-last_out.ensures in
    let clean_mid = clean_before g.S.Store c.last_out.new.tx.conn.now c.upload_into.new.tx.conn.now _ c.in_ok-id.ensures.within clean in
    let first = out.ok last clean_mid inside ready in
    let second = c.in_ok-id.ensures.value clean (out.within.inside clean_mid inside) (ready_after (without_staged_in repo) old mid first) in
    (first.was_open, above_all repo (tables_in old) c.args.last.number (last first.was_open) id (subst (λ (t : Tables). IsAbove t id) first.tables second.1) (c.comes_after.ensures.0 c.if-not-comes_after.false))

pub returns-clause-ok : goal.returns-clause-ok
unfolding after_begin
returns-clause-ok g c last clean inside ready =
    let repo = repo_text c.args.upload.now.repo.now in
    let old = state g.S.Store c.args.tx.now.conn.now in
    let mid = state g.S.Store c.last_out.new.tx.conn.now in
    let new = state g.S.Store c.upload_into.new.tx.conn.now in
    let out = c.in_ok-last_out.ensures in
    let clean_mid = clean_before g.S.Store c.last_out.new.tx.conn.now c.upload_into.new.tx.conn.now _ c.in_ok-id.ensures.within clean in
    let first = out.ok last clean_mid inside ready in
    steps_then (without_staged_in repo) (with_upload (asked_upload c.args.upload.now c.in_ok-id.id.number)) old mid new first
    (c.in_ok-id.ensures.ok clean (out.within.inside clean_mid inside) (ready_after (without_staged_in repo) old mid first))

pub returns-clause-within : goal.returns-clause-within
returns-clause-within g c =
    let begun = c.args.tx.now.conn.now in
    let mid = c.last_out.new.tx.conn.now in
    let last = c.upload_into.new.tx.conn.now in
    inside_then g.S.Store begun mid last _ c.in_ok-last_out.ensures.within (goes_on g.S.Store mid last _ c.in_ok-id.ensures.within)
