use Rattle.tables.proofs.Prelude.{option_map, sym, ap, ◌∙◌, IfOk-weaker, state, repo_text, tables_in, same_bytes, UploadFields, read_upload, without_upload, without_staged_in, clean_before}
use Rattle.tables.specs.Staging.{staged_with}
use Rattle.tables.proofs.Calls.{steps_then, same_steps, ready_after}
use Rattle.tables.proofs.Completing.{none_found, one_found}
use Rattle.tables.proofs.Replacing.{not_staged, last_staged}
use Rattle.tables.proofs.beginning.last_out.Goals as goal

pub returns-in_default-clause-ok : goal.returns-in_default-clause-ok
returns-in_default-clause-ok g c last clean inside ready =
    let repo = repo_text c.args.repo.now in
    let id = c.args.last.number in
    let old = state g.S.Store c.args.tx.now.conn.now in
    let t = tables_in old in
    let found = c.in_ok-upload.ensures.value clean inside ready in
    let none = none_found (staged_with id t) (ap (option_map read_upload) (sym c.in_default.is) ∙ found.1) in
    same_steps (λ t. t) (without_staged_in repo) old (state g.S.Store c.staged_in.new.tx.conn.now) (not_staged repo t id (last found.0) none) (c.in_ok-upload.ensures.does.ok clean inside ready)

pub returns-clause-ok : goal.returns-clause-ok
returns-clause-ok g c last clean inside ready =
    let repo = repo_text c.args.repo.now in
    let id = c.args.last.number in
    let old = state g.S.Store c.args.tx.now.conn.now in
    let mid = state g.S.Store c.staged_in.new.tx.conn.now in
    let new = state g.S.Store c.upload_out.new.tx.conn.now in
    let t = tables_in old in
    let out = c.upload_out.ensures.does in
    let read = c.in_ok-upload.ensures in
    let clean_mid = clean_before g.S.Store c.staged_in.new.tx.conn.now c.upload_out.new.tx.conn.now _ out.within clean in
    let found = read.value clean_mid inside ready in
    let it = one_found c.in-Some.upload (staged_with id t) (ap (option_map read_upload) (sym c.in-Some.is) ∙ found.1) in
    let named = ap (λ (f : UploadFields). same_bytes f.repo repo) it.2 ∙ sym c.is_same.ensures ∙ c.if-not-is_same.false in
    let first = read.does.ok clean_mid inside ready in
    IfOk-weaker c.upload_out.result _ _
    (λ _ s. same_steps (without_upload id) (without_staged_in repo) old new (last_staged repo t id (last found.0) it.0 it.1 named) (steps_then (λ t. t) (without_upload id) old mid new first s))
    (out.ok clean (read.does.within.inside clean_mid inside) (ready_after (λ t. t) old mid first))
