use Rattle.tables.proofs.Prelude.{◌≡◌, option_map, pos, ap, sym, ◌∙◌, state, Tables, tables_in, repo_text, upload_number, read_object, used_of, with_used, without_upload, clean_before}
use Rattle.std.specs.Prelude.{◌-ℤ◌}
use Rattle.tables.specs.Statements.{with_retired}
use Rattle.tables.specs.Retiring.{after_retire}
use Rattle.tables.proofs.Calls.{does_on, does_then, does_as}
use Rattle.tables.proofs.Removals.{without_sized, nothing_retired, one_retired}
use Rattle.tables.proofs.retiring.retire_into.Goals as goal

pub returns-in_default-clause-value : goal.returns-in_default-clause-value
returns-in_default-clause-value g c clean inside ready =
    let found = c.in_ok-object.ensures.value clean inside ready in
    (found.0, sym (nothing_retired (repo_text c.args.repo.now) c.args.oid.now (tables_in (state g.S.Store c.args.tx.now.conn.now)) (ap (option_map read_object) (sym c.in_default.is) ∙ found.1)).1)

pub returns-in_default-clause-does : goal.returns-in_default-clause-does
returns-in_default-clause-does g c =
    let begun = c.args.tx.now.conn.now in
    let last = c.object_in.new.tx.conn.now in
    does_as g.S.Store begun last _ (λ t. t) (after_retire (repo_text c.args.repo.now) c.args.oid.now)
    (λ clean inside ready.
    let found = c.in_ok-object.ensures.value clean inside ready in
    sym (nothing_retired (repo_text c.args.repo.now) c.args.oid.now (tables_in (state g.S.Store begun)) (ap (option_map read_object) (sym c.in_default.is) ∙ found.1)).0)
    (does_on g.S.Store begun last _ (λ t. t) c.in_ok-object.ensures.does)

pub returns-clause-value : goal.returns-clause-value
returns-clause-value g c clean inside ready =
    let mid = clean_before g.S.Store c.object_out.new.tx.conn.now c.name_into.new.tx.conn.now _ c.in_ok-name_into.ensures.does.within clean in
    let late = clean_before g.S.Store c.object_in.new.tx.conn.now c.object_out.new.tx.conn.now _ c.in_ok-object_out.ensures.does.within mid in
    let found = c.in_ok-object.ensures.value late inside ready in
    (found.0, sym (one_retired (repo_text c.args.repo.now) c.args.oid.now (tables_in (state g.S.Store c.args.tx.now.conn.now)) c.in-Some.object (ap (option_map read_object) (sym c.in-Some.is) ∙ found.1)).1)

pub returns-clause-does : goal.returns-clause-does
returns-clause-does g c =
    let repo = repo_text c.args.repo.now in
    let oid = c.args.oid.now in
    let begun = c.args.tx.now.conn.now in
    let found_at = c.object_in.new.tx.conn.now in
    let out_at = c.object_out.new.tx.conn.now in
    let last = c.name_into.new.tx.conn.now in
    let out = c.in_ok-object_out.ensures.does in
    let name = c.in_ok-name_into.ensures.does in
    let removed : Tables → Tables = λ t. with_used repo (used_of repo t -ℤ pos c.in-Some.object.size) (without_upload (upload_number c.in-Some.object.id) t) in
    does_as g.S.Store begun last _ (without_sized repo oid (read_object c.in-Some.object)) (after_retire repo oid)
    (λ clean inside ready.
    let mid = clean_before g.S.Store out_at last _ name.within clean in
    let found = c.in_ok-object.ensures.value (clean_before g.S.Store found_at out_at _ out.within mid) inside ready in
    sym (one_retired repo oid (tables_in (state g.S.Store begun)) c.in-Some.object (ap (option_map read_object) (sym c.in-Some.is) ∙ found.1)).0)
    (does_then g.S.Store begun out_at last _ removed (with_retired repo oid) (does_then g.S.Store begun found_at out_at _ (λ t. t) removed c.in_ok-object.ensures.does out) (does_on g.S.Store out_at last _ (with_retired repo oid) name))
