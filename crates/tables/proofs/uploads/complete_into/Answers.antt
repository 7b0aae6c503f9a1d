use Rattle.tables.proofs.Prelude.{◌≡◌, pos, true, false, Some, option_map, ap, sym, ◌∙◌, rules, IfOk-weaker, state, tables_in, begun_as, read_upload, is_as_begun, settled_as, after_settling, after_complete, clean_before}
use Rattle.tables.proofs.Calls.{ready_after, does_on, does_then, does_as}
use Rattle.tables.proofs.Completing.{differs, settles}
use Rattle.tables.proofs.uploads.complete_into.Goals as goal

pub returns-then-not-is_as_begun-clause-value : goal.returns-then-not-is_as_begun-clause-value
returns-then-not-is_as_begun-clause-value g c clean inside ready =
    let t = tables_in (state g.S.Store c.args.tx.now.conn.now) in
    let found = c.in_ok-upload.ensures.value clean inside ready in
    let other : is_as_begun c.args.oid.now (pos c.args.size) (begun_as c.in-Some.upload) ≡ false = search rules in
    (found.0, (differs c.in-Some.upload c.args.id.number t (ap (option_map read_upload) (sym c.in-Some.is) ∙ found.1) c.args.oid.now (pos c.args.size) c.args.last.now other).0)

pub returns-then-not-is_as_begun-clause-does : goal.returns-then-not-is_as_begun-clause-does
returns-then-not-is_as_begun-clause-does g c =
    let begun = c.args.tx.now.conn.now in
    let last = c.staged_in.new.tx.conn.now in
    does_as g.S.Store begun last _ (λ t. t) (after_complete c.args.id.number c.args.last.now c.args.oid.now (pos c.args.size))
    (λ clean inside ready.
    let found = c.in_ok-upload.ensures.value clean inside ready in
    let other : is_as_begun c.args.oid.now (pos c.args.size) (begun_as c.in-Some.upload) ≡ false = search rules in
    sym (differs c.in-Some.upload c.args.id.number (tables_in (state g.S.Store begun)) (ap (option_map read_upload) (sym c.in-Some.is) ∙ found.1) c.args.oid.now (pos c.args.size) c.args.last.now other).1)
    (does_on g.S.Store begun last _ (λ t. t) c.in_ok-upload.ensures.does)

pub returns-clause-value : goal.returns-clause-value
returns-clause-value g c clean inside ready =
    let begun = c.args.tx.now.conn.now in
    let mid = c.staged_in.new.tx.conn.now in
    let t = tables_in (state g.S.Store begun) in
    let upload = c.in_ok-upload.ensures in
    let late = clean_before g.S.Store mid c.settle_into.new.tx.conn.now _ c.settle_into.ensures.does.within clean in
    let found = upload.value late inside ready in
    let step = upload.does.ok late inside ready in
    let same : is_as_begun c.args.oid.now (pos c.args.size) (begun_as c.in-Some.upload) ≡ true = search rules in
    let is = (settles c.in-Some.upload c.args.id.number t (ap (option_map read_upload) (sym c.in-Some.is) ∙ found.1) c.args.oid.now (pos c.args.size) c.args.last.now same).0 in
    IfOk-weaker c.settle_into.result _ _ (λ _ it. (found.0, is ∙ ap Some (sym (it.1 ∙ ap (settled_as (begun_as c.in-Some.upload)) step.tables))))
    (c.settle_into.ensures.value clean (upload.does.within.inside late inside) (ready_after (λ t. t) (state g.S.Store begun) (state g.S.Store mid) step))

pub returns-clause-does : goal.returns-clause-does
returns-clause-does g c =
    let begun = c.args.tx.now.conn.now in
    let mid = c.staged_in.new.tx.conn.now in
    let last = c.settle_into.new.tx.conn.now in
    let settle = after_settling c.args.last.now (begun_as c.in-Some.upload) in
    does_as g.S.Store begun last _ settle (after_complete c.args.id.number c.args.last.now c.args.oid.now (pos c.args.size))
    (λ clean inside ready.
    let found = c.in_ok-upload.ensures.value (clean_before g.S.Store mid last _ c.settle_into.ensures.does.within clean) inside ready in
    let same : is_as_begun c.args.oid.now (pos c.args.size) (begun_as c.in-Some.upload) ≡ true = search rules in
    sym (settles c.in-Some.upload c.args.id.number (tables_in (state g.S.Store begun)) (ap (option_map read_upload) (sym c.in-Some.is) ∙ found.1) c.args.oid.now (pos c.args.size) c.args.last.now same).1)
    (does_then g.S.Store begun mid last _ (λ t. t) settle c.in_ok-upload.ensures.does c.settle_into.ensures.does)
