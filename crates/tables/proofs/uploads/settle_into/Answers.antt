use Rattle.tables.proofs.Prelude.{true, false, sym, ◌∙◌, state, Tables, tables_in, begun_as, with_last, with_kept, after_settling, clean_before}
use Rattle.tables.proofs.Calls.{does_on, does_then, does_as}
use Rattle.tables.proofs.Completing.{settled, after_settled}
use Rattle.tables.proofs.uploads.settle_into.Goals as goal

pub returns-then-branch-clause-value : goal.returns-then-branch-clause-value
returns-then-branch-clause-value g c clean inside ready =
    let u = begun_as c.args.upload.now in
    let t = tables_in (state g.S.Store c.args.tx.now.conn.now) in
    let found = c.in_ok-is_stored.ensures.value clean inside ready in
    (found.0, sym (settled u t true (found.1 ∙ c.if-branch.true)))

pub returns-then-branch-clause-does : goal.returns-then-branch-clause-does
returns-then-branch-clause-does g c =
    let u = begun_as c.args.upload.now in
    let begun = c.args.tx.now.conn.now in
    let end = c.is_stored.new.tx.conn.now in
    does_as g.S.Store begun end _ (λ t. t) (after_settling c.args.last.now u)
    (λ clean inside ready.
    let found = c.in_ok-is_stored.ensures.value clean inside ready in
    sym (after_settled u (tables_in (state g.S.Store begun)) true (found.1 ∙ c.if-branch.true) c.args.last.now))
    (does_on g.S.Store begun end _ (λ t. t) c.in_ok-is_stored.ensures.does)

pub returns-clause-value : goal.returns-clause-value
returns-clause-value g c clean inside ready =
    let u = begun_as c.args.upload.now in
    let t = tables_in (state g.S.Store c.args.tx.now.conn.now) in
    let found = c.in_ok-is_stored.ensures.value (clean_before g.S.Store c.is_stored.new.tx.conn.now c.keep_all_into.new.tx.conn.now _ c.in_ok-keep_all_into.ensures.does.within clean) inside ready in
    (found.0, sym (settled u t false (found.1 ∙ c.if-branch.false)))

pub returns-clause-does : goal.returns-clause-does
returns-clause-does g c =
    let u = begun_as c.args.upload.now in
    let begun = c.args.tx.now.conn.now in
    let mid = c.is_stored.new.tx.conn.now in
    let end = c.keep_all_into.new.tx.conn.now in
    let keep = c.in_ok-keep_all_into.ensures.does in
    let kept : Tables → Tables = λ t. with_kept u (with_last u.id c.args.last.now t) in
    does_as g.S.Store begun end _ kept (after_settling c.args.last.now u)
    (λ clean inside ready.
    let found = c.in_ok-is_stored.ensures.value (clean_before g.S.Store mid end _ keep.within clean) inside ready in
    sym (after_settled u (tables_in (state g.S.Store begun)) false (found.1 ∙ c.if-branch.false) c.args.last.now))
    (does_then g.S.Store begun mid end _ (λ t. t) kept c.in_ok-is_stored.ensures.does (does_on g.S.Store mid end _ kept keep))
