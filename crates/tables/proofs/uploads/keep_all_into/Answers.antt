use Rattle.tables.proofs.Prelude.{◌≡◌, ◌<◌, length, sym, ap, rules, state, with_chunk, tables_in, asked_chunk, begun_as, with_last, with_kept}
use Rattle.tables.proofs.Calls.{does_then, does_as}
use Rattle.tables.proofs.Completing.{no_last, some_last}
use Rattle.tables.proofs.uploads.keep_all_into.Goals as goal

pub returns-then-is_empty-clause-does : goal.returns-then-is_empty-clause-does
returns-then-is_empty-clause-does g c =
    let u = begun_as c.args.upload.now in
    let begun = c.args.tx.now.conn.now in
    let end = c.keep_into.new.tx.conn.now in
    let last = c.args.last.now in
    let none : length last.bytes.items ≡ 0 = search rules in
    does_as g.S.Store begun end _ (with_kept u) (λ t. with_kept u (with_last u.id last t))
    (λ clean inside ready. ap (with_kept u) (sym (no_last u.id last none (tables_in (state g.S.Store begun)))))
    c.keep_into.ensures.does

pub returns-clause-does : goal.returns-clause-does
returns-clause-does g c =
    let u = begun_as c.args.upload.now in
    let begun = c.args.tx.now.conn.now in
    let mid = c.chunk_into.new.tx.conn.now in
    let end = c.keep_into-2.new.tx.conn.now in
    let last = c.args.last.now in
    let added = with_chunk (asked_chunk u.id last.n last.bytes.items) in
    let some : 0 < length last.bytes.items = search rules in
    does_as g.S.Store begun end _ (λ t. with_kept u (added t)) (λ t. with_kept u (with_last u.id last t))
    (λ clean inside ready. ap (with_kept u) (sym (some_last u.id last some (tables_in (state g.S.Store begun)))))
    (does_then g.S.Store begun mid end _ added (with_kept u) (rw c.as_slice.ensures.value at c.in_ok-chunk_into.ensures.does) c.keep_into-2.ensures.does)
