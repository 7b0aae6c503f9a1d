use Rattle.tables.proofs.Prelude.{ap, not, ◌∙◌, state, with_token, asked_token, after_add, tables_in, clean_before}
use Rattle.tables.proofs.Calls.{does_on, does_then, does_as}
use Rattle.tables.proofs.Creating.{kept_if_there, added_if_new}
use Rattle.tables.proofs.tokens.add_into.Goals as goal

pub returns-then-not-branch-clause-does : goal.returns-then-not-branch-clause-does
returns-then-not-branch-clause-does g c =
    let token = asked_token c.args.token.now in
    let begun = c.args.tx.now.conn.now in
    let last = c.is_free.new.tx.conn.now in
    does_as g.S.Store begun last _ (λ t. t) (after_add token)
    (λ clean inside ready. kept_if_there token (tables_in (state g.S.Store begun)) (rw c.as_slice.ensures at ((c.in_ok-is_free.ensures.value clean inside ready).1) ∙ ap not c.if-not-branch.true))
    (does_on g.S.Store begun last _ (λ t. t) c.in_ok-is_free.ensures.does)

pub returns-clause-does : goal.returns-clause-does
returns-clause-does g c =
    let token = asked_token c.args.token.now in
    let begun = c.args.tx.now.conn.now in
    let after = c.is_free.new.tx.conn.now in
    let last = c.token_into.new.tx.conn.now in
    does_as g.S.Store begun last _ (with_token token) (after_add token)
    (λ clean inside ready.
    let before = clean_before g.S.Store after last _ c.in_ok-token_into.ensures.does.within clean in
    added_if_new token (tables_in (state g.S.Store begun)) (rw c.as_slice.ensures at ((c.in_ok-is_free.ensures.value before inside ready).1) ∙ ap not c.if-not-branch.false))
    (does_then g.S.Store begun after last _ (λ t. t) (with_token token) c.in_ok-is_free.ensures.does (does_on g.S.Store after last _ (with_token token) c.in_ok-token_into.ensures.does))
