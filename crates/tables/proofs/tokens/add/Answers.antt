use Rattle.tables.proofs.Prelude.{◌≡◌, not, Ok, refl, rules, asked_token, has_token, after_add}
use Rattle.tables.proofs.Calls.{transacts_from, does_on}
use Rattle.tables.proofs.tokens.add.Goals as goal

pub returns : goal.returns
returns g c =
    let it = transacts_from g.S.Store c.args.conn.now c.transaction-tx.result.conn.now c.add_into.new.tx.conn.now c.finish_with.new.tx.0 c.finish_with.result c.in_ok-added.added c.transaction-tx.ensures.begun c.finish_with.ensures.finishes
    (after_add (asked_token c.args.token.now)) (λ t added. has_token c.args.token.now.digest.now t ≡ not added)
    (c.if-not-is_autocommit.ensures.settled refl) (g.met.S.Store.settled c.finish_with.new.tx.0.store)
    c.in_ok-added.ensures.value (does_on g.S.Store c.transaction-tx.result.conn.now c.add_into.new.tx.conn.now (Ok c.in_ok-added.added) (after_add (asked_token c.args.token.now)) c.in_ok-added.ensures.does) c.finish_with.ensures.answer in
    search (rules, it)
