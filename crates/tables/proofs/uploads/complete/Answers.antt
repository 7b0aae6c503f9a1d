use Rattle.tables.proofs.Prelude.{◌≡◌, Some, pos, refl, rules, completion_of, after_complete}
use Rattle.tables.proofs.Calls.{transacts_from}
use Rattle.tables.proofs.uploads.complete.Goals as goal

pub returns : goal.returns
returns g c =
    let it = transacts_from g.S.Store c.args.conn.now c.transaction-tx.result.conn.now c.complete_into.new.tx.conn.now c.finish_with.new.tx.0 c.finish_with.result c.in_ok-completion.completion c.transaction-tx.ensures.begun c.finish_with.ensures.finishes
    (after_complete c.args.id.number c.args.last.now c.args.oid.now (pos c.args.size)) (λ t completion. completion_of c.args.id.number c.args.oid.now (pos c.args.size) t ≡ Some completion)
    (c.if-not-is_autocommit.ensures.settled refl) (g.met.S.Store.settled c.finish_with.new.tx.0.store)
    c.in_ok-completion.ensures.value c.in_ok-completion.ensures.does c.finish_with.ensures.answer in
    search (rules, it)
