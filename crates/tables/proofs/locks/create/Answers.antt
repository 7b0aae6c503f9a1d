use Rattle.tables.proofs.Prelude.{refl, rules, IsOutcomeOf, asked_lock, after_create}
use Rattle.tables.proofs.Calls.{transacts_from}
use Rattle.tables.proofs.locks.create.Goals as goal

pub returns : goal.returns
returns g c =
    let lock = asked_lock c.args.lock.now in
    let it = transacts_from g.S.Store c.args.conn.now c.transaction-tx.result.conn.now c.create_into.new.tx.conn.now c.finish_with.new.tx.0 c.finish_with.result c.in_ok-creation.creation c.transaction-tx.ensures.begun c.finish_with.ensures.finishes
    (after_create lock) (IsOutcomeOf lock) (c.if-not-is_autocommit.ensures.settled refl) (g.met.S.Store.settled c.finish_with.new.tx.0.store)
    c.in_ok-creation.ensures.value c.in_ok-creation.ensures.does c.finish_with.ensures.answer in
    search (rules, it)
