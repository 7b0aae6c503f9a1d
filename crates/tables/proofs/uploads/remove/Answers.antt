use Rattle.tables.proofs.Prelude.{◌≡◌, is_some, refl, rules, without_staged}
use Rattle.tables.specs.Staging.{staged_with}
use Rattle.tables.proofs.Calls.{transacts_from}
use Rattle.tables.proofs.uploads.remove.Goals as goal

pub returns : goal.returns
returns g c =
    let it = transacts_from g.S.Store c.args.conn.now c.transaction-tx.result.conn.now c.remove_into.new.tx.conn.now c.finish_with.new.tx.0 c.finish_with.result c.in_ok-removed.removed c.transaction-tx.ensures.begun c.finish_with.ensures.finishes
    (without_staged c.args.id.number) (λ t removed. removed ≡ is_some (staged_with c.args.id.number t))
    (c.if-not-is_autocommit.ensures.settled refl) (g.met.S.Store.settled c.finish_with.new.tx.0.store)
    c.in_ok-removed.ensures.value c.in_ok-removed.ensures.does c.finish_with.ensures.answer in
    search (rules, it)
