use Rattle.tables.proofs.Prelude.{arith, refl, rules, Ok, HasCleanDisk, sym, subst, Held, state, on_ok_weaker, goes_on}
use Rattle.tables.specs.Runs.{IsReadyOld, migrated}
use Rattle.tables.proofs.Calls.{commits_from}
use Rattle.tables.proofs.making.upgrade.Goals as goal

pub returns : goal.returns
returns g c =
    let it = commits_from g.S.Store c.args.conn.now c.transaction-tx.result.conn.now c.later_into.new.tx.conn.now c.finish.new.tx.0 c.finish.result c.in_ok-later_into.field-0 c.transaction-tx.ensures.begun c.finish.ensures
    {Given = IsReadyOld (state g.S.Store c.args.conn.now)} migrated (c.if-not-is_autocommit.ensures.settled refl) (g.met.S.Store.settled c.finish.new.tx.0.store) (goes_on g.S.Store c.transaction-tx.result.conn.now c.later_into.new.tx.conn.now (Ok c.in_ok-later_into.field-0) c.in_ok-later_into.ensures.within)
    (λ old clean inside.
    let before : HasCleanDisk (state g.S.Store c.transaction-tx.result.conn.now) = omega (arith, clean, c.later_into.ensures.within.survives.clean) in
    c.in_ok-later_into.ensures.ok clean inside (subst (λ (h : Held _). IsReadyOld (state g.S.Store h)) (sym c.transaction-tx.ensures.begun) old before)) in
    record {
      ok = λ clean old. search (rules, it.ok);
      is_open = λ clean. search (rules, it.is_open);
      saved = λ clean. on_ok_weaker c.finish.result (λ s trees left. search (rules, s)) (it.saved (search rules));
      err = λ clean. search (rules, it.err);
      clean = λ clean. search (rules, it.clean);
      stop = λ old. search (rules, it.stop old);
    }
