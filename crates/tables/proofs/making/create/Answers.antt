use Rattle.tables.proofs.Prelude.{refl, rules, [], Ok, IsTrue, sym, subst, Held, state, IsBlank, Steps, with_fresh, goes_on}
use Rattle.tables.specs.Layout.{version_of}
use Rattle.tables.proofs.Calls.{commits_from}
use Rattle.tables.proofs.making.create.Goals as goal

pub returns : goal.returns
returns g c =
    let it = commits_from g.S.Store c.args.conn.now c.transaction-tx.result.conn.now c.fresh_into.new.tx.conn.now c.finish.new.tx.0 c.finish.result c.in_ok-fresh_into.field-0 c.transaction-tx.ensures.begun c.finish.ensures
    {Given = IsTrue (state g.S.Store c.args.conn.now).is_open → IsBlank [] (state g.S.Store c.args.conn.now).now} (with_fresh (version_of c.args.layout) (state g.S.Store c.args.conn.now).now.schema) (c.if-not-is_autocommit.ensures.settled refl) (g.met.S.Store.settled c.finish.new.tx.0.store) (goes_on g.S.Store c.transaction-tx.result.conn.now c.fresh_into.new.tx.conn.now (Ok c.in_ok-fresh_into.field-0) c.in_ok-fresh_into.ensures.within)
    (λ blank clean inside. subst (λ (h : Held _). Steps (with_fresh (version_of c.args.layout) (state g.S.Store h).now.schema) (state g.S.Store c.transaction-tx.result.conn.now) (state g.S.Store c.fresh_into.new.tx.conn.now)) c.transaction-tx.ensures.begun (c.in_ok-fresh_into.ensures.ok clean inside (subst (λ (h : Held _). IsTrue (state g.S.Store h).is_open → IsBlank [] (state g.S.Store h).now) (sym c.transaction-tx.ensures.begun) blank))) in
    search (rules, it)
