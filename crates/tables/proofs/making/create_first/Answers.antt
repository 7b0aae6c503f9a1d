use Rattle.tables.proofs.Prelude.{arith, rules, refl, sym, subst, Held, Database, [], IsTrue, OnOk, on_ok_weaker, state, IsBlank, HasCleanDisk}
use Rattle.tables.specs.Layout.{version_one}
use Rattle.tables.specs.Rows.{parts_of}
use Rattle.tables.proofs.making.create_first.Goals as goal

pub returns : goal.returns
returns g c =
    let begun = c.transaction-tx.ensures.begun in
    let it : HasCleanDisk (state g.S.Store c.finish.new.tx.0) → IsBlank [] (state g.S.Store c.args.conn.now).now → OnOk c.finish.result (IsBlank (parts_of version_one) (state g.S.Store c.finish.new.tx.0).now) = λ clean blank.
    let before : HasCleanDisk (state g.S.Store c.first_into.new.tx.conn.now) = omega (arith, clean, c.finish.ensures.survives.clean) in
    let made = c.in_ok-first_into.ensures.ok before (subst (λ (h : Held _). IsTrue h.in_transaction) (sym begun) refl) in
    let six = (made.blank (subst (λ (h : Held _). IsBlank [] (state g.S.Store h).now) (sym begun) blank)).0 in
    on_ok_weaker c.finish.result (λ shown. subst (λ (d : Database). IsBlank (parts_of version_one) d) (sym shown.now_is) six) (c.finish.ensures.ok clean) in
    search (rules, it)
