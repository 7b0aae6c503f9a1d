use Rattle.tables.proofs.Prelude.{arith, state, HasCleanDisk}
use Rattle.tables.proofs.Upgrading.{upgrades_by}
use Rattle.tables.proofs.making.later_into.Goals as goal

pub returns-clause-ok : goal.returns-clause-ok
returns-clause-ok g c clean inside when_open =
    let fourth : HasCleanDisk (state g.S.Store c.define-3.new.tx.conn.now) = omega (arith, clean, c.define-4.ensures.within.survives.clean) in
    let third : HasCleanDisk (state g.S.Store c.define-2.new.tx.conn.now) = omega (arith, fourth, c.define-3.ensures.within.survives.clean) in
    let second : HasCleanDisk (state g.S.Store c.define.new.tx.conn.now) = omega (arith, third, c.define-2.ensures.within.survives.clean) in
    let in_second = c.in_ok-define.ensures.within.inside second inside in
    let in_third = c.in_ok-define-2.ensures.within.inside third in_second in
    let in_fourth = c.in_ok-define-3.ensures.within.inside fourth in_third in
    upgrades_by c.args.layout (state g.S.Store c.args.tx.now.conn.now) (state g.S.Store c.define.new.tx.conn.now) (state g.S.Store c.define-2.new.tx.conn.now) (state g.S.Store c.define-3.new.tx.conn.now) (state g.S.Store c.define-4.new.tx.conn.now) _ _ _ _ inside
    c.meta_text.result.now c.insert_meta_text.result.now c.meta_text.ensures c.insert_meta_text.ensures
    (c.in_ok-define.ensures.runs second inside) (c.in_ok-define-2.ensures.runs third in_second) (c.in_ok-define-3.ensures.runs fourth in_third) (c.in_ok-define-4.ensures.runs clean in_fourth) when_open
