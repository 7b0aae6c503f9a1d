use Rattle.std.proofs.lemmas.Result.{on_ok_weaker}
use Rattle.refinement.proofs.TakenUp.{accepts, is_new, is_found, is_one, committed_among, both_ok}
use Rattle.refinement.proofs.opening.start.Goals as goal

pub returns-clause-accepts : goal.returns-clause-accepts
returns-clause-accepts g c =
    let e = c.create_or_check.ensures in
    accepts g.S.Store c.args.store.now c.create_or_check.new.self c.create_or_check.result e.ready e.version e.ok e.safe e.only

pub returns-clause-fresh : goal.returns-clause-fresh
returns-clause-fresh g c none =
    let e = c.create_or_check.ensures in
    on_ok_weaker c.create_or_check.result (λ a. is_new g.S.Store c.args.store.now c.create_or_check.new.self a none) (accepts g.S.Store c.args.store.now c.create_or_check.new.self c.create_or_check.result e.ready e.version e.ok e.safe e.only)

pub returns-clause-found : goal.returns-clause-found
returns-clause-found g c world laws was =
    let e = c.create_or_check.ensures in
    on_ok_weaker c.create_or_check.result (λ a. is_found g.S.Store c.args.store.now c.create_or_check.new.self a world laws was) (accepts g.S.Store c.args.store.now c.create_or_check.new.self c.create_or_check.result e.ready e.version e.ok e.safe e.only)

pub returns-clause-empty : goal.returns-clause-empty
returns-clause-empty g c honest listed =
    let e = c.create_or_check.ensures in
    both_ok c.create_or_check.result (λ a none. is_new g.S.Store c.args.store.now c.create_or_check.new.self a none)
    (accepts g.S.Store c.args.store.now c.create_or_check.new.self c.create_or_check.result e.ready e.version e.ok e.safe e.only) (e.empty honest listed)

pub returns-clause-again : goal.returns-clause-again
returns-clause-again g c honest bound among =
    let e = c.create_or_check.ensures in
    both_ok c.create_or_check.result (λ a ours. is_one g.S.Store c.args.store.now c.create_or_check.new.self a ours bound (committed_among g.S.Store c.args.store.now c.create_or_check.new.self among.0 bound ours among.2 among.3))
    (accepts g.S.Store c.args.store.now c.create_or_check.new.self c.create_or_check.result e.ready e.version e.ok e.safe e.only) (e.ours honest among.0 among.1 among.2)
