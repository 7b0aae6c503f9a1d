use Rattle.refinement.proofs.TakenUp.{migrates, as_accepted, is_found, is_migrated, none_is_new, told, if_ok_on}
use Rattle.refinement.proofs.opening.migrate.Goals as goal

pub returns-clause-migrates : goal.returns-clause-migrates
returns-clause-migrates g c =
    let e = c.migrate.ensures in
    migrates g.S.Store c.args.store.now c.migrate.new.self c.migrate.result e.ready e.version e.ok e.safe e.only

pub returns-clause-migrated : goal.returns-clause-migrated
returns-clause-migrated g c honest is world laws was =
    let e = c.migrate.ensures in
    let it = migrates g.S.Store c.args.store.now c.migrate.new.self c.migrate.result e.ready e.version e.ok e.safe e.only in
    is_migrated g.S.Store c.args.store.now c.migrate.new.self (told g.S.Store c.args.store.now c.migrate.new.self c.migrate.result _ is it) honest world laws was

pub returns-clause-fresh : goal.returns-clause-fresh
returns-clause-fresh g c none =
    let e = c.migrate.ensures in
    if_ok_on c.migrate.result (λ m by. none_is_new g.S.Store c.args.store.now c.migrate.new.self none m by) (migrates g.S.Store c.args.store.now c.migrate.new.self c.migrate.result e.ready e.version e.ok e.safe e.only)

pub returns-clause-found : goal.returns-clause-found
returns-clause-found g c honest is world laws ours was =
    let e = c.migrate.ensures in
    let it = migrates g.S.Store c.args.store.now c.migrate.new.self c.migrate.result e.ready e.version e.ok e.safe e.only in
    is_found g.S.Store c.args.store.now c.migrate.new.self (as_accepted g.S.Store c.args.store.now c.migrate.new.self (told g.S.Store c.args.store.now c.migrate.new.self c.migrate.result _ is it)) world laws (λ _. (ours, was))
