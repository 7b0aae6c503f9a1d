use Rattle.tables.proofs.Prelude.{◌≡◌, refl, arith, inl, inr, sym, ◌∙◌, Ok, Err, Result, IfOk}
use Rattle.tables.proofs.Stores.{ready_unknown}
use Rattle.tables.proofs.MigratedStores.{migrates_to, leaves_migrated, adds_migrated}
use Rattle.tables.proofs.Store.migrate.Goals as goal

pub returns-clause-ready : goal.returns-clause-ready
returns-clause-ready g c = ready_unknown g.S.Store _ c.migrate.result refl c.migrate.ensures.ready

pub returns-clause-ok : goal.returns-clause-ok
returns-clause-ok g c clean = migrates_to g.S.Store c.args.self.now c.migrate.new.conn c.migrate.result (c.migrate.ensures.ok clean)

pub returns-clause-only : goal.returns-clause-only
returns-clause-only g c clean = leaves_migrated g.S.Store c.args.self.now c.migrate.new.conn c.migrate.result (c.migrate.ensures.only clean)

pub returns-clause-stop : goal.returns-clause-stop
returns-clause-stop g c = adds_migrated g.S.Store c.args.self.now c.migrate.new.conn c.migrate.ensures.survives
