use Rattle.tables.proofs.Prelude.{◌↔◌, IfOk, IsTrue, subst, IfOk-weaker, HasAll}
use Rattle.tables.specs.Layout.{version_of}
use Rattle.tables.proofs.Opened.{ready_from}
use Rattle.tables.proofs.schema.has_our_tables.Goals as goal

pub returns-clause-ready : goal.returns-clause-ready
returns-clause-ready g c =
    IfOk-weaker c.has_all.result _ _ (λ all found is.
    ready_from g.S.Store c.args.conn.now (g.met.S.Storage.in_order c.args.conn.now.store) c.schema.ensures.live c.requires c.args.layout (subst (HasAll (version_of c.args.layout)) c.schema.ensures.value (found.0 is))) c.has_all.ensures

pub returns-clause-same : goal.returns-clause-same
returns-clause-same g c = subst (λ s. IfOk c.has_all.result (λ all. IsTrue all ↔ HasAll (version_of c.args.layout) s)) c.schema.ensures.value c.has_all.ensures
