use Rattle.tables.proofs.Prelude.{◌↔◌, IfOk, IsTrue, subst, IfOk-weaker}
use Rattle.tables.specs.Schemas.{HasFirst}
use Rattle.tables.proofs.Opened.{old_from}
use Rattle.tables.proofs.schema.has_first_tables.Goals as goal

pub returns-clause-ready : goal.returns-clause-ready
returns-clause-ready g c =
    IfOk-weaker c.has_first.result _ _ (λ first found is.
    old_from g.S.Store c.args.conn.now (g.met.S.Storage.in_order c.args.conn.now.store) c.schema.ensures.live c.requires (subst HasFirst c.schema.ensures.value (found.0 is))) c.has_first.ensures

pub returns-clause-same : goal.returns-clause-same
returns-clause-same g c = subst (λ s. IfOk c.has_first.result (λ first. IsTrue first ↔ HasFirst s)) c.schema.ensures.value c.has_first.ensures
