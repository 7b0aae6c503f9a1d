use Rattle.refinement.proofs.Prelude.{inl, sym, ap, length, subst, ∥∥₁_map, Trees}
use Rattle.refinement.specs.Opening.{AreAmong}
use Rattle.refinement.proofs.opening.open_from.Goals as goal

pub returns-clause-accepts : goal.returns-clause-accepts
returns-clause-accepts g c honest = (c.in_ok-store.store, c.in_ok-store.ensures.found (c.in_ok-start.ensures.honest honest), c.in_ok-start.ensures.accepts)

pub returns-clause-blank : goal.returns-clause-blank
returns-clause-blank g c none honest = c.in_ok-start.ensures.fresh (c.in_ok-store.ensures.empty (c.in_ok-start.ensures.honest honest) none)

pub returns-clause-empty : goal.returns-clause-empty
returns-clause-empty g c none honest = c.in_ok-start.ensures.fresh (c.in_ok-store.ensures.empty (c.in_ok-start.ensures.honest honest) (inl (inl (ap length none))))

pub returns-clause-again : goal.returns-clause-again
returns-clause-again g c bound held honest =
    let was = c.in_ok-start.ensures.honest honest in
    ∥∥₁_map held (λ db. c.in_ok-start.ensures.again honest bound (subst (λ (t : Trees). AreAmong t bound) (sym ((c.in_ok-store.ensures.found was).holds db.0 db.1)) db.2))
