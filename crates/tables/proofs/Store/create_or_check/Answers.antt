use Rattle.tables.proofs.Prelude.{refl, arith, inl, inr, ◌∙◌, IfOk-weaker}
use Rattle.tables.proofs.Once.{same_tables}
use Rattle.tables.specs.Runs.{with_fresh}
use Rattle.tables.proofs.Stores.{ready_unknown}
use Rattle.tables.proofs.Store.create_or_check.Goals as goal

pub returns-clause-ok : goal.returns-clause-ok
unfolding with_fresh
returns-clause-ok g c clean = IfOk-weaker c.create_or_check.result _ _ (λ _ h. elim h [ inl made ↦ inl (made.0, made.2.tables) | inr kept ↦ inr kept ]) (c.create_or_check.ensures.ok clean)

pub returns-clause-stop : goal.returns-clause-stop
unfolding with_fresh
returns-clause-stop g c = record {
  was_honest = λ clean. omega (arith, clean, c.create_or_check.ensures.survives.clean);
  outcomes = λ clean t left. elim (c.create_or_check.ensures.survives.crash clean left.0.trees left.2) [
    | inl old ↦ inl (left.0, left.1, old, left.3)
    | inr new ↦ inr (new.0, left.3 ∙ same_tables left.0 new.1.0 left.1 new.1.2.kept new.1.3 ∙ new.1.2.tables)
  ];
}

pub returns-clause-ready : goal.returns-clause-ready
returns-clause-ready g c = ready_unknown g.S.Store _ c.create_or_check.result refl c.create_or_check.ensures.ready

pub returns-clause-only : goal.returns-clause-only
returns-clause-only g c clean = IfOk-weaker c.create_or_check.result _ _ (λ _ h t left. elim (h left.0 left.1 left.2) [ inl made ↦ inl (made.0, left.3 ∙ made.1) | inr ours ↦ inr (ours.0, left.3 ∙ ours.1) ]) (c.create_or_check.ensures.only clean)
