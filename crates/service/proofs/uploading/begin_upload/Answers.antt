use Rattle.service.proofs.Prelude.{◌∙◌, sym, From, Keeps, OnOk, from_weaker, leads_none}
use Rattle.policy.specs.Values.{policy_view}
use Rattle.refinement.proofs.Leading.{keeps_still}
use Rattle.desk.proofs.Staying.{keeps_within}
use Rattle.desk.specs.Receiving.{IsReceiving}
use Rattle.service.proofs.Uploads.{begun_taken, succeeded}
use Rattle.service.proofs.uploading.begin_upload.Goals as goal

pub returns-in_err-asked-clause-bounded : goal.returns-in_err-asked-clause-bounded
returns-in_err-asked-clause-bounded g c = record {
  honest = λ h. h;
  each = λ honest world holds.
      let old = c.args.store.now in
      keeps_within g.S.State old old (policy_view c.args.terms.policy.now) world
      (keeps_still g.S.State old old world (leads_none g.S.State old world holds));
}

pub returns-in_err-ok-clause-kept : goal.returns-in_err-ok-clause-kept
returns-in_err-ok-clause-kept g c =
    from_weaker g.S.State c.args.store.now c.take.new.store _ _ (λ world it. it.0)
    (begun_taken g.S.State _ _ _ _ _ c.in_ok-asked.field-0.part.now c.take.result
    c.in_ok-receiving.ensures.kept c.in_ok-receiving.ensures.begun c.take.ensures.taken)

pub returns-in_err-ok-clause-bounded : goal.returns-in_err-ok-clause-bounded
returns-in_err-ok-clause-bounded g c =
    from_weaker g.S.State c.args.store.now c.take.new.store _ _ (keeps_within g.S.State _ _ (policy_view c.args.terms.policy.now))
    (returns-in_err-ok-clause-kept g c)

pub returns-clause-kept : goal.returns-clause-kept
returns-clause-kept g c =
    from_weaker g.S.State c.args.store.now c.take.new.store _ _ (λ world it. it.0)
    (begun_taken g.S.State _ _ _ _ _ c.in_ok-asked.field-0.part.now c.take.result
    c.in_ok-receiving.ensures.kept c.in_ok-receiving.ensures.begun c.take.ensures.taken)

pub returns-clause-bounded : goal.returns-clause-bounded
returns-clause-bounded g c =
    from_weaker g.S.State c.args.store.now c.take.new.store _ _ (keeps_within g.S.State _ _ (policy_view c.args.terms.policy.now))
    (returns-clause-kept g c)

pub returns-clause-begun : goal.returns-clause-begun
returns-clause-begun g c =
    from_weaker g.S.State c.args.store.now c.take.new.store _ _
    (λ world it. record {
      part = c.in_ok-asked.field-0.part.now;
      message = c.in_ok-asked.ensures;
      arrived = succeeded c.take.result c.in_ok-ok.field-0 (sym c.in_ok-ok.was ∙ c.ok.ensures.value) it.1;
      size = c.take.ensures.size ∙ c.in_ok-receiving.ensures.size;
    })
    (begun_taken g.S.State _ _ _ _ _ c.in_ok-asked.field-0.part.now c.take.result
    c.in_ok-receiving.ensures.kept c.in_ok-receiving.ensures.begun c.take.ensures.taken)
