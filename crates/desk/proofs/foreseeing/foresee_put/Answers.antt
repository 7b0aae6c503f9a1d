use Rattle.desk.proofs.Prelude.{◌≡◌, ◌∙◌, Ok, Err, refl, sym, ap, length, put_asked, put_verdict, receives, case_with}
use Rattle.model.specs.Views.{plan_reply}
use Rattle.desk.specs.Views.{state_seen}
use Rattle.desk.specs.declared.outcomes.NotGranted.TheVariants as not_granted
use Rattle.desk.proofs.Foreseen.{confirmed, differs, shows_permit}
use Rattle.desk.proofs.foreseeing.foresee_put.Goals as goal

pub returns-in_err-may_upload : goal.returns-in_err-may_upload
returns-in_err-may_upload c same who user repo =
    let v = c.args.reader.now.view.now in
    shows_permit c.in_err-may_upload.field-0.0 c.from_residual.result repo c.args.body.now (receives (put_asked c.args.asked.now).name) (put_verdict (case_with c.args.case.now who (state_seen v)) (length c.args.body.now) (put_asked c.args.asked.now)) c.from_residual.ensures.1
    (c.in_err-may_upload.ensures.each tt (state_seen v) (sym same, refl) who user)

pub returns-then-eq : goal.returns-then-eq
returns-then-eq c same who user repo =
    let v = c.args.reader.now.view.now in
    confirmed repo (put_asked c.args.asked.now).name c.args.body.now c.in-Some.name c.confirmation.result _ (c.in_ok-may_upload.ensures.each tt (state_seen v) (sym same, refl) who user) c.in-Some.ensures (sym c.eq.ensures ∙ c.if-eq.true) c.confirmation.ensures.stored

pub returns-else-eq : goal.returns-else-eq
returns-else-eq c same who user repo =
    let v = c.args.reader.now.view.now in
    differs repo (put_asked c.args.asked.now).name c.args.body.now c.in-Some.name (Err c.into-else-eq.result) _ (c.in_ok-may_upload.ensures.each tt (state_seen v) (sym same, refl) who user) c.in-Some.ensures (sym c.eq.ensures ∙ c.if-eq.false) c.into-else-eq.ensures
