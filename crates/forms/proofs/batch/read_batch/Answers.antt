use Rattle.forms.proofs.Prelude.{◌∙◌, refl, sym, subst, Reads, batch_asked}
use Rattle.forms.specs.declared.refusal.Refusal.TheVariants as refusal
use Rattle.forms.proofs.Bodies.{batch_by_value}
use Rattle.forms.proofs.Refusals.{at_first, passed_on}
use Rattle.forms.proofs.batch.read_batch.Goals as goal

pub returns-in_err-object : goal.returns-in_err-object
returns-in_err-object c =
    let e = c.in_err-object.field-0.0 in
    passed_on batch_asked e c.from_residual.result _ c.from_residual.ensures.1
    (rw (batch_by_value c.args.body.now) (at_first e _ _ c.in_err-object.ensures))

pub returns-in_err-values : goal.returns-in_err-values
returns-in_err-values c =
    passed_on batch_asked (refusal.Rule c.in_err-values.field-0.0) c.from_residual-in_err-values.result _ c.from_residual-in_err-values.ensures.1
    (batch_by_value c.args.body.now ∙ rw (c.in_ok-object.ensures, c.in_err-values.ensures) refl)

pub returns-in_err-objects : goal.returns-in_err-objects
returns-in_err-objects c =
    let e = c.in_err-objects.field-0.0 in
    passed_on batch_asked e c.from_residual-in_err-objects.result _ c.from_residual-in_err-objects.ensures.1
    (rw (batch_by_value c.args.body.now, c.in_ok-object.ensures, c.in_ok-values.ensures) (at_first e _ _ c.in_err-objects.ensures))

pub returns : goal.returns
returns c =
    subst (Reads batch_asked c.batch_of.result)
    (sym (batch_by_value c.args.body.now ∙ rw (c.in_ok-object.ensures, c.in_ok-values.ensures, c.in_ok-objects.ensures) refl)) c.batch_of.ensures
