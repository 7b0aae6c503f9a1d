use Rattle.forms.proofs.Prelude.{◌∙◌, refl, unlock_asked}
use Rattle.forms.specs.declared.refusal.Refusal.TheVariants as refusal
use Rattle.forms.proofs.Bodies.{unlock_by_value}
use Rattle.forms.proofs.Refusals.{at_first, passed_on}
use Rattle.forms.proofs.unlock.read_unlock.Goals as goal

pub returns-in_err-object : goal.returns-in_err-object
returns-in_err-object c =
    let e = c.in_err-object.field-0.0 in
    passed_on unlock_asked e c.from_residual.result _ c.from_residual.ensures.1
    (rw (unlock_by_value c.args.parameter.now c.args.body.now) (at_first e _ _ c.in_err-object.ensures))

pub returns-in_err-force : goal.returns-in_err-force
returns-in_err-force c =
    passed_on unlock_asked (refusal.Rule c.in_err-force.field-0.0) c.from_residual-in_err-force.result _ c.from_residual-in_err-force.ensures.1
    (unlock_by_value c.args.parameter.now c.args.body.now ∙ rw (c.in_ok-object.ensures, c.in_err-force.ensures) refl)

pub returns-in_err-unlock_of : goal.returns-in_err-unlock_of
returns-in_err-unlock_of c =
    passed_on unlock_asked (refusal.Rule c.in_err-unlock_of.field-0.0) c.from_residual-in_err-unlock_of.result _ c.from_residual-in_err-unlock_of.ensures.1
    (unlock_by_value c.args.parameter.now c.args.body.now ∙ rw (c.in_ok-object.ensures, c.in_ok-force.ensures) c.in_err-unlock_of.ensures)

pub returns : goal.returns
returns c =
    unlock_by_value c.args.parameter.now c.args.body.now ∙ rw (c.in_ok-object.ensures, c.in_ok-force.ensures) c.in_ok-unlock_of.ensures
