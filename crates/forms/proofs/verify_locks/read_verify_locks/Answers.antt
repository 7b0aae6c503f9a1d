use Rattle.forms.proofs.Prelude.{◌∙◌, refl, sym, subst, Reads, verify_locks_asked}
use Rattle.forms.specs.declared.refusal.Refusal.TheVariants as refusal
use Rattle.forms.proofs.Bodies.{verify_locks_by_value}
use Rattle.forms.proofs.Refusals.{at_first, passed_on}
use Rattle.forms.proofs.verify_locks.read_verify_locks.Goals as goal

pub returns-in_err-object : goal.returns-in_err-object
returns-in_err-object c =
    let e = c.in_err-object.field-0.0 in
    passed_on verify_locks_asked e c.from_residual.result _ c.from_residual.ensures.1
    (rw (verify_locks_by_value c.args.body.now) (at_first e _ _ c.in_err-object.ensures))

pub returns-in_err-values : goal.returns-in_err-values
returns-in_err-values c =
    passed_on verify_locks_asked (refusal.Rule c.in_err-values.field-0.0) c.from_residual-in_err-values.result _ c.from_residual-in_err-values.ensures.1
    (verify_locks_by_value c.args.body.now ∙ rw (c.in_ok-object.ensures, c.in_err-values.ensures) refl)

pub returns : goal.returns
returns c =
    subst (Reads verify_locks_asked c.verify_locks_of.result) (sym (verify_locks_by_value c.args.body.now ∙ rw (c.in_ok-object.ensures, c.in_ok-values.ensures) refl)) c.verify_locks_of.ensures
