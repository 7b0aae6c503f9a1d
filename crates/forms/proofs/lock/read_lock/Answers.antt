use Rattle.forms.proofs.Prelude.{◌∙◌, refl, sym, subst, Reads, lock_asked}
use Rattle.forms.specs.declared.refusal.Refusal.TheVariants as refusal
use Rattle.forms.proofs.Bodies.{lock_by_value}
use Rattle.forms.proofs.Refusals.{at_first, passed_on}
use Rattle.forms.proofs.lock.read_lock.Goals as goal

pub returns-in_err-object : goal.returns-in_err-object
returns-in_err-object c =
    let e = c.in_err-object.field-0.0 in
    passed_on lock_asked e c.from_residual.result _ c.from_residual.ensures.1 (rw (lock_by_value c.args.body.now) (at_first e _ _ c.in_err-object.ensures))

pub returns-in_err-path : goal.returns-in_err-path
returns-in_err-path c =
    passed_on lock_asked (refusal.Rule c.in_err-path.field-0.0) c.from_residual-in_err-path.result _ c.from_residual-in_err-path.ensures.1
    (lock_by_value c.args.body.now ∙ rw (c.in_ok-object.ensures, c.in_err-path.ensures) refl)

pub returns : goal.returns
returns c =
    subst (Reads lock_asked c.lock_of.result) (sym (lock_by_value c.args.body.now ∙ rw (c.in_ok-object.ensures, c.in_ok-path.ensures) refl)) c.lock_of.ensures
