use Rattle.forms.proofs.Prelude.{◌∙◌, refl, option_map, lock_asked}
use Rattle.forms.proofs.Bodies.{joined}
use Rattle.forms.proofs.Refusals.{at_first, passed_on}
use Rattle.forms.proofs.lock.lock_of.Goals as goal

pub returns-in_err-ref_name : goal.returns-in_err-ref_name
returns-in_err-ref_name c =
    let e = c.in_err-ref_name.field-0.0 in
    passed_on lock_asked e c.from_residual-in_err-ref_name.result _ c.from_residual-in_err-ref_name.ensures.1
    (rw (joined c.args.path.now (option_map (λ s. s.now) c.args.ref_name), c.in_ok-path.ensures) (at_first e _ _ c.in_err-ref_name.ensures))

pub returns : goal.returns
returns c = joined c.args.path.now (option_map (λ s. s.now) c.args.ref_name) ∙ rw (c.in_ok-path.ensures, c.in_ok-ref_name.ensures) refl
