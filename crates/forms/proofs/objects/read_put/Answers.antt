use Rattle.forms.proofs.Prelude.{◌∙◌, refl, put_asked}
use Rattle.forms.specs.declared.refusal.Refusal.TheVariants as refusal
use Rattle.forms.proofs.Queries.{put_by_name}
use Rattle.forms.proofs.Refusals.{at_first, passed_on}
use Rattle.forms.proofs.objects.read_put.Goals as goal

pub returns-in_err-name : goal.returns-in_err-name
returns-in_err-name c =
    passed_on put_asked (refusal.Rule c.in_err-name.field-0.0) c.from_residual.result _ c.from_residual.ensures.1
    (put_by_name c.args.parameter.now c.args.query.now ∙ rw (← c.in_err-name.ensures) refl)

pub returns-in_err-ref_name : goal.returns-in_err-ref_name
returns-in_err-ref_name c =
    let e = c.in_err-ref_name.field-0.0 in
    passed_on put_asked e c.from_residual-in_err-ref_name.result _ c.from_residual-in_err-ref_name.ensures.1
    (rw (put_by_name c.args.parameter.now c.args.query.now, ← c.in_ok-name.ensures) (at_first e _ _ c.in_err-ref_name.ensures))

pub returns : goal.returns
returns c =
    put_by_name c.args.parameter.now c.args.query.now ∙ rw (← c.in_ok-name.ensures, c.in_ok-ref_name.ensures) refl
