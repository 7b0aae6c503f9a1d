use Rattle.forms.proofs.Prelude.{◌∙◌, list_asked}
use Rattle.forms.specs.declared.refusal.Refusal.TheVariants as refusal
use Rattle.forms.proofs.Queries.{list_by_keys}
use Rattle.forms.proofs.Refusals.{at_first, passed_on}
use Rattle.forms.proofs.list.read_list.Goals as goal

pub returns-in_err-texts : goal.returns-in_err-texts
returns-in_err-texts c =
    let e = c.in_err-texts.field-0.0 in
    passed_on list_asked e c.from_residual.result _ c.from_residual.ensures.1
    (rw (list_by_keys c.args.query.now) (at_first e _ _ c.in_err-texts.ensures))

pub returns-in_err-list_of : goal.returns-in_err-list_of
returns-in_err-list_of c =
    passed_on list_asked (refusal.Rule c.in_err-list_of.field-0.0) c.from_residual-in_err-list_of.result _ c.from_residual-in_err-list_of.ensures.1
    (list_by_keys c.args.query.now ∙ rw c.in_ok-texts.ensures c.in_err-list_of.ensures)

pub returns : goal.returns
returns c = list_by_keys c.args.query.now ∙ rw c.in_ok-texts.ensures c.in_ok-list_of.ensures
