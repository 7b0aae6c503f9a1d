use Rattle.forms.proofs.Prelude.{ap, sym, J1, ok_or}
use Rattle.forms.proofs.Bodies.{no_text, value_is}
use Rattle.forms.proofs.Refusals.{by_rule}
use Rattle.forms.proofs.body.value_of.Goals as goal

pub returns-in_default : goal.returns-in_default
returns-in_default c =
    by_rule c.into.result J1 _ c.into.ensures (ap (λ o. ok_or o J1) (sym (no_text c.args.body.now c.in_default.ensures.cases.0)))

pub returns-in-Ok-from_str : goal.returns-in-Ok-from_str
returns-in-Ok-from_str c =
    ap (λ o. ok_or o J1) (sym (value_is c.args.body.now c.in-Ok.text.now _ c.in-Ok.ensures.cases.0 c.in-Ok.ensures.cases.1 c.in-Ok-from_str.ensures.ok))
