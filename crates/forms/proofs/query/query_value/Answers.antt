use Rattle.forms.proofs.Prelude.{◌∙◌, Ok, ap, refl, sym, option_map, string_bytes, cow_str_bytes}
use Rattle.forms.proofs.Queries.{by_only, empty_is_missing, other_is_given}
use Rattle.forms.proofs.Refusals.{at_first, passed_on}
use Rattle.forms.proofs.query.query_value.Goals as goal

pub returns-in_err-value : goal.returns-in_err-value
returns-in_err-value c =
    let e = c.in_err-value.field-0.0 in
    passed_on (option_map string_bytes) e c.from_residual.result _ c.from_residual.ensures.1
    (rw (by_only c.args.key.now c.args.query.now) (at_first e _ _ c.in_err-value.ensures))

pub returns-in_default : goal.returns-in_default
returns-in_default c = by_only c.args.key.now c.args.query.now ∙ rw (c.in_ok-value.ensures, c.in_default.is) refl

pub returns-then-is_empty : goal.returns-then-is_empty
returns-then-is_empty c =
    by_only c.args.key.now c.args.query.now
    ∙ rw (c.in_ok-value.ensures, c.in-Some.is) (ap Ok (empty_is_missing (cow_str_bytes c.in-Some.value) (rw c.as_str.ensures.value at (sym c.if-is_empty.ensures))))

pub returns : goal.returns
returns c =
    by_only c.args.key.now c.args.query.now
    ∙ rw (c.in_ok-value.ensures, c.in-Some.is, c.in_ok-into_owned.ensures.ok)
    (ap Ok (other_is_given (cow_str_bytes c.in-Some.value) (rw c.as_str.ensures.value at (sym c.if-is_empty.ensures))))
