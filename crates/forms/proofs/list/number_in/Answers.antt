use Rattle.forms.proofs.Prelude.{◌≡◌, ◌∙◌, ◌≤◌, length, sym, ap, arith, true, is_ascii_digit, list_all, nat_tests}
use Rattle.forms.proofs.Numbers.{number_parsed}
use Rattle.forms.proofs.list.number_in.Goals as goal

pub returns : goal.returns
returns c =
    let digits : list_all is_ascii_digit c.args.text.now ≡ true = ap (list_all is_ascii_digit) (sym c.as_bytes.ensures.value) ∙ sym c.are_digits.ensures ∙ c.if-not-are_digits.false in
    let some : 1 ≤ length c.args.text.now = grind (arith, nat_tests, c.is_empty.ensures, c.if-is_empty.false) in
    number_parsed _ c.args.text.now c.parse.result c.ok.result c.parse.ensures.value.0 c.ok.ensures.value some (omega arith) digits
