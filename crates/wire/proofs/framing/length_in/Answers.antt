use Rattle.wire.proofs.Prelude.{◌≡◌, ◌∙◌, ◌≤◌, length, sym, arith, true, is_ascii_digit, list_all, nat_tests}
use Rattle.wire.proofs.Lengths.{digits_are_text, length_read}
use Rattle.wire.proofs.framing.length_in.Goals as goal

pub returns-in_default : goal.returns-in_default
returns-in_default c =
    let digits : list_all is_ascii_digit c.args.value.now ≡ true = sym c.are_digits.ensures ∙ c.if-not-are_digits.false in
    absurd (c.in_default.ensures.cases.0 (digits_are_text c.args.value.now digits))

pub returns : goal.returns
returns c =
    let digits : list_all is_ascii_digit c.args.value.now ≡ true = sym c.are_digits.ensures ∙ c.if-not-are_digits.false in
    let some : 1 ≤ length c.args.value.now = grind (arith, nat_tests, c.is_empty.ensures, c.if-is_empty.false) in
    length_read _ c.args.value.now c.in-Ok.text.now c.parse.result c.ok.result c.in-Ok.ensures.cases.0 c.parse.ensures.value.0 c.ok.ensures.value some (omega arith) digits
