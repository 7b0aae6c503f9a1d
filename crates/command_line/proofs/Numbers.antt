-- The number written with 1 to 18 digits.
use Rattle.std.proofs.Common.{◌≡◌, ℕ, ◌<◌, ◌≤◌, true, false, List, length, get_or, Option, Result, Ok, Some, None, IfSome, IfNone, ◌⊎◌, inl, inr, decimal, nat_le, ◌^◌, zero, suc, lit<, refl, sym, ap, ◌∙◌, arith, rules}
use Rattle.std.specs.Char.{is_ascii_digit}
use Rattle.std.specs.List.{list_all}
use Rattle.std.specs.Result.{result_ok}
use Rattle.std.specs.Str.Parse.{digits_value, ParsesUnsigned}
use Rattle.std.proofs.Math.Nat.{eq-or-lt_of_le}
use Rattle.std.proofs.lemmas.Bool.{and_parts, cases_Bool, le-leb, leb-true}
use Rattle.std.proofs.lemmas.Fmt.{decimal-digits_value, decimal_digit, decimal_nonempty, digits_decimal, digits_value-decimal, first_decimal, length-decimal-le}
use Rattle.std.proofs.lemmas.Str.Parse.{IsNumeralModel, numerals_by_value, parse_gives, digits_value_short}
use Rattle.names.specs.Texts.{between}
use Rattle.command_line.specs.Numbers.{is_number, number_in}

abbrev AreDigits : List ℕ → Type 0
AreDigits ds = list_all is_ascii_digit ds ≡ true

model : IsNumeralModel AreDigits (digits_value 10)
model = numerals_by_value AreDigits (search rules)

is_number_from : (text : List ℕ) → 1 ≤ length text → length text ≤ 18 → AreDigits text → is_number text ≡ true
is_number_from text some short digits =
    rw (le-leb 1 (length text) some, le-leb (length text) 18 short, digits) refl

parsed : (E : Type 0) (text : List ℕ) (r : Result ℕ E) → ParsesUnsigned {E = E} 64 10 text r → 1 ≤ length text → length text ≤ 18 → AreDigits text
    → r ≡ Ok (digits_value 10 text)
parsed E text r parses some short digits =
    parse_gives model {E = E} 64 text r parses digits some (omega (arith, digits_value_short model text 18 digits short))

-- the parse of such a text returns its number
pub number_parsed : (E : Type 0) (text : List ℕ) (r : Result ℕ E) (o : Option ℕ) → ParsesUnsigned {E = E} 64 10 text r → o ≡ result_ok r
    → 1 ≤ length text → length text ≤ 18 → AreDigits text → o ≡ number_in text
number_parsed E text r o parses read some short digits =
    read ∙ ap result_ok (parsed E text r parses some short digits) ∙ (rw (is_number_from text some short digits) refl)

-- digits without a leading zero are the decimal of their number
number_spelled : (text : List ℕ) → is_number text ≡ true → (1 < length text → get_or text 0 0 ≡ 48 → ⊥) → decimal (digits_value 10 text) ≡ text
number_spelled text number first =
    let parts = and_parts (between 1 18 (length text)) (list_all is_ascii_digit text) number in
    let ends = and_parts (nat_le 1 (length text)) (nat_le (length text) 18) parts.0 in
    let some : 1 ≤ length text = leb-true 1 (length text) ends.0 in
    let short : length text ≤ 18 = leb-true (length text) 18 ends.1 in
    let alone : get_or text 0 0 ≡ 48 → length text ≡ 1 = λ zero. elim (eq-or-lt_of_le some) [ inl one ↦ sym one | inr more ↦ absurd (first more zero) ] in
    decimal-digits_value model text parts.1 some alone (omega (arith, digits_value_short model text 18 parts.1 short))

-- the text of a number without a leading zero is its decimal
pub spelled : (text : List ℕ) → (1 < length text → get_or text 0 0 ≡ 48 → ⊥) → IfSome (number_in text) (λ number. text ≡ decimal number)
spelled text first = at (cases_Bool (is_number text))
  where
    at : (is_number text ≡ true) ⊎ (is_number text ≡ false) → IfSome (number_in text) (λ number. text ≡ decimal number)
    at (inl e) = rw e (sym (number_spelled text e first))
    at (inr e) = rw e tt

-- a number is read from its decimal
number_read : (number : ℕ) → number < 10 ^ 18 → number_in (decimal number) ≡ Some number
number_read number short =
    let fits : number < 2 ^ 64 = omega (arith, short) in
    let some : 1 ≤ length (decimal number) = decimal_nonempty number fits in
    let digits : length (decimal number) ≤ 18 = length-decimal-le 18 number (omega arith) short fits in
    rw (is_number_from (decimal number) some digits (digits_decimal model number fits), digits_value-decimal model number fits) refl

-- a text that is not read is the decimal of no number
pub unread : (text : List ℕ) → IfNone (number_in text) ((number : ℕ) → number < 10 ^ 18 → text ≡ decimal number → ⊥)
unread text = at (number_in text) refl
  where
    at : (o : Option ℕ) → number_in text ≡ o → IfNone o ((number : ℕ) → number < 10 ^ 18 → text ≡ decimal number → ⊥)
    at None e = λ number short same. let read = number_read number short in cc
    at (Some m) e = tt

-- a text with a leading zero is the decimal of no number
pub zero_unspelled : (text : List ℕ) → 1 < length text → get_or text 0 0 ≡ 48 → (number : ℕ) → number < 10 ^ 18 → text ≡ decimal number → ⊥
zero_unspelled text more first zero short same = omega (arith, ap length (same ∙ decimal_digit 0 (lit< tt)))
zero_unspelled text more first (suc n) short same =
    let above : 48 < get_or (decimal (suc n)) 0 0 = first_decimal (suc n) (omega arith) (omega arith) in
    omega (arith, ap (λ t. get_or t 0 0) same)
