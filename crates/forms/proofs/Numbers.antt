-- The number that 1 to 10 digits write, with or without a minus sign.
use Rattle.forms.proofs.Prelude.{◌≡◌, ◌≢◌, ℕ, ◌≤◌, ◌^◌, ◌<◌, true, List, [], ◌∷◌, length, Option, Some, Result, Ok, ℤ, pos, option_map, refl, sym, ap, ◌∙◌, arith, rules, is_ascii_digit, list_all, le-leb, ne_eqb, Ok-from_Ok_iff, short_number_in, limit_in}
use Rattle.std.specs.Int.{w64}
use Rattle.std.specs.Result.{result_ok}
use Rattle.std.specs.Str.Parse.{digits_value, ParsesSigned}
use Rattle.std.proofs.lemmas.Str.Parse.{IsNumeralModel, numerals_by_value, parse_signed_digits, digits_value_short}

abbrev AreDigits : List ℕ → Type 0
AreDigits ds = list_all is_ascii_digit ds ≡ true

model : IsNumeralModel AreDigits (digits_value 10)
model = numerals_by_value AreDigits (search rules)

short_number_from : (text : List ℕ) → 1 ≤ length text → length text ≤ 10 → AreDigits text → short_number_in text ≡ Some (digits_value 10 text)
short_number_from text some short digits =
    rw (le-leb 1 (length text) some, le-leb (length text) 10 short, digits) refl

parsed : (E : Type 0) (text : List ℕ) (r : Result ℤ E) → ParsesSigned {E = E} w64 10 text r → 1 ≤ length text → length text ≤ 10 → AreDigits text
    → r ≡ Ok (pos (digits_value 10 text))
parsed E text r parses some short digits =
    let small : digits_value 10 text < 2 ^ 63 = omega (arith, digits_value_short model text 10 digits short) in
    Ok-from_Ok_iff r _ _ (parse_signed_digits model {E = E} w64 text r parses digits) (some, small)

-- the parse of such a text returns its number
pub number_parsed : (E : Type 0) (text : List ℕ) (r : Result ℤ E) (o : Option ℤ) → ParsesSigned {E = E} w64 10 text r → o ≡ result_ok r
    → 1 ≤ length text → length text ≤ 10 → AreDigits text → o ≡ option_map pos (short_number_in text)
number_parsed E text r o parses read some short digits =
    read ∙ ap result_ok (parsed E text r parses some short digits) ∙ (rw (short_number_from text some short digits) refl)

-- a text without a minus sign is the number itself
pub no_minus : (text : List ℕ) → ((rest : List ℕ) → text ≢ 45 ∷ rest) → limit_in text ≡ option_map pos (short_number_in text)
no_minus [] none = refl
no_minus (b ∷ text) none = rw (ne_eqb 45 b (λ e. none text (ap (λ x. x ∷ text) (sym e)))) refl
