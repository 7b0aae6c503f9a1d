-- The number written with 1 to 18 digits.
use Rattle.wire.proofs.Prelude.{◌≡◌, ℕ, ◌<◌, ◌≤◌, true, false, ◌&&◌, List, [], ◌∷◌, length, Option, Some, None, Result, Ok, refl, sym, ap, ◌∙◌, arith, lit<, MatchOption, rules, subst, zero, suc, is_ascii_digit, list_all, and_parts, le-leb, nat_tests, first}
use Rattle.std.specs.Result.{result_ok}
use Rattle.std.specs.Str.{IsAscii, IsUtf8}
use Rattle.std.specs.Str.Parse.{digits_value, ParsesUnsigned}
use Rattle.std.proofs.lemmas.Str.{IsUtf8-from_ascii}
use Rattle.std.proofs.lemmas.Str.Parse.{IsNumeralModel, numerals_by_value, parse_gives, digits_value_short}
use Rattle.model.specs.Heads.{is_length, at_most}
use Rattle.model.specs.Reading.{or_default}

abbrev AreDigits : List ℕ → Type 0
AreDigits ds = list_all is_ascii_digit ds ≡ true

model : IsNumeralModel AreDigits (digits_value 10)
model = numerals_by_value AreDigits (search rules)

digit_is_ascii : (b : ℕ) → is_ascii_digit b ≡ true → b < 128
digit_is_ascii b e = grind (arith, nat_tests)

digits_are_ascii : (ds : List ℕ) → AreDigits ds → IsAscii ds
digits_are_ascii [] e i = lit< tt
digits_are_ascii (b ∷ ds) e zero = digit_is_ascii b (and_parts (is_ascii_digit b) (list_all is_ascii_digit ds) e).0
digits_are_ascii (b ∷ ds) e (suc i) = digits_are_ascii ds (and_parts (is_ascii_digit b) (list_all is_ascii_digit ds) e).1 i

-- digits are text
pub digits_are_text : (value : List ℕ) → AreDigits value → IsUtf8 value
digits_are_text value e = IsUtf8-from_ascii value (digits_are_ascii value e)

pub is_length_from : (value : List ℕ) → 1 ≤ length value → length value ≤ 18 → AreDigits value → is_length value ≡ true
is_length_from value some short digits =
    rw (le-leb 1 (length value) some, le-leb (length value) 18 short, digits) refl

pub length_parsed : (E : Type 0) (value : List ℕ) (r : Result ℕ E) → ParsesUnsigned {E = E} 64 10 value r → 1 ≤ length value → length value ≤ 18 → AreDigits value
    → r ≡ Ok (digits_value 10 value)
length_parsed E value r parsed some short digits =
    parse_gives model {E = E} 64 value r parsed digits some (omega (arith, digits_value_short model value 18 digits short))

-- the parse of the text of the value
pub length_read : (E : Type 0) (value text : List ℕ) (r : Result ℕ E) (o : Option ℕ) → text ≡ value → ParsesUnsigned {E = E} 64 10 text r → o ≡ result_ok r
    → 1 ≤ length value → length value ≤ 18 → AreDigits value
    → MatchOption o (is_length value ≡ false) (λ n. (is_length value ≡ true) × (n ≡ digits_value 10 value))
length_read E value text r o same parsed read some short digits =
    let is : r ≡ Ok (digits_value 10 value) = length_parsed E value r (subst (λ (t : List ℕ). ParsesUnsigned {E = E} 64 10 t r) same parsed) some short digits in
    subst (λ (p : Option ℕ). MatchOption p (is_length value ≡ false) (λ n. (is_length value ≡ true) × (n ≡ digits_value 10 value))) (sym (read ∙ ap result_ok is))
    (is_length_from value some short digits, refl)

-- ---- the length that a head states

some_same : {A : Type 0} {x y : A} → Some x ≡ Some y → x ≡ y
some_same e = cc

-- the length read from the first value is the length that the values state, if there is at most one value
pub stated_some : (values : List (List ℕ)) (value : List ℕ) (o : Option ℕ) → length values ≤ 1 → Some value ≡ first values
    → MatchOption o (is_length value ≡ false) (λ n. (is_length value ≡ true) × (n ≡ digits_value 10 value))
    → MatchOption o ((at_most 1 values && list_all is_length values) ≡ false)
    (λ n. ((at_most 1 values && list_all is_length values) ≡ true) × (n ≡ digits_value 10 (or_default (first values) [])))
stated_some [] value o one e read = absurd (cc)
stated_some (x ∷ y ∷ more) value o one e read = absurd (omega (arith, one))
stated_some (x ∷ []) value None one e read = rw (sym (some_same e)) (rw read refl)
stated_some (x ∷ []) value (Some n) one e read = rw (sym (some_same e)) (rw read.0 refl, read.1)

pub stated_none : (values : List (List ℕ)) → length values ≤ 1 → None ≡ first values
    → ((at_most 1 values && list_all is_length values) ≡ true) × (0 ≡ digits_value 10 (or_default (first values) []))
stated_none [] one e = (refl, refl)
stated_none (x ∷ more) one e = absurd (cc)
