-- The values of digits: objects' names in hexadecimal, and lock ids in decimal.
use Rattle.std.proofs.Common.{◌≡◌, ℕ, ◌<◌, ◌≤◌, ◌^◌, Bool, true, false, ◌&&◌, List, [], ◌∷◌, length, get_or, Some, None, Result, Ok, Err, sym, ap, subst, ◌∙◌, arith, cond, decimal, lit<, zero, suc, inl, inr, ◌⊎◌, ◌==◌, nat_le}
use Rattle.std.specs.Int.{IsInRange}
use Rattle.std.specs.List.{list_all}
use Rattle.std.specs.Result.{MatchResult}
use Rattle.std.specs.Str.{IsAscii, IsUtf8, bytes_eq}
use Rattle.std.specs.Str.Parse.{AllDigits, IsNumeral, ParsesUnsigned, digits_value}
use Rattle.std.proofs.lemmas.Bool.{and_parts, and_from, cases_Bool, cases_eq, leb-true, le-leb}
use Rattle.std.proofs.lemmas.Bool.Decides.{nat_tests}
use Rattle.std.proofs.lemmas.Fmt.{decimal-digits_value, decimal_digit, decimal_is_IsNumeral, first_decimal}
use Rattle.std.proofs.lemmas.Slice.Eq.{bytes_eq-Decides}
use Rattle.std.proofs.lemmas.Str.{IsUtf8-from_ascii}
use Rattle.std.proofs.lemmas.Str.Parse.{IsNumeralModel, numerals_by_value, tells_digits, digit_at, parse_plain}
use Rattle.names.specs.Texts.{is_hex_digit, is_hex_64, lock_id_in, between, last_lock_id}

hex_digit_is_ascii : (b : ℕ) → is_hex_digit b ≡ true → b < 128
hex_digit_is_ascii b e = grind (arith, nat_tests)

hex_is_ascii : (text : List ℕ) → list_all is_hex_digit text ≡ true → IsAscii text
hex_is_ascii [] e i = lit< tt
hex_is_ascii (b ∷ text) e zero = hex_digit_is_ascii b (and_parts (is_hex_digit b) (list_all is_hex_digit text) e).0
hex_is_ascii (b ∷ text) e (suc i) = hex_is_ascii text (and_parts (is_hex_digit b) (list_all is_hex_digit text) e).1 i

pub hex_is_utf8 : (text : List ℕ) → is_hex_64 text ≡ true → IsUtf8 text
hex_is_utf8 text e = IsUtf8-from_ascii text (hex_is_ascii text (and_parts (length text == 64) (list_all is_hex_digit text) e).1)

-- ---- lock ids

digits : IsNumeralModel (AllDigits 10) (digits_value 10)
digits = numerals_by_value (AllDigits 10) tells_digits

abbrev value : List ℕ → ℕ
value text = digits_value 10 text

record IsLockId (text : List ℕ) : Type 0 where
  spelled : text ≡ decimal (value text)
  least : 1 ≤ value text
  most : value text ≤ last_lock_id

abbrev is_spelled : List ℕ → Bool
is_spelled text = bytes_eq text (decimal (value text))

abbrev is_id : List ℕ → Bool
is_id text = is_spelled text && between 1 last_lock_id (value text)

is_id-IsLockId : (text : List ℕ) → is_id text ≡ true → IsLockId text
is_id-IsLockId text e =
    let both = and_parts (is_spelled text) (between 1 last_lock_id (value text)) e in
    let ends = and_parts (nat_le 1 (value text)) (nat_le (value text) last_lock_id) both.1 in
    record {
      spelled = (bytes_eq-Decides text (decimal (value text))).0 both.0;
      least = leb-true 1 (value text) ends.0;
      most = leb-true (value text) last_lock_id ends.1;
    }

IsLockId-is_id : (text : List ℕ) → IsLockId text → is_id text ≡ true
IsLockId-is_id text id =
    and_from (is_spelled text) (between 1 last_lock_id (value text)) ((bytes_eq-Decides text (decimal (value text))).1 id.spelled)
    (and_from (nat_le 1 (value text)) (nat_le (value text) last_lock_id) (le-leb 1 (value text) id.least) (le-leb (value text) last_lock_id id.most))

some_id : (text : List ℕ) → IsLockId text → lock_id_in text ≡ Some (value text)
some_id text id = ap (λ v. cond v (Some (value text)) None) (IsLockId-is_id text id)

no_id : (text : List ℕ) → (IsLockId text → ⊥) → lock_id_in text ≡ None
no_id text none = at (cases_Bool (is_id text))
  where
    at : (is_id text ≡ true) ⊎ (is_id text ≡ false) → lock_id_in text ≡ None
    at (inl e) = absurd (none (is_id-IsLockId text e))
    at (inr e) = ap (λ v. cond v (Some (value text)) None) e

is_numeral : (text : List ℕ) → IsLockId text → IsNumeral 10 text
is_numeral text id = subst (IsNumeral 10) (sym id.spelled) (decimal_is_IsNumeral (value text) (omega (arith, id.most))).0

first_of_id : (text : List ℕ) → IsLockId text → IsInRange 49 57 (get_or text 0 0)
first_of_id text id =
    let numeral = is_numeral text id in
    let above : 48 < get_or text 0 0 = subst (λ (t : List ℕ). 48 < get_or t 0 0) (sym id.spelled) (first_decimal (value text) (omega (arith, id.least)) (omega (arith, id.most))) in
    (omega arith, (digit_at text 0 numeral.1 numeral.0).1)

pub no_id_first : (text : List ℕ) → (IsInRange 49 57 (get_or text 0 0) → ⊥) → lock_id_in text ≡ None
no_id_first text first = no_id text (λ id. first (first_of_id text id))

no_zero : (text : List ℕ) → IsInRange 49 57 (get_or text 0 0) → text ≡ decimal (value text) → (value text ≡ 0) ⊎ (value text ≡ 0 → ⊥) → 1 ≤ value text
no_zero text first spelled (inl z) =
    let head : get_or text 0 0 ≡ 48 = ap (λ (t : List ℕ). get_or t 0 0) (spelled ∙ ap decimal z ∙ decimal_digit 0 (lit< tt)) in
    absurd (omega (arith, head, first.0))
no_zero text first spelled (inr some) = omega arith

spells_id : (text : List ℕ) → IsInRange 49 57 (get_or text 0 0) → AllDigits 10 text → 0 < length text → value text < 2 ^ 32 → IsLockId text
spells_id text first all some fits =
    let spelled = sym (decimal-digits_value digits text all some (λ z. absurd (omega (arith, z, first.0))) (omega (arith, fits))) in
    record {
      spelled = spelled;
      least = no_zero text first spelled (cases_eq (value text) 0);
      most = omega (arith, fits);
    }

pub id_parsed : (E : Type 0) (text : List ℕ) (r : Result ℕ E) → IsInRange 49 57 (get_or text 0 0) → ParsesUnsigned {E = E} 32 10 text r
    → MatchResult r (λ number. (1 ≤ number) × (lock_id_in text ≡ Some number)) (λ _. lock_id_in text ≡ None)
id_parsed E text (Ok number) first parsed =
    let read = parse_plain digits {E = E} 32 text (Ok number) parsed (λ plus. absurd (omega (arith, plus, first.0))) in
    let id = spells_id text first read.0.0 read.0.1 read.0.2 in
    (omega (arith, id.least, read.1), some_id text id ∙ ap (λ n. Some n) (sym read.1))
id_parsed E text (Err error) first parsed =
    let unread = parse_plain digits {E = E} 32 text (Err error) parsed (λ plus. absurd (omega (arith, plus, first.0))) in
    no_id text (λ id. let numeral = is_numeral text id in unread (numeral.1, numeral.0, omega (arith, id.most)))
