-- The text of 32 bytes has 64 hexadecimal digits.
use Rattle.tokens.proofs.Prelude.{◌≡◌, ℕ, ◌*◌, ◌/◌, ◌%◌, ◌<◌, Bool, true, false, List, [], ◌∷◌, length, get_or, refl, arith, IsTrue, suc, list_all, true≢false, is_hex_digit, is_hex_64}
use Rattle.std.proofs.lemmas.List.Folds.{list_all_at}
use Rattle.hex.specs.Hex.{encode_with, encode_lower, lower_digits}

-- each of the first sixteen digits is a hexadecimal digit
digit : (k : ℕ) → k < 16 → is_hex_digit (get_or lower_digits k 0) ≡ true
digit k less = at (is_hex_digit (get_or lower_digits k 0)) refl
  where
    at : (v : Bool) → is_hex_digit (get_or lower_digits k 0) ≡ v → is_hex_digit (get_or lower_digits k 0) ≡ true
    at true e = e
    at false e = absurd (true≢false (list_all_at is_hex_digit lower_digits k 0 less e))

are_digits : (bytes : List ℕ) → ((i : ℕ) → get_or bytes i 0 < 256) → list_all is_hex_digit (encode_lower bytes) ≡ true
unfolding encode_with
are_digits [] within = refl
are_digits (b ∷ bytes) within =
    let byte : b < 256 = within 0 in
    rw (digit (b / 16) (omega arith), digit (b % 16) (omega arith)) (are_digits bytes (λ i. within (suc i)))

two_each : (bytes : List ℕ) → length (encode_lower bytes) ≡ 2 * length bytes
unfolding encode_with
two_each [] = refl
two_each (b ∷ bytes) = omega (arith, two_each bytes)

pub hex_64 : (bytes : List ℕ) → length bytes ≡ 32 → ((i : ℕ) → get_or bytes i 0 < 256) → IsTrue (is_hex_64 (encode_lower bytes))
hex_64 bytes size within =
    let long : length (encode_lower bytes) ≡ 64 = omega (arith, two_each bytes, size) in
    rw (long, are_digits bytes within) refl
