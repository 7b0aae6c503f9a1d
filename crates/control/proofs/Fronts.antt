-- The field at the front of some bytes is the only one.
use Rattle.std.proofs.Common.{◌≡◌, ◌++◌, ◌<◌, ◌^◌, ◌∙◌, ℕ, List, length, take, drop, sym, ap}
use Rattle.std.specs.Int.{w32, from_be_bytes}
use Rattle.std.proofs.lemmas.Nat.{from_be_bytes-to_be_bytes_4}
use Rattle.std.proofs.Math.Seq.{take-append_seam, drop-append_seam}
use Rattle.control.specs.Fields.{number_bytes, field, FitsField}

-- four bytes are those of one number
pub number-unique : (m n : ℕ) → m < 2 ^ 32 → n < 2 ^ 32 → number_bytes m ≡ number_bytes n → m ≡ n
number-unique m n small below e =
    sym (from_be_bytes-to_be_bytes_4 m small) ∙ ap (λ b. from_be_bytes w32 b) e ∙ from_be_bytes-to_be_bytes_4 n below

-- lists that begin with as many elements, and are the same
pub same-front : (a b r s : List ℕ) → length a ≡ length b → a ++ r ≡ b ++ s → (a ≡ b) × (r ≡ s)
same-front a b r s n e =
    let front : take (length a) (a ++ r) ≡ take (length b) (b ++ s) = cc in
    let back : drop (length a) (a ++ r) ≡ drop (length b) (b ++ s) = cc in
    (sym (take-append_seam a r) ∙ front ∙ take-append_seam b s, sym (drop-append_seam a r) ∙ back ∙ drop-append_seam b s)

-- a field at the front has one content and one rest
pub field-unique : (a b r s : List ℕ) → FitsField a → FitsField b → field a ++ r ≡ field b ++ s → (a ≡ b) × (r ≡ s)
field-unique a b r s small below e =
    let number : number_bytes (length a) ≡ number_bytes (length b) = cc in
    let rest : a ++ r ≡ b ++ s = cc in
    same-front a b r s (number-unique (length a) (length b) small below number) rest
