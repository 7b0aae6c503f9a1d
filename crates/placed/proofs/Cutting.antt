-- A content in pieces: with one more at the end, each found by its number, and without those from a number on.
use Rattle.placed.proofs.Prelude.{◌≡◌, ℕ, zero, suc, ◌+◌, ◌*◌, ◌<◌, ◌≤◌, ℤ, pos, true, false, not, arith, refl, sym, ap, ◌∙◌, List, [], ◌∷◌, ◌++◌, length, take, drop, find, filter, Some, None, int_eq, ints, take_all, take-append-le, take-take, length-drop, length-append, Chunk, is_chunk, is_of_from, asked_chunk, piece_size, cut_into, pieces}
use Rattle.std.proofs.Common.{int_le}
use Rattle.std.proofs.Common.{add-one, map}
use Rattle.std.proofs.lemmas.Grind.{div_ceil_times}
use Rattle.std.specs.List.{range_with_len}
use Rattle.tables.specs.Listing.{KeyFields, key_fields}
use Rattle.placed.specs.Keys.{key_of, piece_count, piece_keys}
use Rattle.std.proofs.lemmas.List.{drop_all, drop-append-le, drop-take, length-take, drop-drop}

-- ---- numbers

same_id : (id : ℤ) → int_eq id id ≡ true
same_id id = grind (arith, ints)

same_number : (k n : ℕ) → k ≡ n → int_eq (pos k) (pos n) ≡ true
same_number k n same = grind (arith, ints)

other_number : (k n : ℕ) → k < n → int_eq (pos k) (pos n) ≡ false
other_number k n less = grind (arith, ints)

from_number : (k n : ℕ) → n ≤ k → int_le (pos n) (pos k) ≡ true
from_number k n at_most = grind (arith, ints)

below_number : (k n : ℕ) → k < n → int_le (pos n) (pos k) ≡ false
below_number k n less = grind (arith, ints)

product : (n s : ℕ) → suc n * s ≡ s + n * s
product n s = omega arith

none_of : (s : ℕ) (bytes : List ℕ) → length bytes ≤ 0 * s → bytes ≡ []
none_of s [] empty = refl
none_of s (byte ∷ bytes) empty = absurd (omega arith)

-- ---- pieces of any size, the first with any number

module _ (s : ℕ) (some : 0 < s) (id : ℤ) where
  cut_nothing : (most k : ℕ) → cut_into most s id k [] ≡ []
  cut_nothing zero k = refl
  cut_nothing (suc most) k = refl

  -- more fuel than there are bytes changes nothing
  cut_any : (most other k : ℕ) (bytes : List ℕ) → length bytes ≤ most → length bytes ≤ other
      → cut_into most s id k bytes ≡ cut_into other s id k bytes
  cut_any most other k [] enough enough' = cut_nothing most k ∙ sym (cut_nothing other k)
  cut_any zero other k (byte ∷ bytes) enough enough' = absurd (omega arith)
  cut_any (suc most) zero k (byte ∷ bytes) enough enough' = absurd (omega arith)
  cut_any (suc most) (suc other) k (byte ∷ bytes) enough enough' =
      let left = length-drop s (byte ∷ bytes) in
      ap (λ rest. asked_chunk id k (take s (byte ∷ bytes)) ∷ rest) (cut_any most other (suc k) (drop s (byte ∷ bytes)) (omega arith) (omega arith))

  parts : ℕ → List ℕ → List Chunk
  parts k bytes = cut_into (length bytes) s id k bytes

  parts_none : (k : ℕ) → parts k [] ≡ []
  unfolding parts
  parts_none k = refl

  parts_some : (k : ℕ) (bytes : List ℕ) → 0 < length bytes
      → parts k bytes ≡ asked_chunk id k (take s bytes) ∷ parts (suc k) (drop s bytes)
  unfolding parts
  parts_some k [] more = absurd (omega arith)
  parts_some k (byte ∷ bytes) more =
      let left = length-drop s (byte ∷ bytes) in
      ap (λ rest. asked_chunk id k (take s (byte ∷ bytes)) ∷ rest)
      (cut_any (length bytes) (length (drop s (byte ∷ bytes))) (suc k) (drop s (byte ∷ bytes)) (omega arith) (omega arith))

  -- one more piece at the end
  parts_push : (n k m : ℕ) (bytes more : List ℕ) → m ≡ k + n → length bytes ≡ n * s → 0 < length more → length more ≤ s
      → parts k (bytes ++ more) ≡ parts k bytes ++ asked_chunk id m more ∷ []
  parts_push zero k m bytes more number whole less most =
      let first : m ≡ k = omega arith in
      rw (none_of s bytes (omega (arith, whole))) (rw (parts_none k) (rw first (
      parts_some k more less ∙ rw (take_all s more most) (rw (drop_all s more most) (rw (parts_none (suc k)) refl)))))
  parts_push (suc n) k m bytes more number whole less most =
      let count : length bytes ≡ s + n * s = whole ∙ product n s in
      let left = length-drop s bytes in
      let rest = parts_push n (suc k) m (drop s bytes) more (omega arith) (omega arith) less most in
      parts_some k (bytes ++ more) (omega (arith, length-append bytes more))
      ∙ rw (take-append-le s bytes more (omega arith)) (rw (drop-append-le s bytes more (omega arith)) (
      rw (parts_some k bytes (omega arith)) (ap (λ it. asked_chunk id k (take s bytes) ∷ it) rest)))

  -- the piece of a number
  parts_found : (n k m : ℕ) (bytes : List ℕ) → m ≡ k + n → n * s < length bytes
      → find (is_chunk id (pos m)) (parts k bytes) ≡ Some (asked_chunk id m (take s (drop (n * s) bytes)))
  parts_found zero k m bytes number there =
      let first : m ≡ k = omega arith in
      let nothing : 0 * s ≡ 0 = omega arith in
      rw (parts_some k bytes (omega arith)) (rw first (rw (same_id id) (rw (same_number k k refl) (rw nothing refl))))
  parts_found (suc n) k m bytes number there =
      let same = product n s in
      let left = length-drop s bytes in
      let rest = parts_found n (suc k) m (drop s bytes) (omega arith) (omega arith) in
      let place : drop (n * s) (drop s bytes) ≡ drop (suc n * s) bytes =
      drop-drop (n * s) s bytes ∙ ap (λ count. drop count bytes) (sym same) in
      rw (parts_some k bytes (omega arith)) (rw (same_id id) (rw (other_number k m (omega arith)) (
      rest ∙ ap (λ it. Some (asked_chunk id m (take s it))) place)))

  -- there is no piece of a number after the last
  parts_lacks : (n k m : ℕ) (bytes : List ℕ) → m ≡ k + n → length bytes ≤ n * s
      → find (is_chunk id (pos m)) (parts k bytes) ≡ None
  parts_lacks n k m [] number all = rw (parts_none k) refl
  parts_lacks zero k m (byte ∷ bytes) number all = absurd (omega arith)
  parts_lacks (suc n) k m (byte ∷ bytes) number all =
      let same = product n s in
      let left = length-drop s (byte ∷ bytes) in
      let rest = parts_lacks n (suc k) m (drop s (byte ∷ bytes)) (omega arith) (omega arith) in
      rw (parts_some k (byte ∷ bytes) (omega arith)) (rw (same_id id) (rw (other_number k m (omega arith)) rest))

  -- the keys of n pieces, the first with the number k
  keys_from : ℕ → ℕ → List KeyFields
  keys_from k n = map (key_of id) (range_with_len k n)

  parts_keys : (n k : ℕ) (bytes : List ℕ) → length bytes ≤ n * s → n * s < length bytes + s
      → map key_fields (parts k bytes) ≡ keys_from k n
  unfolding keys_from
  parts_keys zero k bytes most least = rw (none_of s bytes most) (rw (parts_none k) refl)
  parts_keys (suc n) k bytes most least =
      let same = product n s in
      let left = length-drop s bytes in
      let rest = parts_keys n (suc k) (drop s bytes) (omega arith) (omega arith) in
      ap (map key_fields) (parts_some k bytes (omega arith))
      ∙ ap (λ keys. key_of id k ∷ keys) (rest ∙ ap (λ j. map (key_of id) (range_with_len j n)) (sym (add-one k)))

  -- ---- without the pieces from a number on

  kept : ℕ → List Chunk → List Chunk
  kept n chunks = filter (λ c. not (is_of_from id (pos n) c)) chunks

  kept_later : (k n : ℕ) (bytes : List ℕ) (chunks : List Chunk) → n ≤ k
      → kept n (asked_chunk id k bytes ∷ chunks) ≡ kept n chunks
  unfolding kept
  kept_later k n bytes chunks at_most = rw (same_id id) (rw (from_number k n at_most) refl)

  kept_earlier : (k n : ℕ) (bytes : List ℕ) (chunks : List Chunk) → k < n
      → kept n (asked_chunk id k bytes ∷ chunks) ≡ asked_chunk id k bytes ∷ kept n chunks
  unfolding kept
  kept_earlier k n bytes chunks less = rw (same_id id) (rw (below_number k n less) refl)

  kept_none : (n : ℕ) → kept n [] ≡ []
  unfolding kept
  kept_none n = refl

  -- nothing is kept of later pieces
  kept_cut : (most k n : ℕ) (bytes : List ℕ) → n ≤ k → kept n (cut_into most s id k bytes) ≡ []
  kept_cut zero k n bytes at_most = kept_none n
  kept_cut (suc most) k n [] at_most = kept_none n
  kept_cut (suc most) k n (byte ∷ bytes) at_most =
      kept_later k n (take s (byte ∷ bytes)) (cut_into most s id (suc k) (drop s (byte ∷ bytes))) at_most
      ∙ kept_cut most (suc k) n (drop s (byte ∷ bytes)) (omega arith)

  kept_parts : (k n : ℕ) (bytes : List ℕ) → n ≤ k → kept n (parts k bytes) ≡ []
  unfolding parts
  kept_parts k n bytes at_most = kept_cut (length bytes) k n bytes at_most

  -- the first n pieces of some bytes
  parts_front : (n k : ℕ) (bytes : List ℕ) → 0 < length bytes
      → parts k (take (s + n * s) bytes) ≡ asked_chunk id k (take s bytes) ∷ parts (suc k) (take (n * s) (drop s bytes))
  parts_front n k bytes more =
      parts_some k (take (s + n * s) bytes) (omega (arith, length-take (s + n * s) bytes))
      ∙ rw (take-take s (s + n * s) bytes (omega arith)) (rw (drop-take s (n * s) bytes) refl)

  parts_shortened : (n k m : ℕ) (bytes : List ℕ) → m ≡ k + n → kept m (parts k bytes) ≡ parts k (take (n * s) bytes)
  parts_shortened zero k m bytes number =
      let nothing : 0 * s ≡ 0 = omega arith in
      kept_parts k m bytes (omega arith) ∙ sym (rw nothing (parts_none k))
  parts_shortened (suc n) k m [] number =
      ap (kept m) (parts_none k) ∙ kept_none m ∙ sym (ap (parts k) (take_all (suc n * s) [] (omega arith)) ∙ parts_none k)
  parts_shortened (suc n) k m (byte ∷ bytes) number =
      let rest = parts_shortened n (suc k) m (drop s (byte ∷ bytes)) (omega arith) in
      ap (kept m) (parts_some k (byte ∷ bytes) (omega arith))
      ∙ kept_earlier k m (take s (byte ∷ bytes)) (parts (suc k) (drop s (byte ∷ bytes))) (omega arith)
      ∙ ap (λ it. asked_chunk id k (take s (byte ∷ bytes)) ∷ it) rest
      ∙ sym (ap (λ it. parts k (take it (byte ∷ bytes))) (product n s) ∙ parts_front n k (byte ∷ bytes) (omega arith))

-- ---- pieces of the size that contents have

some_size : 0 < piece_size
some_size = omega arith

-- no bytes have no pieces
pub pieces_none : (id : ℤ) → pieces id [] ≡ []
unfolding pieces
pieces_none id = refl

-- after whole pieces, one more
pub pieces_push : (id : ℤ) (n : ℕ) (bytes more : List ℕ) → length bytes ≡ n * piece_size → 0 < length more
    → length more ≤ piece_size → pieces id (bytes ++ more) ≡ pieces id bytes ++ asked_chunk id n more ∷ []
unfolding pieces parts
pieces_push id n bytes more whole less most = parts_push piece_size some_size id n 0 n bytes more (omega arith) whole less most

-- the piece with a number
pub piece_found : (id : ℤ) (n : ℕ) (bytes : List ℕ) → n * piece_size < length bytes
    → find (is_chunk id (pos n)) (pieces id bytes)
    ≡ Some (asked_chunk id n (take piece_size (drop (n * piece_size) bytes)))
unfolding pieces parts
piece_found id n bytes there = parts_found piece_size some_size id n 0 n bytes (omega arith) there

-- no piece has a number after the last one's
pub piece_lacks : (id : ℤ) (n : ℕ) (bytes : List ℕ) → length bytes ≤ n * piece_size
    → find (is_chunk id (pos n)) (pieces id bytes) ≡ None
unfolding pieces parts
piece_lacks id n bytes all = parts_lacks piece_size some_size id n 0 n bytes (omega arith) all

-- without the pieces from a number on, those of the bytes before them
pub pieces_shortened : (id : ℤ) (n : ℕ) (bytes : List ℕ)
    → filter (λ c. not (is_of_from id (pos n) c)) (pieces id bytes) ≡ pieces id (take (n * piece_size) bytes)
unfolding pieces parts kept
pieces_shortened id n bytes = parts_shortened piece_size some_size id n 0 n bytes (omega arith)

-- the keys of the pieces of n bytes
pub pieces_keys : (id : ℤ) (bytes : List ℕ) (n : ℕ) → length bytes ≡ n → map key_fields (pieces id bytes) ≡ piece_keys id n
unfolding pieces parts keys_from
pieces_keys id bytes n size =
    let rounded = div_ceil_times n piece_size some_size in
    parts_keys piece_size some_size id (piece_count n) 0 bytes (omega (arith, rounded.0, size)) (omega (arith, rounded.1, size))
