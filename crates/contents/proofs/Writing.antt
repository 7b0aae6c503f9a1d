-- Bytes that are written after others.
use Rattle.std.proofs.Common.{◌≡◌, ◌∙◌, inl, inr, ℕ, ◌+◌, ◌-◌, ◌<◌, List, [], ◌∷◌, ◌++◌, length, slice_index, arith, refl, ap, sym}
use Rattle.std.proofs.lemmas.Bool.{cases_lt}
use Rattle.std.proofs.lemmas.List.{append-nil, length-append, get_or_append_left, get_or-append_right}
use Rattle.sqlite_disk.specs.Disk.{Holds}
use Rattle.contents.specs.Files.{HasAt}

read_joined : (file : List ℕ) (at : ℕ) (xs ys : List ℕ) (i : ℕ) → HasAt file at xs → Holds file (at + length xs) ys
    → i < length (xs ++ ys) → slice_index file (at + i) ≡ slice_index (xs ++ ys) i
read_joined file at xs ys i first second less = elim (cases_lt i (length xs)) [
  | inl early ↦ (first (omega arith)).each i early ∙ sym (get_or_append_left xs ys 0 i early)
  | inr late ↦
      let n = length-append xs ys in
      let place : at + length xs + (i - length xs) ≡ at + i = omega arith in
      ap (slice_index file) (sym place) ∙ second.each (i - length xs) (omega arith)
      ∙ sym (get_or-append_right xs ys (length xs) i 0 refl late)
]

-- bytes that are in the file one after the other
pub has_joined : (file : List ℕ) (at : ℕ) (xs ys : List ℕ) → HasAt file at xs → HasAt file (at + length xs) ys → HasAt file at (xs ++ ys)
has_joined file at xs [] first second = rw (append-nil xs) first
has_joined file at xs (y ∷ ys) first second = λ some. record {
  within = let n = length-append xs (y ∷ ys) in let it = (second (omega arith)).within in omega arith;
  each = λ i less. read_joined file at xs (y ∷ ys) i first (second (omega arith)) less;
}
