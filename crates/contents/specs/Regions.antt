-- Where contents are in a file.
use Rattle.std.specs.Prelude.{◌≡◌, ◌⊎◌, ◌≤◌, ◌<◌, ◌+◌, ◌^◌, ℕ, List, ◌∷◌, length, All, AllPairs, IsPermutation}
use Rattle.std.specs.List.{AllWithin}
use Rattle.contents.specs.declared.region.Region.{Region}

-- the offset after the last byte of a region
abbrev pub end_of : Region → ℕ
end_of region = region.start + region.size

-- n bytes from `at` on and m bytes from `other` on have no byte in common
abbrev pub AreApart : (at n other m : ℕ) → Type 0
AreApart at n other m = (at + n ≤ other) ⊎ (other + m ≤ at)

-- n bytes from the byte `at` of a region on are among its first `limit` bytes, and have offsets
pub record IsInside (region : Region) (limit at n : ℕ) : Type 0 where
  pub within : at + n ≤ limit
  pub fits : region.start + at + n < 2 ^ 64

-- the greatest offset after the last byte of a region
abbrev pub largest_end : ℕ
largest_end = 9223372036854775807

-- the first region ends before the second begins
abbrev pub EndsBefore : Region → Region → Type 0
EndsBefore first second = end_of first ≤ second.start

-- these regions follow each other, and end where a file may end
pub record AreInOrder (regions : List Region) : Type 0 where
  pub order : AllPairs EndsBefore regions
  pub within : All (λ region. end_of region ≤ largest_end) regions

-- n bytes from `start` on have no byte in common with these regions
abbrev pub IsFreeRoom : List Region → (start n : ℕ) → Type 0
IsFreeRoom regions start n = All (λ other. AreApart start n other.start other.size) regions

-- all of these regions end at this offset or before it, and this is the least such offset
pub record IsLastEnd (regions : List Region) (end : ℕ) : Type 0 where
  pub all : All (λ region. end_of region ≤ end) regions
  pub least : (n : ℕ) → All (λ region. end_of region ≤ n) regions → end ≤ n

-- the region has this size, was free, is the lowest that was, and is in use now with those of before
pub record IsReserved (old new : List Region) (size : ℕ) (region : Region) : Type 0 where
  pub size_is : region.size ≡ size
  pub within : end_of region ≤ largest_end
  pub free : IsFreeRoom old region.start size
  pub lowest : (start : ℕ) → IsFreeRoom old start size → region.start ≤ start
  pub used : IsPermutation (region ∷ old) new

-- no room of n bytes is free below the greatest end
abbrev pub HasNoRoom : List Region → ℕ → Type 0
HasNoRoom regions n = (start : ℕ) → IsFreeRoom regions start n → largest_end < start + n

-- the region may follow all of these
pub record FitsAfter (regions : List Region) (region : Region) : Type 0 where
  pub after : All (λ other. EndsBefore other region) regions
  pub within : end_of region ≤ largest_end

-- n bytes from `start` on are free between the regions before the index and those from it on, and no lower room is free
pub record IsGap (regions : List Region) (n index start : ℕ) : Type 0 where
  pub at : index ≤ length regions
  pub before : AllWithin (λ region. end_of region ≤ start) regions 0 index
  pub after : AllWithin (λ region. start + n ≤ region.start) regions index (length regions)
  pub lowest : (other : ℕ) → IsFreeRoom regions other n → start ≤ other
  pub within : start + n ≤ largest_end
