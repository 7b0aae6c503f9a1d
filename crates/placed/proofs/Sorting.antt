-- Uploads and regions that were sorted: neighbours tell whether two uploads are one, and each region may follow those before
-- it if no two have a byte in common.
use Rattle.placed.proofs.Prelude.{◌≡◌, ◌≢◌, inl, inr, ℕ, ℤ, ◌+◌, ◌<◌, ◌≤◌, Bool, true, false, List, length, take, slice_index_or, get_or-take, length-take-le, pos, All, IsAscending, refl, sym, ap, ◌∙◌, subst, true≢false, arith, int_cmp, int_cmp_total, Region, AreSeparate}
use Rattle.std.proofs.Common.{MatchBool, Ordering, Less, Equal, Greater, is_lt}
use Rattle.std.specs.Ordering.{ordering_reverse}
use Rattle.std.specs.List.{AllPairs, AllAdjacentBelow, IsAllAdjacentAnswer}
use Rattle.std.specs.List.Sorted.{IsPermutation, IsSorted, IsNonDecreasingBy}
use Rattle.std.proofs.lemmas.Cmp.{int_ranked}
use Rattle.std.proofs.lemmas.List.{get_or_default}
use Rattle.std.proofs.lemmas.List.Sorted.{ranks_by, sorted_far, IsPermutation-sym, All-permutation}
use Rattle.contents.specs.Regions.{EndsBefore, FitsAfter}
use Rattle.placed.specs.Opening.{IsRegion}
use Rattle.placed.proofs.Named.{separate_turned}
use Rattle.placed.proofs.Pairs.{ascending_from_pairs, ascending_permuted, pairs_from_ascending}

-- ---- uploads

-- the first number is the less one
abbrev pub is_below : ℤ → ℤ → Bool
is_below a b = is_lt (int_cmp a b)

same_unless_below : (a b : ℤ) → false ≡ is_below a b → is_below b a ≡ false → a ≡ b
same_unless_below a b one two = at (int_cmp a b) refl (sym one) (ap is_lt (sym (int_cmp_total.antisymm b a)) ∙ two)
  where
    at : (o : Ordering) → o ≡ int_cmp a b → is_lt o ≡ false → is_lt (ordering_reverse (int_cmp a b)) ≡ false → a ≡ b
    at Less is less more = absurd (true≢false less)
    at Equal is less more = int_ranked a b Equal is
    at Greater is less more = absurd (true≢false (ap (λ k. is_lt (ordering_reverse k)) is ∙ more))

-- no two are one
abbrev pub AreDifferent : List ℤ → Type 0
AreDifferent = IsAscending (λ (a b : ℤ). a ≢ b)

module _ (uploads sorted : List ℤ) (order : IsPermutation uploads sorted) (up : IsSorted int_cmp sorted) where
  rising : AllAdjacentBelow (λ a b. true ≡ is_below a b) sorted (length sorted) → AllPairs (λ (a b : ℤ). a ≢ b) sorted
  rising below i j d less end same =
      let far = sorted_far is_below (ranks_by int_cmp_total (λ (k : ℤ). k)) sorted up (i + 1) j d (omega arith) end in
      true≢false
      (below i d (omega arith) ∙ ap (λ k. is_below k (slice_index_or sorted (i + 1) d)) same ∙ far)

  pub different_if : (answer : Bool) → IsAllAdjacentAnswer (λ a b r. r ≡ is_below a b) sorted answer
      → MatchBool answer (AreDifferent uploads) (AreDifferent uploads → ⊥)
  different_if true below =
      ascending_permuted (λ (a b : ℤ). a ≢ b) (λ a b other same. other (sym same)) sorted uploads
      (IsPermutation-sym uploads sorted order) (ascending_from_pairs (λ (a b : ℤ). a ≢ b) sorted (rising below))
  different_if false pair = λ different.
      let k = pair.0 in
      let d = slice_index_or sorted k (pos 0) in
      pairs_from_ascending (λ (a b : ℤ). a ≢ b) sorted
      (ascending_permuted (λ (a b : ℤ). a ≢ b) (λ a b other same. other (sym same)) uploads sorted order different)
      k (k + 1) d (omega arith) pair.1
      (same_unless_below (slice_index_or sorted k d) (slice_index_or sorted (k + 1) d) (pair.2 d) (up k d (omega arith) pair.1))

-- ---- regions

module _ (regions sorted : List Region) (order : IsPermutation regions sorted)
    (up : IsNonDecreasingBy (λ (r : Region). r.start) sorted) (are : All IsRegion regions)
    (apart : IsAscending AreSeparate regions) where
  -- each may follow those before it
  pub fits_after : (index : ℕ) (region : Region) → index < length sorted → region ≡ slice_index_or sorted index region
      → FitsAfter (take index sorted) region
  fits_after index region less is = record { after = after; within = own.possible }
    where
      own : IsRegion region
      own = subst IsRegion (sym is) (All-permutation IsRegion regions sorted order are index region less)

      pairs : AllPairs AreSeparate sorted
      pairs = pairs_from_ascending AreSeparate sorted
          (ascending_permuted AreSeparate separate_turned regions sorted order apart)

      at : (other : Region) → other.start ≤ region.start → AreSeparate other region → EndsBefore other region
      at other begins (inl before) = before
      at other begins (inr behind) = let some = own.some in absurd (omega arith)

      after : All (λ other. EndsBefore other region) (take index sorted)
      after k d shorter =
          let before : k < index = before_index k shorter in
          let same = get_or-take index sorted k d before in
          subst (λ (r : Region). EndsBefore r region) (sym same)
          (at (slice_index_or sorted k d) (begin k d before) (between k d before))
        where
          here : (d : Region) → slice_index_or sorted index d ≡ region
          here d = get_or_default sorted index d region less ∙ sym is

          before_index : (k : ℕ) → k < length (take index sorted) → k < index
          before_index k shorter = omega (arith, length-take-le index sorted (omega arith))

          begin : (k : ℕ) (d : Region) → k < index → (slice_index_or sorted k d).start ≤ region.start
          begin k d before =
              subst (λ (r : Region). (slice_index_or sorted k d).start ≤ r.start) (here d) (up k index d (omega arith) less)

          between : (k : ℕ) (d : Region) → k < index → AreSeparate (slice_index_or sorted k d) region
          between k d before =
              subst (AreSeparate (slice_index_or sorted k d)) (here d) (pairs k index d before less)

  pub fits_at : (index : ℕ) (d : Region) → index < length sorted → FitsAfter (take index sorted) (slice_index_or sorted index d)
  fits_at index d less =
      let region = slice_index_or sorted index d in
      fits_after index region less (get_or_default sorted index d region less)
