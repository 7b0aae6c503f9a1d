-- A walk over regions in order, in search of the first room that is large enough.
use Rattle.std.proofs.Common.{◌≡◌, inl, inr, ℕ, ◌+◌, ◌-◌, ◌<◌, ◌≤◌, List, length, slice_index_or, arith, subst}
use Rattle.std.specs.List.{AllWithin}
use Rattle.std.proofs.lemmas.Bool.{cases_lt}
use Rattle.std.proofs.lemmas.List.{get_or_default}
use Rattle.contents.specs.declared.region.Region.{Region}
use Rattle.contents.specs.Regions.{AreInOrder, IsFreeRoom, IsGap, end_of, largest_end}

-- the regions before the index end at `from` or before it, the others begin there or after it, and no room below it is free
pub record IsWalked (regions : List Region) (n index from : ℕ) : Type 0 where
  pub before : AllWithin (λ region. end_of region ≤ from) regions 0 index
  pub after : AllWithin (λ region. from ≤ region.start) regions index (length regions)
  pub lowest : (other : ℕ) → IsFreeRoom regions other n → from ≤ other
  pub within : from ≤ largest_end

-- the region at an index, whatever the default
module _ (regions : List Region) (index : ℕ) (default : Region) (less : index < length regions) where
  at : (d : Region) → slice_index_or regions index d ≡ slice_index_or regions index default
  at d = get_or_default regions index d default less

  -- the room before this region is too small
  pub walked_on : (n from : ℕ) → AreInOrder regions → IsWalked regions n index from → (slice_index_or regions index default).start - from < n → IsWalked regions n (index + 1) (end_of (slice_index_or regions index default))
  walked_on n from in_order was small = record {
    before = λ k d _ less'. elim (cases_lt k index) [
      | inl earlier ↦ let e = was.before k d (omega arith) earlier in let s = subst (λ it. from ≤ it.start) (at d) (was.after index d (omega arith) less) in omega arith
      | inr later ↦ let same : k ≡ index = omega arith in rw same (rw (at d) (omega arith))
    ];
    after = λ k d less' end. subst (λ it. end_of it ≤ (slice_index_or regions k d).start) (at d) (in_order.order index k d (omega arith) end);
    lowest = λ other free. elim (free index default less) [
      | inl before ↦ let low = was.lowest other free in omega arith
      | inr after ↦ after
    ];
    within = in_order.within index default less;
  }

  -- the room before this region is large enough
  pub gap_here : (n from : ℕ) → AreInOrder regions → IsWalked regions n index from → n ≤ (slice_index_or regions index default).start - from → IsGap regions n index from
  gap_here n from in_order was large =
      let begins = was.after index default (omega arith) less in
      let most = in_order.within index default less in
      record {
        at = omega arith;
        before = was.before;
        after = λ k d least end. elim (cases_lt index k) [
          | inl later ↦ let e = subst (λ it. end_of it ≤ (slice_index_or regions k d).start) (at d) (in_order.order index k d later end) in omega arith
          | inr here ↦ let same : k ≡ index = omega arith in rw same (rw (at d) (omega arith))
        ];
        lowest = was.lowest;
        within = omega arith;
      }
