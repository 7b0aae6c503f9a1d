-- Regions that follow each other.
use Rattle.std.proofs.Common.{◌≡◌, inl, inr, ℕ, ◌+◌, ◌-◌, ◌<◌, ◌≤◌, List, [], ◌∷◌, ◌++◌, length, Bool, true, false, if◌then◌else◌, suc, arith, refl, sym, ap, subst, ◌∙◌, take, drop, slice_index_or, HoldsAt, insert, remove, sum_by, zero, take_all, All, IsPermutation}
use Rattle.std.specs.List.{AllPairs}
use Rattle.std.proofs.Math.Seq.{drop-cons}
use Rattle.std.proofs.lemmas.Bool.{cases_lt}
use Rattle.std.proofs.lemmas.List.{take-append-drop, take_more}
use Rattle.std.proofs.lemmas.List.Edits.{get_or-insert_below, get_or-insert_at, get_or-insert_above, length-insert}
use Rattle.std.proofs.lemmas.List.Quantifiers.{all_pairs_push, all_pairs_remove}
use Rattle.std.proofs.lemmas.List.Sorted.{IsPermutation-middle, IsPermutation-insert, All-permutation}
use Rattle.std.proofs.lemmas.List.Elements.{All-cons, All-push}
use Rattle.std.proofs.lemmas.List.Sums.{sum_by_push}
use Rattle.contents.specs.declared.region.Region.{Region}
use Rattle.contents.specs.Regions.{AreInOrder, FitsAfter, EndsBefore, IsGap, IsReserved, end_of, largest_end}

-- a region that may follow them keeps their order
pub in_order_pushed : (old : List Region) (region : Region) → AreInOrder old → FitsAfter old region → AreInOrder (old ++ region ∷ [])
in_order_pushed old region was may = record {
  order = all_pairs_push EndsBefore old region was.order may.after;
  within = All-push (λ it. end_of it ≤ largest_end) old region was.within may.within;
}

-- regions in order, whether or not a call made the change
pub in_order_if : (made : Bool) (new old : List Region) → AreInOrder new → AreInOrder old → AreInOrder (if made then new else old)
in_order_if true new old after before = after
in_order_if false new old after before = before

-- a region that is taken out, and those that are left
pub removed_one : (old : List Region) (index : ℕ) (region : Region) → index < length old → HoldsAt (λ it. it ≡ region) old index
    → IsPermutation old (region ∷ remove old index)
removed_one old index region less is =
    let rest = drop-cons old index region less ∙ ap (λ it. it ∷ drop (suc index) old) (is region) in
    let split : old ≡ take index old ++ region ∷ drop (suc index) old =
    sym (take-append-drop index old) ∙ ap (λ it. take index old ++ it) rest in
    subst (λ it. IsPermutation it (region ∷ remove old index)) (sym split) (IsPermutation-middle (take index old) region (drop (suc index) old))

-- the regions that are left keep their order
pub in_order_removed : (old : List Region) (index : ℕ) (region : Region) → index < length old → HoldsAt (λ it. it ≡ region) old index
    → AreInOrder old → AreInOrder (remove old index)
in_order_removed old index region less is was = record {
  order = all_pairs_remove EndsBefore old index less was.order;
  within = λ k d end. All-permutation (λ it. end_of it ≤ largest_end) old (region ∷ remove old index) (removed_one old index region less is) was.within (suc k) d (omega arith);
}

-- a region in a gap keeps the order
module _ (old : List Region) (n index start : ℕ) (was : AreInOrder old) (gap : IsGap old n index start) where
  abbrev pub region : Region
  region = record { start = start; size = n }

  abbrev pub new : List Region
  new = insert old index region

  below : (k : ℕ) (d : Region) → k < index → slice_index_or new k d ≡ slice_index_or old k d
  below k d less = get_or-insert_below old index region d k less gap.at

  here : (d : Region) → slice_index_or new index d ≡ region
  here d = get_or-insert_at old index region d gap.at

  above : (k : ℕ) (d : Region) → index < k → slice_index_or new k d ≡ slice_index_or old (k - 1) d
  above k d less = let same : k ≡ (k - 1) + 1 = omega arith in ap (λ it. slice_index_or new it d) same ∙ get_or-insert_above old index region d (k - 1) (omega arith) gap.at

  ordered : (i j : ℕ) (d : Region) → i < j → j < length new → EndsBefore (slice_index_or new i d) (slice_index_or new j d)
  ordered i j d less end = let size = length-insert old index region gap.at in elim (cases_lt j index) [
    | inl before ↦ rw (below i d (omega arith)) (rw (below j d before) (was.order i j d less (omega arith)))
    | inr after ↦ elim (cases_lt index j) [
      | inr is ↦ let same : j ≡ index = omega arith in rw same (rw (here d) (rw (below i d (omega arith)) (gap.before i d (omega arith) (omega arith))))
      | inl later ↦ rw (above j d later) (elim (cases_lt i index) [
        | inl before ↦ rw (below i d before) (was.order i (j - 1) d (omega arith) (omega arith))
        | inr after' ↦ elim (cases_lt index i) [
          | inl later' ↦ rw (above i d later') (was.order (i - 1) (j - 1) d (omega arith) (omega arith))
          | inr is ↦ let same : i ≡ index = omega arith in rw same (rw (here d) (gap.after (j - 1) d (omega arith) (omega arith)))
        ]
      ])
    ]
  ]

  pub in_order_inserted : AreInOrder new
  in_order_inserted = record {
    order = ordered;
    within = All-permutation (λ it. end_of it ≤ largest_end) (region ∷ old) new (IsPermutation-insert old index region)
        (All-cons (λ it. end_of it ≤ largest_end) region old gap.within was.within);
  }

  -- a region in a gap is one that was free, in use with the others
  pub reserved : IsReserved old new n region
  reserved = record {
    size_is = refl;
    within = gap.within;
    free = λ k d less. elim (cases_lt k index) [
      | inl before ↦ inr (gap.before k d (omega arith) before)
      | inr after ↦ inl (gap.after k d after less)
    ];
    lowest = gap.lowest;
    used = IsPermutation-insert old index region;
  }

-- the bytes of the first n of these regions
abbrev pub sum_of : ℕ → List Region → ℕ
sum_of n regions = sum_by (λ (region : Region). region.size) (take n regions)

-- those of one more
pub one_more : (regions : List Region) (d : Region) (n : ℕ) → n < length regions
    → sum_of (n + 1) regions ≡ sum_of n regions + (slice_index_or regions n d).size
one_more regions d n less =
    ap (sum_by (λ (region : Region). region.size)) (take_more regions n d less)
    ∙ sum_by_push (λ (region : Region). region.size) (take n regions) (slice_index_or regions n d)

-- the first n regions, which all end at b or before it, have at most b bytes
bytes_before : (regions : List Region) → AllPairs EndsBefore regions → (d : Region) (n : ℕ) → n ≤ length regions
    → (b : ℕ) → ((k : ℕ) → k < n → end_of (slice_index_or regions k d) ≤ b) → sum_of n regions ≤ b
bytes_before regions order d zero le b each = omega arith
bytes_before regions order d (suc n) le b each =
    let before = bytes_before regions order d n (omega arith) (slice_index_or regions n d).start (λ k less. order k n d less (omega arith)) in
    let last = each n (omega arith) in
    let more = one_more regions d n (omega arith) in
    let same : suc n ≡ n + 1 = omega arith in
    rw same (omega arith)

-- so a file may have as many
pub sum_fits : (regions : List Region) (d : Region) (n : ℕ) → AreInOrder regions → n ≤ length regions → sum_of n regions ≤ largest_end
sum_fits regions d n was le = bytes_before regions was.order d n le largest_end (λ k less. was.within k d (omega arith))

-- the bytes of regions that end here or before are no more
pub sum_within : (regions : List Region) (b : ℕ) → AreInOrder regions → All (λ (it : Region). end_of it ≤ b) regions
    → sum_by (λ (it : Region). it.size) regions ≤ b
sum_within regions b was each =
    let d : Region = record { start = 0; size = 0 } in
    let less = bytes_before regions was.order d (length regions) (omega arith) b (λ k less. each k d less) in
    subst (λ n. n ≤ b) (ap (sum_by (λ (it : Region). it.size)) (take_all (length regions) regions (omega arith))) less
