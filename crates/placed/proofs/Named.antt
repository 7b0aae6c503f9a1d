-- The rows that a call found are the places of the tables: what holds of their regions and uploads holds of the places.
use Rattle.placed.proofs.Prelude.{◌≡◌, ◌≢◌, inl, inr, ℕ, ℤ, ◌+◌, ◌<◌, ◌≤◌, List, [], ◌∷◌, ◌++◌, map, length, take, slice_index_or, map-append, ap₂, Option, Some, refl, sym, ap, subst, ◌∙◌, same_Some, All, Contains, AllByRecursion, IsAscending, all_weaker, Ok, Vec, Ghosts, IsHonest, HasTables, Reads, shown, places_in, Region, Regions, regions_of, Chunk, AreSeparate, region_in}
use Rattle.std.specs.List.Sorted.{IsPermutation}
use Rattle.std.proofs.lemmas.List.Elements.{All-from_recursion, recursion_from_All, All-contains_itself, All-push}
use Rattle.std.proofs.lemmas.List.{map_more}
use Rattle.std.proofs.lemmas.List.Sorted.{IsPermutation-map, IsPermutation-sym, Contains-permutation}
use Rattle.sqlite_keyed.proofs.ListLemmas.{all_map, all_unmap, ascending-map, ascending_from_map, ascending_weaker, map-map}
use Rattle.sqlite_trees.proofs.ListLemmas.{all-permutation}
use Rattle.contents.specs.Regions.{AreInOrder, EndsBefore, IsLastEnd, end_of}
use Rattle.tables.specs.declared.rows.NumberedChunk.{NumberedChunk}
use Rattle.tables.specs.Staging.{upload_number, NumberedFields, numbered_fields, read_numbered}
use Rattle.placed.specs.Opening.{AreGood, AreNamed, AreTaken, IsGoodPlace, IsNamed, IsRegion, IsTaken}
use Rattle.placed.proofs.Pairs.{ascending_from_pairs, ascending_permuted}

-- ---- regions

pub separate_turned : (a b : Region) → AreSeparate a b → AreSeparate b a
separate_turned a b (inl before) = inr before
separate_turned a b (inr after) = inl after

-- regions that follow each other have no byte in common
pub in_order_apart : (regions : List Region) → AreInOrder regions → IsAscending AreSeparate regions
in_order_apart regions are =
    ascending_weaker EndsBefore AreSeparate (λ a b before. inl before) regions
    (ascending_from_pairs EndsBefore regions are.order)

-- what two rows name has no byte in common
abbrev AreNamedApart : Option Region → Option Region → Type 0
AreNamedApart o p = (r q : Region) → o ≡ Some r → p ≡ Some q → AreSeparate r q

named_turned : (o p : Option Region) → AreNamedApart o p → AreNamedApart p o
named_turned o p apart r q e f = separate_turned q r (apart q r f e)

some_apart : (a b : Region) → AreSeparate a b → AreNamedApart (Some a) (Some b)
some_apart a b apart r q e f =
    subst (λ (x : Region). AreSeparate x q) (same_Some a r e) (subst (AreSeparate a) (same_Some b q f) apart)

-- ---- rows

-- the rows that a call read are the places
pub found_rows : {S : Type 0} (g : Ghosts S) (old new : S) (found : Vec NumberedChunk)
    → Reads g old new (Ok found) (λ t rows. IsPermutation (map read_numbered rows.items) (map numbered_fields (places_in t)))
    → IsHonest g new → HasTables g old → (rows : List NumberedChunk) → rows ≡ found.items
    → IsPermutation (map read_numbered rows) (map numbered_fields (places_in (shown g old)))
found_rows g old new found read k h rows is =
    subst (λ l. IsPermutation (map read_numbered l) (map numbered_fields (places_in (shown g old)))) (sym is)
    (read.answers k h).1

-- one more row
pub named_next : (rows : List NumberedChunk) (index : ℕ) (row : NumberedChunk) (regions : List Region) (region : Region)
    → index < length rows → row ≡ slice_index_or rows index row → AreNamed (take index rows) regions
    → IsNamed row.bytes.items region → AreNamed (take (index + 1) rows) (regions ++ region ∷ [])
named_next rows index row regions region less is named next = record {
  means =
      map_more (λ (x : NumberedChunk). region_in x.bytes.items) rows index row less
      ∙ ap₂ (λ l o. l ++ o ∷ []) named.means
      (ap (λ (x : NumberedChunk). region_in x.bytes.items) (sym is) ∙ next.means)
      ∙ sym (map-append Some regions (region ∷ []));
  are = All-push IsRegion regions region named.are next.is;
}

module _ (rows : List NumberedChunk) (places : List Chunk)
    (is : IsPermutation (map read_numbered rows) (map numbered_fields places)) where
  -- the bytes, the regions and the uploads of the rows
  abbrev row_bytes : List (List ℕ)
  row_bytes = map (λ (row : NumberedChunk). row.bytes.items) rows

  abbrev row_regions : List (Option Region)
  row_regions = map (λ (row : NumberedChunk). region_in row.bytes.items) rows

  abbrev pub row_uploads : List ℤ
  row_uploads = map (λ (row : NumberedChunk). upload_number row.upload) rows

  -- those of the places
  abbrev place_bytes : List (List ℕ)
  place_bytes = map (λ (c : Chunk). c.bytes) places

  abbrev place_regions : List (Option Region)
  place_regions = map (λ (c : Chunk). region_in c.bytes) places

  abbrev place_uploads : List ℤ
  place_uploads = map (λ (c : Chunk). c.upload) places

  -- what is read of rows and of places alike is the same, but for the order
  alike : {X : Type 0} (f : NumberedFields → X)
      → IsPermutation (map (λ row. f (read_numbered row)) rows) (map (λ c. f (numbered_fields c)) places)
  alike f =
      subst (λ l. IsPermutation l (map (λ c. f (numbered_fields c)) places)) (map-map f read_numbered rows)
      (subst (IsPermutation (map f (map read_numbered rows))) (map-map f numbered_fields places)
      (IsPermutation-map f (map read_numbered rows) (map numbered_fields places) is))

  same_bytes : IsPermutation row_bytes place_bytes
  same_bytes = alike (λ x. x.bytes)

  same_regions : IsPermutation row_regions place_regions
  same_regions = alike (λ x. region_in x.bytes)

  same_uploads : IsPermutation row_uploads place_uploads
  same_uploads = alike (λ x. x.upload)

  module _ (regions : List Region) (named : AreNamed rows regions) where
    -- what the row names is a region in use
    abbrev IsUsed : List Region → Option Region → Type 0
    IsUsed used o = (r : Region) × (o ≡ Some r) × IsRegion r × Contains used r

    pub are_taken : (found : Regions) → IsPermutation regions (regions_of found)
        → IsAscending (λ (a b : ℤ). a ≢ b) row_uploads → AreTaken (regions_of found) places
    are_taken found order single = record {
      each = all_weaker (λ (c : Chunk). IsUsed used (region_in c.bytes)) (IsTaken used)
          (λ c it. record { region = it.0; named = record { means = it.1; is = it.2 }; used = it.3 }) places
          (all_unmap (IsUsed used) (λ (c : Chunk). region_in c.bytes) places
          (all-permutation (IsUsed used) row_regions place_regions same_regions
          (subst (AllByRecursion (IsUsed used)) (sym named.means) (all_map (IsUsed used) Some regions in_use))));
      distinct = record {
        separate = ascending_from_map AreNamedApart (λ (c : Chunk). region_in c.bytes) places
            (ascending_permuted AreNamedApart named_turned row_regions place_regions same_regions
            (subst (IsAscending AreNamedApart) (sym named.means)
            (ascending-map AreNamedApart Some regions (ascending_weaker AreSeparate _ some_apart regions apart))));
        single = ascending_from_map (λ (a b : ℤ). a ≢ b) (λ (c : Chunk). c.upload) places
            (ascending_permuted (λ (a b : ℤ). a ≢ b) (λ a b other same. other (sym same)) row_uploads place_uploads
            same_uploads single);
      };
    }
      where
        used : List Region
        used = regions_of found

        in_use : AllByRecursion (λ (r : Region). IsUsed (regions_of found) (Some r)) regions
        in_use = recursion_from_All _ regions (λ k d less. (
          _,
          refl,
          named.are k d less,
          Contains-permutation regions (regions_of found) _ order (All-contains_itself regions k d less),
        ))

        apart : IsAscending AreSeparate regions
        apart = ascending_permuted AreSeparate separate_turned (regions_of found) regions
            (IsPermutation-sym regions (regions_of found) order)
            (in_order_apart (regions_of found) found.in_order)

  -- ---- places that are good

  module _ (len : ℕ) (good : AreGood len places) where
    pub good_named : All (λ (row : NumberedChunk). (r : Region) × IsNamed row.bytes.items r) rows
    good_named =
        let Names : List ℕ → Type 0 = λ bytes. (r : Region) × IsNamed bytes r in
        All-from_recursion _ rows (all_unmap Names (λ (row : NumberedChunk). row.bytes.items) rows
        (all-permutation Names place_bytes row_bytes (IsPermutation-sym row_bytes place_bytes same_bytes)
        (all_map Names (λ (c : Chunk). c.bytes) places
        (all_weaker (IsGoodPlace len) _ (λ c it. (it.region, it.named)) places good.each))))

    pub good_uploads : IsAscending (λ (a b : ℤ). a ≢ b) row_uploads
    good_uploads =
        ascending_permuted (λ (a b : ℤ). a ≢ b) (λ a b other same. other (sym same)) place_uploads row_uploads
        (IsPermutation-sym row_uploads place_uploads same_uploads)
        (ascending-map (λ (a b : ℤ). a ≢ b) (λ (c : Chunk). c.upload) places good.distinct.single)

    module _ (regions : List Region) (named : AreNamed rows regions) where
      pub good_apart : IsAscending AreSeparate regions
      good_apart =
          ascending_weaker (λ a b. AreNamedApart (Some a) (Some b)) AreSeparate (λ a b apart. apart a b refl refl) regions
          (ascending_from_map AreNamedApart Some regions
          (subst (IsAscending AreNamedApart) named.means
          (ascending_permuted AreNamedApart named_turned place_regions row_regions
          (IsPermutation-sym row_regions place_regions same_regions)
          (ascending-map AreNamedApart (λ (c : Chunk). region_in c.bytes) places good.distinct.separate))))

      -- what the row names ends within the file
      abbrev EndsWithin : Option Region → Type 0
      EndsWithin o = (r : Region) → o ≡ Some r → end_of r ≤ len

      ends_within : AllByRecursion (λ (r : Region). end_of r ≤ len) regions
      ends_within =
          all_weaker (λ (r : Region). EndsWithin (Some r)) _ (λ r within. within r refl) regions
          (all_unmap EndsWithin Some regions
          (subst (AllByRecursion EndsWithin) named.means
          (all-permutation EndsWithin place_regions row_regions (IsPermutation-sym row_regions place_regions same_regions)
          (all_map EndsWithin (λ (c : Chunk). region_in c.bytes) places
          (all_weaker (IsGoodPlace len) _ within places good.each)))))
        where
          within : (c : Chunk) → IsGoodPlace len c → EndsWithin (region_in c.bytes)
          within c it r e =
              subst (λ (x : Region). end_of x ≤ len) (same_Some it.region r (sym it.named.means ∙ e)) it.within

      -- the file is long enough for all of them
      pub good_end : (found : List Region) (end : ℕ) → IsPermutation regions found → IsLastEnd found end → end ≤ len
      good_end found end order last =
          last.least len (All-from_recursion _ found
          (all-permutation (λ (r : Region). end_of r ≤ len) regions found order ends_within))
