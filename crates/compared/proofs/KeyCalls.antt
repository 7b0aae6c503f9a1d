-- The keys that were read are those of the chunks, but for staged uploads, in order.
use Rattle.std.proofs.Common.{pos, ◌≡◌, ◌∙◌, ◌||◌, ◌&&◌, ℕ, ℤ, ◌+◌, ◌<◌, suc, zero, Bool, true, false, not, cond, List, [], ◌∷◌, map, filter, find, length, slice_index_or, Some, is_some, Ordering, Less, Equal, Greater, is_lt, IsPermutation, IsSorted, refl, sym, ap, subst, arith, add-one}
use Rattle.std.specs.Bool.{Decides}
use Rattle.std.specs.List.{list_any, AllByRecursion, AllAdjacentBelow, IsAllAdjacentAnswer}
use Rattle.std.specs.List.Sorted.{IsSortedBy}
use Rattle.std.specs.Ordering.{int_cmp, int_eq, nat_cmp, ordering_then}
use Rattle.std.proofs.lemmas.Bool.Decides.{nat_tests}
use Rattle.std.proofs.lemmas.Int.{ints}
use Rattle.refinement.proofs.Orders.{sorted_map}
use Rattle.std.proofs.lemmas.Bool.{true≢false}
use Rattle.std.proofs.lemmas.List.Sorted.{IsPermutation-map, IsPermutation-sym, IsPermutation-trans}
use Rattle.sqlite_keyed.proofs.ListLemmas.{all_weaker, filter-map, filter_same, IsPermutation-filter}
use Rattle.tables.specs.Rows.{Chunk, Upload, Tables}
use Rattle.tables.specs.Statements.{is_staged, is_staged_with, is_upload}
use Rattle.tables.specs.Staging.{UploadFields, upload_fields, read_upload, AreUploadsOf}
use Rattle.tables.specs.declared.rows.UploadRow.{UploadRow}
use Rattle.store.specs.Normal.{is_of_staged, settled}
use Rattle.tables.specs.declared.rows.ChunkKey.{ChunkKey}
use Rattle.tables.specs.Listing.{KeyFields, key_fields, read_key}
use Rattle.compared.specs.Keys.{AreKeysInOrder, KeysRise, key_cmp}
use Rattle.compared.proofs.KeyLists.{key_total}

-- ---- in order

-- the order in which the keys are sorted
sort_order : (a b : ChunkKey) → is_lt (ordering_then (int_cmp a.upload.number b.upload.number) (nat_cmp a.n b.n)) ≡ is_lt (key_cmp (read_key a) (read_key b))
sort_order a b = ap (λ o. is_lt (ordering_then (int_cmp a.upload.number b.upload.number) o)) (pos_order a.n b.n)
  where
    pos_order : (m n : ℕ) → nat_cmp m n ≡ int_cmp (pos m) (pos n)
    pos_order m n = grind (arith, ints, nat_tests)

pub sorted_keys : (ks : List ChunkKey) → IsSortedBy (λ (x y : ChunkKey). is_lt (ordering_then (int_cmp x.upload.number y.upload.number) (nat_cmp x.n y.n))) ks
    → IsSorted key_cmp (map read_key ks)
sorted_keys ks up = sorted_map key_cmp read_key ks (λ k d low high. sym (sort_order (slice_index_or ks (k + 1) d) (slice_index_or ks k d)) ∙ up k d low high)

pub keys_in_order : (found sorted : List ChunkKey) (chunks : List Chunk) → IsPermutation found sorted → IsSorted key_cmp (map read_key sorted)
    → IsPermutation (map read_key found) (map key_fields chunks) → AreKeysInOrder sorted chunks
keys_in_order found sorted chunks moved up all = record {
  all = IsPermutation-trans (map read_key sorted) (map read_key found) (map key_fields chunks)
      (IsPermutation-sym (map read_key found) (map read_key sorted) (IsPermutation-map read_key found sorted moved)) all;
  ordered = up;
}

-- ---- but for staged uploads

any-map : {A B : Type 0} (p : B → Bool) (f : A → B) (xs : List A) → list_any p (map f xs) ≡ list_any (λ x. p (f x)) xs
any-map p f [] = refl
any-map p f (x ∷ xs) = ap (λ b. p (f x) || b) (any-map p f xs)

any_staged : (id : ℤ) (us : List Upload) → list_any (λ (u : Upload). int_eq u.id id) (filter is_staged us) ≡ is_some (find (is_staged_with id) us)
any_staged id [] = refl
any_staged id (u ∷ us) = at (is_upload id u) (is_staged u) refl (any_staged id us)
  where
    at : (a b : Bool) → is_upload id u ≡ a → list_any (λ (v : Upload). int_eq v.id id) (filter is_staged us) ≡ is_some (find (is_staged_with id) us)
        → list_any (λ (v : Upload). int_eq v.id id) (cond b (u ∷ filter is_staged us) (filter is_staged us)) ≡ is_some (cond (a && b) (Some u) (find (is_staged_with id) us))
    at true true is rest = rw is refl
    at true false is rest = rest
    at false true is rest = rw is rest
    at false false is rest = rest

-- the key is that of a chunk of one of these uploads
abbrev pub is_among : List UploadRow → KeyFields → Bool
is_among rows k = list_any (λ u. int_eq (read_upload u).id k.upload) rows

among_staged : (rows : List UploadRow) (us : List Upload) → AreUploadsOf rows (filter is_staged us) → (c : Chunk) → not (is_among rows (key_fields c)) ≡ not (is_of_staged us c)
among_staged rows us are c =
    ap not (sym (any-map (λ (f : UploadFields). int_eq f.id c.upload) read_upload rows)
    ∙ ap (list_any (λ (f : UploadFields). int_eq f.id c.upload)) are
    ∙ any-map (λ (f : UploadFields). int_eq f.id c.upload) upload_fields (filter is_staged us)
    ∙ any_staged c.upload us)

pub settled_in_order : (rows : List UploadRow) (found kept sorted : List ChunkKey) (t : Tables) → kept ≡ filter (λ k. not (is_among rows (read_key k))) found
    → IsPermutation kept sorted → IsSorted key_cmp (map read_key sorted) → AreUploadsOf rows (filter is_staged t.uploads)
    → IsPermutation (map read_key found) (map key_fields t.chunks) → AreKeysInOrder sorted (settled t).chunks
settled_in_order rows found kept sorted t is moved up are all =
    keys_in_order kept sorted (settled t).chunks moved up
    (subst (λ l. IsPermutation l (map key_fields (settled t).chunks)) (filter-map (λ k. not (is_among rows k)) read_key found ∙ ap (map read_key) (sym is))
    (subst (IsPermutation (filter (λ k. not (is_among rows k)) (map read_key found)))
    (filter-map (λ k. not (is_among rows k)) key_fields t.chunks ∙ ap (map key_fields) (filter_same _ _ (among_staged rows t.uploads are) t.chunks))
    (IsPermutation-filter (λ k. not (is_among rows k)) (map read_key found) (map key_fields t.chunks) all)))

-- ---- keys that rise

-- the first key comes before the second
abbrev pub is_before : ChunkKey → ChunkKey → Bool
is_before a b = is_lt (key_cmp (read_key a) (read_key b))

less_from : (o : Ordering) → is_lt o ≡ true → o ≡ Less
less_from Less e = refl
less_from Equal e = absurd (true≢false (sym e))
less_from Greater e = absurd (true≢false (sym e))

before_all : (k : ChunkKey) (ks : List ChunkKey) → AllAdjacentBelow (λ a b. true ≡ is_before a b) (k ∷ ks) (length (k ∷ ks)) → KeysRise (map read_key ks) → AllByRecursion (λ j. key_cmp (read_key k) j ≡ Less) (map read_key ks)
before_all k [] near up = tt
before_all k (j ∷ ks) near up =
    let first = less_from (key_cmp (read_key k) (read_key j)) (sym (near 0 k (omega arith))) in
    (first, all_weaker (λ i. key_cmp (read_key j) i ≡ Less) (λ i. key_cmp (read_key k) i ≡ Less) (λ i later. key_total.trans (read_key k) (read_key j) i first later) (map read_key ks) up.0)

rises : (ks : List ChunkKey) → AllAdjacentBelow (λ a b. true ≡ is_before a b) ks (length ks) → KeysRise (map read_key ks)
rises [] near = tt
rises (k ∷ ks) near =
    let up = rises ks (λ i d less. rw add-one (rw add-one at (near (suc i) d (omega arith)))) in
    (before_all k ks near up, up)

falls : (ks : List ChunkKey) (i : ℕ) (d : ChunkKey) → KeysRise (map read_key ks) → i + 1 < length ks → is_before (slice_index_or ks i d) (slice_index_or ks (i + 1) d) ≡ true
falls [] i d up less = absurd (omega (arith, less))
falls (k ∷ []) i d up less = absurd (omega (arith, less))
falls (k ∷ j ∷ ks) zero d up less = ap is_lt up.0.0
falls (k ∷ j ∷ ks) (suc i) d up less = rw add-one (rw add-one at (falls (j ∷ ks) i d up.1 (omega (arith, less))))

pub rise_decided : (ks : List ChunkKey) (answer : Bool) → IsAllAdjacentAnswer (λ a b r. r ≡ is_before a b) ks answer → Decides answer (KeysRise (map read_key ks))
rise_decided ks true near = (λ _. rises ks near, λ _. refl)
rise_decided [] false pair = let less = pair.1 in absurd (omega (arith, less))
rise_decided (k ∷ ks) false pair =
    (λ e. absurd (true≢false (sym e)), λ up. pair.2 k ∙ falls (k ∷ ks) pair.0 k up pair.1)
