-- What a repository has in the database is at most the bytes of its objects and one largest object, for proofs in other crates.
use Rattle.uploads.proofs.Prelude.{◌≡◌, ◌⊎◌, ◌∙◌, inl, inr, ℕ, ◌+◌, ◌≤◌, pos, Bool, true, false, not, List, [], ◌∷◌, map, filter, cond, length, bytes_eq, refl, sym, ap, AllPairs, arith, sum_by, AllByRecursion, IsPermutation-filter, all-filter, filter_none, Ghosts, largest_object, World, Object, Tables, Upload, Chunk, is_complete, is_staged, shown, bytes_of, object_in, HasSize, DiffersInRepo, IsAmong, IsBoundedBy, Represents, Holds}
use Rattle.std.proofs.lemmas.Bool.{true≢false}
use Rattle.std.proofs.lemmas.List.Sorted.{sum_by-IsPermutation}
use Rattle.std.proofs.lemmas.List.Sums.{sum_by-cons}
use Rattle.model.specs.World.{total}
use Rattle.model.specs.Bounds.{Bound}
use Rattle.model.proofs.Lists.{IsOnly, each_weaker}
use Rattle.model.proofs.Once.{only_of}
use Rattle.refinement.proofs.Lookups.{same_is}
use Rattle.uploads.specs.Bounds.{stored_in, AreWithin, StoresWithin, LeavesWithin}

-- the upload is staged or complete
abbrev IsMarked : Upload → Type 0
IsMarked u = (u.done ≡ pos 0) ⊎ (u.done ≡ pos 1)

-- ---- sums of filtered lists

kept_or_left : {A : Type 0} (f : A → ℕ) (v : Bool) (x : A) (xs : List A) → sum_by f (cond v (x ∷ xs) xs) ≡ cond v (f x) 0 + sum_by f xs
kept_or_left f true x xs = sum_by-cons f x xs
kept_or_left f false x xs = omega arith

-- if at most one element passes, its value is the sum
one_passes : {A : Type 0} (f : A → ℕ) (p : A → Bool) (most : ℕ) (xs : List A) → IsOnly p xs → AllByRecursion (λ x. f x ≤ most) xs → sum_by f (filter p xs) ≤ most
one_passes f p most [] only all = omega arith
one_passes f p most (x ∷ xs) only all = at (p x) only.0 (one_passes f p most xs only.1 all.1)
  where
    at : (v : Bool) → (v ≡ true → AllByRecursion (λ y. p y ≡ false) xs) → sum_by f (filter p xs) ≤ most → sum_by f (cond v (x ∷ filter p xs) (filter p xs)) ≤ most
    at true none rest = omega (arith, sum_by-cons f x (filter p xs), ap (sum_by f) (filter_none p xs (none refl)), all.0)
    at false none rest = rest

-- ---- the bytes of uploads

module _ (chunks : List Chunk) (repo : List ℕ) where
  abbrev own : Upload → Bool
  own u = bytes_eq u.repo repo

  abbrev owned : Object → Bool
  owned o = bytes_eq o.repo repo

  abbrev amount : Upload → ℕ
  amount u = length (bytes_of u.id chunks)

  abbrev bytes : Object → ℕ
  bytes o = length o.bytes

  -- the bytes of complete uploads are those of objects
  abbrev complete_bytes : List Upload → ℕ
  complete_bytes us = sum_by bytes (filter owned (map (object_in chunks) us))

  abbrev staged_bytes : List Upload → ℕ
  staged_bytes us = sum_by amount (filter own us)

  marked_once : (u : Upload) → IsMarked u → is_staged u ≡ not (is_complete u)
  marked_once u (inl is) = rw is refl
  marked_once u (inr is) = rw is refl

  split : (us : List Upload) → AllByRecursion IsMarked us → sum_by amount (filter own us) ≡ complete_bytes (filter is_complete us) + staged_bytes (filter is_staged us)
  split [] all = refl
  split (u ∷ us) all = at (is_complete u) (is_staged u) (marked_once u all.0) (split us all.1)
    where
      at : (c s : Bool) → s ≡ not c → sum_by amount (filter own us) ≡ complete_bytes (filter is_complete us) + staged_bytes (filter is_staged us)
          → sum_by amount (filter own (u ∷ us)) ≡ complete_bytes (cond c (u ∷ filter is_complete us) (filter is_complete us)) + staged_bytes (cond s (u ∷ filter is_staged us) (filter is_staged us))
      at true true not_both rest = absurd (true≢false not_both)
      at true false one rest =
          omega (arith, rest, kept_or_left amount (own u) u (filter own us), kept_or_left bytes (own u) (object_in chunks u) (filter owned (map (object_in chunks) (filter is_complete us))))
      at false true one rest = omega (arith, rest, kept_or_left amount (own u) u (filter own us), kept_or_left amount (own u) u (filter own (filter is_staged us)))
      at false false none rest = absurd (true≢false (sym none))

  -- a repository's staged upload has at most the bytes of a largest object
  staged_small : (us : List Upload) → AllPairs DiffersInRepo (filter is_staged us) → AllByRecursion (λ u. HasSize (amount u) u) us → staged_bytes (filter is_staged us) ≤ largest_object
  staged_small us apart sizes =
      one_passes amount own largest_object (filter is_staged us)
      (only_of DiffersInRepo own (filter is_staged us) (λ x y differ a b. differ (same_is x.repo repo a ∙ sym (same_is y.repo repo b))) apart)
      (all-filter (λ u. amount u ≤ largest_object) is_staged us
      (each_weaker (λ u. HasSize (amount u) u) (λ u. amount u ≤ largest_object) us (λ u size. omega (arith, size.fits, size.in_range)) sizes))

-- the bytes of complete uploads are the stored total
complete_total : (t : Tables) (world : World) (repo : List ℕ) → Represents t world → complete_bytes t.chunks repo (filter is_complete t.uploads) ≡ total repo world
complete_total t world repo r =
    let same : Object → Bool = λ o. bytes_eq o.repo repo in
    let rows = map (object_in t.chunks) (filter is_complete t.uploads) in
    sym (sum_by-IsPermutation (λ (o : Object). length o.bytes) (filter same rows) (filter same world.objects) (IsPermutation-filter same rows world.objects r.objects.complete))

-- what a repository stores is at most its total and one largest object
pub stored_bound : (t : Tables) (world : World) (repo : List ℕ) → Represents t world → AllByRecursion IsMarked t.uploads → stored_in repo t ≤ total repo world + largest_object
stored_bound t world repo r marked =
    omega (arith, split t.chunks repo t.uploads marked, complete_total t world repo r, staged_small t.chunks repo t.uploads r.objects.staged r.objects.sizes)

module _ {S : Type 0} (g : Ghosts S) where
  pub stores_within : (s : S) (world : World) (repo : List ℕ) (most : ℕ) → Holds g s world → total repo world ≤ most → StoresWithin g s repo (most + largest_object)
  stores_within s world repo most h within k o =
      omega (arith, within, stored_bound (shown g s) world repo (h.shows k o) (h.ready.marked k o))

  within_one : (t : Tables) (repo : List ℕ) (most : ℕ) (bound : Bound) → AllByRecursion IsMarked t.uploads → IsAmong t bound → AreWithin repo most bound → stored_in repo t ≤ most + largest_object
  within_one t repo most [] marked among within = absurd among
  within_one t repo most (world ∷ bound) marked (inl is) within = omega (arith, within.0, stored_bound t world repo is.1 marked)
  within_one t repo most (world ∷ bound) marked (inr rest) within = within_one t repo most bound marked rest within.1

  pub leaves_within : (s : S) (bound : Bound) (repo : List ℕ) (most : ℕ) → IsBoundedBy g s bound → AreWithin repo most bound → LeavesWithin g s repo (most + largest_object)
  leaves_within s bound repo most bounded within k t left =
      within_one t repo most bound left.1 (bounded.among k t left) within
