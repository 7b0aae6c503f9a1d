-- The order of the definitions: of elements of which no two tie, it is the one sorted order.
use Rattle.refinement.proofs.Prelude.{◌≡◌, ◌∙◌, ℕ, suc, zero, Bool, true, false, cond, List, [], ◌∷◌, map, filter, bytes_eq, Ordering, Less, Equal, Greater, is_lt, is_gt, refl, sym, ap, AllPairs, IsPermutation, IsSorted, AllByRecursion, IsTotalOrder, IsAscending, arith, add-one, true≢false, on_total, is_eq-slice_cmp, sha256, World, IsWorld, Object}
use Rattle.std.specs.Ordering.{is_eq, nat_cmp}
use Rattle.std.specs.Cmp.Lexicographic.{slice_cmp}
use Rattle.std.proofs.lemmas.Cmp.{nat_list_cmp_total}
use Rattle.std.proofs.lemmas.List.Elements.{recursion_from_All}
use Rattle.std.proofs.lemmas.Slice.Eq.{bytes_eq-Decides}
use Rattle.sqlite_keyed.specs.Lists.{insert_sorted, sort_by}
use Rattle.sqlite_keyed.proofs.SortLemmas.{HasNoTies, sorted_is-sort_by}
use Rattle.model.specs.Orders as model
use Rattle.model.specs.RepoState.{ObjectSize, object_size, objects_of, retired_of}
use Rattle.model.specs.Views.{OwnToken, own_token, is_issued_to, tokens_of}
use Rattle.model.specs.World.{Retired, DiffersInDigest, DiffersInName, DiffersInRetired}
use Rattle.refinement.proofs.Sorting.{NotAfter, each_sorted, is_sorted}

-- a list is sorted by a key if its keys are sorted
pub sorted_map : {A X : Type 0} (cmp : X → X → Ordering) (f : A → X) (ys : List A) → IsSorted (λ a b. cmp (f a) (f b)) ys → IsSorted cmp (map f ys)
sorted_map cmp f [] s k d p q = absurd (omega (arith, q))
sorted_map cmp f (x ∷ []) s zero d p q = absurd (omega (arith, q))
sorted_map cmp f (x ∷ []) s (suc k) d p q = absurd (omega (arith, q))
sorted_map cmp f (x ∷ y ∷ ys) s zero d p q = s 0 x (omega arith) (omega arith)
sorted_map cmp f (x ∷ y ∷ ys) s (suc k) d p q =
    let rest : IsSorted (λ a b. cmp (f a) (f b)) (y ∷ ys) = λ j e low high. rw add-one (rw add-one at (s (suc j) e (omega arith) (omega arith))) in
    rw add-one (rw add-one at (sorted_map cmp f (y ∷ ys) rest k d (omega arith) (omega arith)))

module _ {X : Type 0} (cmp : X → X → Ordering) (total : IsTotalOrder cmp) where
  -- two elements do not tie
  abbrev Differ : X → X → Type 0
  Differ a b = is_eq (cmp a b) ≡ false

  abbrev before : X → X → Bool
  before a b = is_lt (cmp a b)

  same_insert : (x : X) (ys : List X) → AllByRecursion (Differ x) ys → model.insert_by before x ys ≡ insert_sorted cmp x ys
  same_insert x [] apart = refl
  same_insert x (y ∷ ys) apart = at (cmp x y) apart.0 (same_insert x ys apart.1)
    where
      at : (o : Ordering) → is_eq o ≡ false → model.insert_by before x ys ≡ insert_sorted cmp x ys
          → cond (is_lt o) (x ∷ y ∷ ys) (y ∷ model.insert_by before x ys) ≡ cond (is_gt o) (y ∷ insert_sorted cmp x ys) (x ∷ y ∷ ys)
      at Less e rest = refl
      at Equal e rest = absurd (true≢false e)
      at Greater e rest = ap (λ l. y ∷ l) rest

  same_sort : (xs : List X) → HasNoTies cmp total xs → model.sort_by before xs ≡ sort_by cmp xs
  same_sort [] apart = refl
  same_sort (x ∷ xs) apart = ap (model.insert_by before x) (same_sort xs apart.1) ∙ same_insert x (sort_by cmp xs) (each_sorted cmp total (Differ x) xs apart.0)

  -- a sorted list is in the order of the definitions
  pub sorted_by : (xs ys : List X) → HasNoTies cmp total xs → IsPermutation xs ys → IsSorted cmp ys → ys ≡ model.sort_by before xs
  sorted_by xs ys apart same sorted = sorted_is-sort_by cmp total xs ys apart same sorted ∙ sym (same_sort xs apart)

  -- elements that are kept of a list whose elements differ
  module _ {A : Type 0} (R : A → A → Type 0) (keep : A → Bool) (f : A → X) (differ : (a b : A) → keep a ≡ true → keep b ≡ true → R a b → Differ (f a) (f b)) where
    each_apart : (a : A) (bs : List A) → keep a ≡ true → AllByRecursion (R a) bs → AllByRecursion (Differ (f a)) (map f (filter keep bs))
    each_apart a [] kept all = tt
    each_apart a (b ∷ bs) kept all = at (keep b) refl (each_apart a bs kept all.1)
      where
        at : (v : Bool) → keep b ≡ v → AllByRecursion (Differ (f a)) (map f (filter keep bs)) → AllByRecursion (Differ (f a)) (map f (cond v (b ∷ filter keep bs) (filter keep bs)))
        at true e rest = (differ a b kept e all.0, rest)
        at false e rest = rest

    pub no_ties : (items : List A) → AllPairs R items → HasNoTies cmp total (map f (filter keep items))
    no_ties [] all = tt
    no_ties (a ∷ items) all = at (keep a) refl (no_ties items (λ i j d below within. all (suc i) (suc j) d (omega (arith, below)) (omega (arith, within))))
      where
        at : (v : Bool) → keep a ≡ v → HasNoTies cmp total (map f (filter keep items)) → HasNoTies cmp total (map f (cond v (a ∷ filter keep items) (filter keep items)))
        at true e rest = (each_apart a items e (recursion_from_All (R a) items (λ j d within. all 0 (suc j) d (omega arith) (omega (arith, within)))), rest)
        at false e rest = rest

-- ---- the lists of a view

-- texts that differ do not tie
texts_differ : (a b : List ℕ) → (a ≡ b → ⊥) → is_eq (slice_cmp nat_cmp a b) ≡ false
texts_differ a b apart = is_eq-slice_cmp a b ∙ at (bytes_eq a b) refl
  where
    at : (v : Bool) → bytes_eq a b ≡ v → v ≡ false
    at true e = absurd (apart ((bytes_eq-Decides a b).0 e))
    at false e = refl

-- the order of tokens by digest
abbrev pub token_cmp : OwnToken → OwnToken → Ordering
token_cmp a b = slice_cmp nat_cmp a.digest b.digest

-- the order of objects by name
abbrev pub size_cmp : ObjectSize → ObjectSize → Ordering
size_cmp a b = slice_cmp nat_cmp a.name b.name

pub token_total : IsTotalOrder token_cmp
token_total = on_total (λ (t : OwnToken). t.digest) nat_list_cmp_total

pub size_total : IsTotalOrder size_cmp
size_total = on_total (λ (o : ObjectSize). o.name) nat_list_cmp_total

-- the tokens of a user for a repository, by digest
pub tokens_in_order : (world : World) (user repo : List ℕ) (ys : List OwnToken) → IsWorld world
    → IsPermutation (map own_token (filter (is_issued_to user repo) world.tokens)) ys → IsSorted token_cmp ys → ys ≡ tokens_of user repo world
tokens_in_order world user repo ys w same sorted =
    let apart = no_ties token_cmp token_total DiffersInDigest (is_issued_to user repo) own_token (λ a b _ _ differ. texts_differ (sha256 a.text) (sha256 b.text) differ) world.tokens w.digests in
    sorted_by token_cmp token_total _ ys apart same sorted

in_one : (repo : List ℕ) (a b : Object) → bytes_eq a.repo repo ≡ true → bytes_eq b.repo repo ≡ true → DiffersInName a b → is_eq (slice_cmp nat_cmp a.name b.name) ≡ false
in_one repo a b p q differ = texts_differ a.name b.name (differ ((bytes_eq-Decides a.repo repo).0 p ∙ sym ((bytes_eq-Decides b.repo repo).0 q)))

-- the objects of a repository, by name
pub objects_in_order : (world : World) (repo : List ℕ) (ys : List ObjectSize) → IsWorld world
    → IsPermutation (map object_size (filter (λ o. bytes_eq o.repo repo) world.objects)) ys → IsAscending (NotAfter size_cmp size_total) ys → ys ≡ objects_of repo world
objects_in_order world repo ys w same up =
    let apart = no_ties size_cmp size_total DiffersInName (λ o. bytes_eq o.repo repo) object_size (in_one repo) world.objects w.names in
    sorted_by size_cmp size_total _ ys apart same (is_sorted size_cmp size_total ys up)

one_name : (repo : List ℕ) (a b : Retired) → bytes_eq a.repo repo ≡ true → bytes_eq b.repo repo ≡ true → DiffersInRetired a b → is_eq (slice_cmp nat_cmp a.name b.name) ≡ false
one_name repo a b p q differ = texts_differ a.name b.name (differ ((bytes_eq-Decides a.repo repo).0 p ∙ sym ((bytes_eq-Decides b.repo repo).0 q)))

-- the retired names of a repository, in rising order
pub retired_in_order : (world : World) (repo : List ℕ) (ys : List (List ℕ)) → IsWorld world
    → IsPermutation (map (λ (r : Retired). r.name) (filter (λ r. bytes_eq r.repo repo) world.retired)) ys → IsAscending (NotAfter (slice_cmp nat_cmp) nat_list_cmp_total) ys → ys ≡ retired_of repo world
retired_in_order world repo ys w same up =
    let apart = no_ties (slice_cmp nat_cmp) nat_list_cmp_total DiffersInRetired (λ r. bytes_eq r.repo repo) (λ (r : Retired). r.name) (one_name repo) world.retired w.once in
    sorted_by (slice_cmp nat_cmp) nat_list_cmp_total _ ys apart same (is_sorted (slice_cmp nat_cmp) nat_list_cmp_total ys up)
