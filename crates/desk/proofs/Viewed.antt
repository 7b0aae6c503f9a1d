-- What a view lists is what the world has.
use Rattle.model.specs.Policy.{Policy}
use Rattle.desk.proofs.Prelude.{◌≡◌, ◌∙◌, Lock, ℕ, true, false, List, [], ◌∷◌, map, filter, length, bytes_eq, Some, refl, sym, ap, ap₂, subst, AllByRecursion, AllZip, arith, World, IsWorld, Object, Ghosts, repo_text}
use Rattle.std.proofs.Common.{AllPairs, IsPermutation, IsSorted, Ordering, ℤ, pos, suc}
use Rattle.std.specs.Ordering.{ordering_then, is_gt, nat_cmp}
use Rattle.std.specs.Cmp.Lexicographic.{slice_cmp}
use Rattle.std.proofs.lemmas.Cmp.{nat_list_cmp_total, tied_itself}
use Rattle.std.proofs.lemmas.List.Elements.{All-from_recursion, recursion_from_All}
use Rattle.std.proofs.lemmas.Slice.Eq.{bytes_eq-Decides}
use Rattle.sqlite_trees.specs.Tree.{IsAscending}
use Rattle.model.proofs.Lists.{each_passes}
use Rattle.std.proofs.lemmas.List.Sorted.{All-permutation, IsPermutation-map, IsPermutation-sym, IsPermutation-trans}
use Rattle.model.specs.RepoState.{ObjectSize, object_size, objects_of}
use Rattle.model.specs.Views as model
use Rattle.model.specs.Views.{own_token, is_issued_to, tokens_of}
use Rattle.tables.specs.Steps.{TokenFields, read_token}
use Rattle.tables.specs.declared.rows.TokenRow.{TokenRow}
use Rattle.tables.specs.declared.rows.UploadRow.{UploadRow}
use Rattle.refinement.proofs.Same.{map_back, operation_back, operation_in}
use Rattle.refinement.proofs.Sorting.{NotAfter}
use Rattle.refinement.proofs.Orders.{objects_in_order, size_cmp, size_total, sorted_map, token_cmp, tokens_in_order}
use Rattle.tokens.specs.Holding.{fields_of_token, is_of}
use Rattle.uploads.specs.Listing.{IsNotAfter, IsRowOf, Lists}
use Rattle.desk.specs.Views.{digest_cmp, own_of, own_seen, size_of_row, size_seen}
use Rattle.desk.specs.declared.views.OwnToken.{OwnToken}

nat_in : ℤ → ℕ
nat_in (pos n) = n
nat_in _ = 0

own_in : TokenFields → model.OwnToken
own_in f = record { digest = f.digest; operation = operation_in f.op; expires = nat_in f.expires }

row_back : (r : TokenRow) → own_in (read_token r) ≡ own_of r
unfolding own_in nat_in
row_back r = ap (λ o. record { digest = r.digest; operation = o; expires = r.expires }) (operation_back r.operation)

token_back : (t : _) → own_in (fields_of_token t) ≡ own_token t
unfolding own_in nat_in
token_back t = ap (λ o. record { digest = (own_token t).digest; operation = o; expires = t.expires }) (operation_back t.operation)

-- sorted by digest, the tokens of the rows are those of the view
pub tokens_shown : (world : World) (user repo : List ℕ) (rows : List TokenRow) (old new : List OwnToken) → IsWorld world
    → IsPermutation (map read_token rows) (map fields_of_token (filter (is_of user repo) world.tokens)) → map own_seen old ≡ map own_of rows
    → IsPermutation old new → IsSorted digest_cmp new → map own_seen new ≡ tokens_of user repo world
tokens_shown world user repo rows old new w found seen moved sorted =
    let own = filter (is_issued_to user repo) world.tokens in
    let fields = IsPermutation-map own_in _ _ (IsPermutation-sym (map read_token rows) (map fields_of_token own) found) in
    let same : IsPermutation (map own_token own) (map own_seen old) =
    subst (λ ts. IsPermutation (map own_token own) ts) (map_back own_in read_token own_of rows row_back ∙ sym seen)
    (subst (λ ts. IsPermutation ts (map own_in (map read_token rows))) (map_back own_in fields_of_token own_token own token_back) fields) in
    tokens_in_order world user repo (map own_seen new) w (IsPermutation-trans _ (map own_seen old) _ same (IsPermutation-map own_seen old new moved)) (sorted_map token_cmp own_seen new sorted)

-- ---- objects

-- the object is in the repository
abbrev IsIn : List ℕ → Object → Type 0
IsIn repo o = bytes_eq o.repo repo ≡ true

by_name : (repo : List ℕ) (a b : Object) → IsIn repo a → IsIn repo b → IsNotAfter a b → is_gt (slice_cmp nat_cmp a.name b.name) ≡ false
by_name repo a b p q up =
    let one = (bytes_eq-Decides a.repo repo).0 p ∙ sym ((bytes_eq-Decides b.repo repo).0 q) in
    let tied = ap (slice_cmp nat_cmp a.repo) (sym one) ∙ tied_itself nat_list_cmp_total a.repo in
    subst (λ (o : Ordering). is_gt (ordering_then o (slice_cmp nat_cmp a.name b.name)) ≡ false) tied up

names_after : (repo : List ℕ) (a : Object) (os : List Object) → IsIn repo a → AllByRecursion (IsIn repo) os → AllByRecursion (IsNotAfter a) os
    → AllByRecursion (NotAfter size_cmp size_total (object_size a)) (map object_size os)
names_after repo a [] p all up = tt
names_after repo a (o ∷ os) p all up = (by_name repo a o p all.0 up.0, names_after repo a os p all.1 up.1)

names_rise : (repo : List ℕ) (os : List Object) → AllByRecursion (IsIn repo) os → AllPairs IsNotAfter os → IsAscending (NotAfter size_cmp size_total) (map object_size os)
names_rise repo [] all up = tt
names_rise repo (o ∷ os) all up = (
  names_after repo o os all.0 all.1 (recursion_from_All (IsNotAfter o) os (λ j d within. up 0 (suc j) d (omega arith) (omega (arith, within)))),
  names_rise repo os all.1 (λ i j d below within. up (suc i) (suc j) d (omega (arith, below)) (omega (arith, within))),
)

module _ {S : Type 0} (g : Ghosts S) (s : S) where
  sizes_are : (rows : List UploadRow) (os : List Object) → AllZip (IsRowOf g s) rows os → map size_of_row rows ≡ map object_size os
  sizes_are [] [] all = refl
  sizes_are [] (o ∷ os) all = absurd all
  sizes_are (r ∷ rows) [] all = absurd all
  sizes_are (r ∷ rows) (o ∷ os) all = ap₂ (λ size sizes. size ∷ sizes) (ap₂ (λ name size. record { name = name; size = size }) all.0.name all.0.size) (sizes_are rows os all.1)

  -- the objects that are listed are those of the view
  pub objects_shown : (world : World) (repo : List ℕ) (rows : List UploadRow) → IsWorld world → Lists g world s (Some repo) rows → map size_of_row rows ≡ objects_of repo world
  objects_shown world repo rows w found =
      let own = filter (λ o. bytes_eq o.repo repo) world.objects in
      let back = IsPermutation-sym found.objects own found.same in
      let all = recursion_from_All (IsIn repo) found.objects (All-permutation (IsIn repo) own found.objects back (All-from_recursion (IsIn repo) own (each_passes (λ o. bytes_eq o.repo repo) world.objects))) in
      sizes_are rows found.objects found.each
      ∙ objects_in_order world repo (map object_size found.objects) w (IsPermutation-map object_size own found.objects back) (names_rise repo found.objects all found.rise)

-- ---- the whole view

-- a view with these parts
abbrev seen_as : List ℕ → List ℕ → Policy → List model.OwnToken → List ObjectSize → List (List ℕ) → List Lock → ℕ → ℤ → model.View
seen_as user repo policy tokens objects retired locks made room = record {
  user = user;
  repo = repo;
  policy = policy;
  tokens = tokens;
  state = record { objects = objects; retired = retired; locks = locks; made = made; room = room };
}

-- a view with the same tokens, objects, retired names, locks, count and room is the same
pub same_view : (user repo : List ℕ) (policy : Policy) (t u : List model.OwnToken) (o p : List ObjectSize) (g h : List (List ℕ)) (l k : List Lock) (m n : ℕ) (r q : ℤ) → t ≡ u → o ≡ p → g ≡ h → l ≡ k → m ≡ n → r ≡ q
    → seen_as user repo policy t o g l m r ≡ seen_as user repo policy u p h k n q
same_view user repo policy t u o p g h l k m n r q a b c d e f = rw (a, b, c, d, e, f) refl
