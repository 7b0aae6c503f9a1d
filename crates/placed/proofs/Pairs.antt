-- Each element of a list and each later one, whatever the order of the list is.
use Rattle.placed.proofs.Prelude.{suc, zero, List, [], ◌∷◌, arith, refl, IsAscending}
use Rattle.std.specs.List.{AllPairs}
use Rattle.std.specs.List.Sorted.{IsPermutation}
use Rattle.std.proofs.lemmas.List.Elements.{All-from_recursion, recursion_from_All}
use Rattle.std.proofs.lemmas.List.Sorted.{IsPermutation-refl, IsPermutation-cons, IsPermutation-swap, IsPermutation-trans}
use Rattle.sqlite_keyed.proofs.ListLemmas.{along_permutation}
use Rattle.sqlite_trees.proofs.ListLemmas.{all-permutation}

module _ {X : Type 0} (R : X → X → Type 0) where
  pub ascending_from_pairs : (xs : List X) → AllPairs R xs → IsAscending R xs
  ascending_from_pairs [] all = tt
  ascending_from_pairs (x ∷ xs) all = (
    recursion_from_All (R x) xs (λ k d less. all 0 (suc k) d (omega arith) (omega arith)),
    ascending_from_pairs xs (λ i j d less end. all (suc i) (suc j) d (omega arith) (omega arith)),
  )

  pub pairs_from_ascending : (xs : List X) → IsAscending R xs → AllPairs R xs
  pairs_from_ascending [] up i j d less end = absurd (omega arith)
  pairs_from_ascending (x ∷ xs) up zero zero d less end = absurd (omega arith)
  pairs_from_ascending (x ∷ xs) up zero (suc j) d less end = All-from_recursion (R x) xs up.0 j d (omega arith)
  pairs_from_ascending (x ∷ xs) up (suc i) zero d less end = absurd (omega arith)
  pairs_from_ascending (x ∷ xs) up (suc i) (suc j) d less end =
      pairs_from_ascending xs up.1 i j d (omega arith) (omega arith)

  module _ (turned : (x y : X) → R x y → R y x) where
    -- the second list has the elements of the first, and they are so related too
    abbrev Goes : List X → List X → Type 0
    Goes xs ys = IsPermutation xs ys × (IsAscending R xs → IsAscending R ys)

    pub ascending_permuted : (xs ys : List X) → IsPermutation xs ys → IsAscending R xs → IsAscending R ys
    ascending_permuted xs ys is = (along_permutation Goes
        (λ l. (IsPermutation-refl l, λ up. up))
        (λ x l m g. (IsPermutation-cons x l m g.0, λ up. (all-permutation (R x) l m g.0 up.0, g.1 up.1)))
        (λ x y l. (
          IsPermutation-swap (x ∷ y ∷ l) (y ∷ x ∷ l) 0 1 (omega arith) (omega arith) refl,
          λ up. ((turned x y up.0.0, up.1.0), (up.0.1, up.1.1)),
        ))
        (λ k l m g h. (IsPermutation-trans k l m g.0 h.0, λ up. h.1 (g.1 up)))
        xs ys is).1
