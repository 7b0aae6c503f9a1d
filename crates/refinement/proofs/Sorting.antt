-- Sorted lists.
use Rattle.refinement.proofs.Prelude.{◌≡◌, ◌∙◌, ◌<◌, ℕ, zero, suc, pos, Bool, true, false, cond, List, [], ◌∷◌, Ordering, Less, Equal, Greater, is_lt, is_gt, refl, sym, ap, AllPairs, IsPermutation, IsSorted, arith, add-one, AllByRecursion, int_cmp, ordering_reverse, IsTotalOrder, true≢false, upto, ints, All-from_recursion, AllPairs-cons, IsAscending, insert_sorted, sorted_unique, each_weaker}
use Rattle.sqlite_keyed.specs.Lists.{sort_by}

pub less : (a b : ℕ) → a < b → int_cmp (pos a) (pos b) ≡ Less
less a b h = grind (arith, ints)

-- a rising list, as pairs of each element and a later one
pub into_pairs : {X : Type 0} (R : X → X → Type 0) (xs : List X) → IsAscending R xs → AllPairs R xs
into_pairs R [] up = λ i j d below within. absurd (omega (arith, within))
into_pairs R (x ∷ xs) up = AllPairs-cons R x xs (All-from_recursion (R x) xs up.0) (into_pairs R xs up.1)

module _ {X : Type 0} (cmp : X → X → Ordering) (total : IsTotalOrder cmp) where
  -- an element is not after another
  abbrev pub NotAfter : X → X → Type 0
  NotAfter a b = is_gt (cmp a b) ≡ false

  each_inserted : (P : X → Type 0) (new : X) (xs : List X) → P new → AllByRecursion P xs → AllByRecursion P (insert_sorted cmp new xs)
  each_inserted P new [] h all = (h, tt)
  each_inserted P new (x ∷ xs) h all =
      elim (is_gt (cmp new x)) as (λ v. AllByRecursion P (cond v (x ∷ insert_sorted cmp new xs) (new ∷ x ∷ xs))) [
        | true ↦ (all.0, each_inserted P new xs h all.1)
        | false ↦ (h, all)
      ]

  -- what holds of each element holds of each in the sorted list
  pub each_sorted : (P : X → Type 0) (xs : List X) → AllByRecursion P xs → AllByRecursion P (sort_by cmp xs)
  each_sorted P [] all = tt
  each_sorted P (x ∷ xs) all = each_inserted P x (sort_by cmp xs) all.0 (each_sorted P xs all.1)

  turned : (o : Ordering) → is_gt o ≡ true → is_gt (ordering_reverse o) ≡ false
  turned Less e = absurd (true≢false (sym e))
  turned Equal e = absurd (true≢false (sym e))
  turned Greater e = refl

  inserted_rises : (new : X) (xs : List X) → IsAscending NotAfter xs → IsAscending NotAfter (insert_sorted cmp new xs)
  inserted_rises new [] up = (tt, tt)
  inserted_rises new (x ∷ xs) up = at (is_gt (cmp new x)) refl (inserted_rises new xs up.1)
    where
      at : (v : Bool) → is_gt (cmp new x) ≡ v → IsAscending NotAfter (insert_sorted cmp new xs) → IsAscending NotAfter (cond v (x ∷ insert_sorted cmp new xs) (new ∷ x ∷ xs))
      at true e rest = (each_inserted (NotAfter x) new xs (ap is_gt (total.antisymm x new) ∙ turned (cmp new x) e) up.0, rest)
      at false e rest = ((e, each_weaker (NotAfter x) (NotAfter new) xs (λ z. upto total new x z e) up.0), up)

  -- a sorted list rises
  pub sorted_rises : (xs : List X) → IsAscending NotAfter (sort_by cmp xs)
  sorted_rises [] = tt
  sorted_rises (x ∷ xs) = inserted_rises x (sort_by cmp xs) (sorted_rises xs)

  not_less : (o : Ordering) → is_gt o ≡ false → is_lt (ordering_reverse o) ≡ false
  not_less Less e = refl
  not_less Equal e = refl
  not_less Greater e = e

  -- a rising list is sorted
  pub is_sorted : (xs : List X) → IsAscending NotAfter xs → IsSorted cmp xs
  is_sorted [] up k d p q = absurd (omega (arith, q))
  is_sorted (x ∷ []) up zero d p q = absurd (omega (arith, q))
  is_sorted (x ∷ []) up (suc k) d p q = absurd (omega (arith, q))
  is_sorted (x ∷ y ∷ ys) up zero d p q = ap is_lt (total.antisymm y x) ∙ not_less (cmp x y) up.0.0
  is_sorted (x ∷ y ∷ ys) up (suc k) d p q = rw add-one (rw add-one at (is_sorted (y ∷ ys) up.1 k d (omega arith) (omega arith)))

  -- elements of which no two tie have one rising order
  pub one_order : (xs ys : List X) → IsAscending (λ a b. cmp a b ≡ Less) xs → IsPermutation xs ys → IsAscending NotAfter ys → ys ≡ xs
  one_order xs ys strict same up = sorted_unique cmp total xs ys strict same (is_sorted ys up)
