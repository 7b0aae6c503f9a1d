-- Lists of rows, compared row by row; for proofs in other crates too.
use Rattle.std.proofs.Common.{Option, Some, None, [], ◌∷◌, map, zero, suc, refl, ap, ap₂, ◌≡◌, ◌∙◌, ℕ, ◌+◌, ◌<◌, inl, inr, ◌⊎◌, List, length, slice_index_or, arith, sym, subst}
use Rattle.std.proofs.lemmas.Bool.{cases_eq}
use Rattle.std.proofs.lemmas.List.{get_or_default}
use Rattle.std.proofs.lemmas.Option.{same_Some}
use Rattle.compared.specs.Comparing.{ArePaired}

-- ---- lists that are one

pub head_same : {A : Type 0} (x y : A) (xs ys : List A) → x ∷ xs ≡ y ∷ ys → x ≡ y
head_same {A = A} x y xs ys e = same_Some x y (ap (λ l. first l) e)
  where
    first : List A → Option A
    first [] = None
    first (z ∷ zs) = Some z

pub tail_same : {A : Type 0} (x y : A) (xs ys : List A) → x ∷ xs ≡ y ∷ ys → xs ≡ ys
tail_same {A = A} x y xs ys e = ap (λ l. rest l) e
  where
    rest : List A → List A
    rest [] = []
    rest (z ∷ zs) = zs

-- ---- rows that are so related

module _ {X : Type 0} (R : X → X → Type 0) (xs ys : List X) where
  -- the first n rows are so related
  abbrev pub ArePairedBelow : ℕ → Type 0
  ArePairedBelow n = (k : ℕ) (d e : X) → k < n → R (slice_index_or xs k d) (slice_index_or ys k e)

  pub paired_next : (n : ℕ) (x y : X) → n < length xs → length xs ≡ length ys → x ≡ slice_index_or xs n x → y ≡ slice_index_or ys n y → R x y
      → ArePairedBelow n → ArePairedBelow (n + 1)
  paired_next n x y low lengths at_x at_y related below k d e less = go (cases_eq k n)
    where
      go : (k ≡ n) ⊎ ((k ≡ n) → ⊥) → R (slice_index_or xs k d) (slice_index_or ys k e)
      go (inl is) =
          subst (λ i. R (slice_index_or xs i d) (slice_index_or ys i e)) (sym is)
          (subst (λ a. R a (slice_index_or ys n e)) (at_x ∙ get_or_default xs n x d low) (subst (R x) (at_y ∙ get_or_default ys n y e (omega (arith, low, lengths))) related))
      go (inr other) = below k d e (omega (arith, less, other))

-- ---- rows that are the same in what a function reads

module _ {X Y : Type 0} (f : X → Y) where
  pub maps_from_paired : (xs ys : List X) → ArePaired (λ a b. f a ≡ f b) xs ys → map f xs ≡ map f ys
  maps_from_paired [] [] p = refl
  maps_from_paired [] (y ∷ ys) p = let long = p.lengths in absurd (omega (arith, long))
  maps_from_paired (x ∷ xs) [] p = let long = p.lengths in absurd (omega (arith, long))
  maps_from_paired (x ∷ xs) (y ∷ ys) p =
      let long = p.lengths in
      ap₂ (λ z l. z ∷ l) (p.each 0 x y (omega arith))
      (maps_from_paired xs ys (record { lengths = omega (arith, long); each = λ i d e less. p.each (suc i) d e (omega (arith, less)) }))

  pub paired_from_maps : (xs ys : List X) → map f xs ≡ map f ys → ArePaired (λ a b. f a ≡ f b) xs ys
  paired_from_maps [] [] e = record { lengths = refl; each = λ i d k less. absurd (omega (arith, less)) }
  paired_from_maps [] (y ∷ ys) e = absurd (omega (arith, ap length e))
  paired_from_maps (x ∷ xs) [] e = absurd (omega (arith, ap length e))
  paired_from_maps (x ∷ xs) (y ∷ ys) e =
      let rest = paired_from_maps xs ys (tail_same (f x) (f y) (map f xs) (map f ys) e) in
      let long = rest.lengths in
      record { lengths = omega (arith, long); each = at rest }
    where
      at : ArePaired (λ a b. f a ≡ f b) xs ys → (i : ℕ) (d k : X) → i < length (x ∷ xs) → f (slice_index_or (x ∷ xs) i d) ≡ f (slice_index_or (y ∷ ys) i k)
      at rest zero d k less = head_same (f x) (f y) (map f xs) (map f ys) e
      at rest (suc i) d k less = rest.each i d k (omega (arith, less))

-- the same lists, by other names
pub paired_at : {X : Type 0} (R : X → X → Type 0) (xs ys us vs : List X) → xs ≡ us → ys ≡ vs → ArePaired R xs ys → ArePaired R us vs
paired_at R xs ys us vs p q paired = subst (λ l. ArePaired R l vs) p (subst (ArePaired R xs) q paired)
