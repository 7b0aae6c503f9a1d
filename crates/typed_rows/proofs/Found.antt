-- From the rows that a statement returns to the result of a call.
use Rattle.typed_rows.proofs.Prelude.{◌≡◌, ℕ, suc, ne_eqb, arith, Bool, true, false, not, cond, eqb, is_some, length, Some, refl, List, [], ◌∷◌, map, find, slice_get, option_map, Option, Result, Ok, Err, IfOk, OnOk, sym, ap, ◌∙◌, ℕ, zero, ◌+◌, ◌<◌, ◌++◌, take, get_or, subst, slice_get-filter}
use Rattle.std.proofs.Common.{filter}
use Rattle.std.proofs.lemmas.List.{map-append}

-- a fact holds in particular if a result is Ok
pub always : {A E : Type 0} (P : Type 0) → P → (r : Result A E) → OnOk r P
always P p (Ok x) = p
always P p (Err e) = tt

pub both_ok : {A E : Type 0} (P Q : Type 0) (r : Result A E) → OnOk r P → OnOk r Q → OnOk r (P × Q)
both_ok P Q (Ok x) p q = (p, q)
both_ok P Q (Err e) p q = tt

pub with_fact : {A E : Type 0} (Q : Type 0) (P : A → Type 0) (r : Result A E) → Q → IfOk r P → IfOk r (λ x. Q × P x)
with_fact Q P (Ok x) q p = (q, p)
with_fact Q P (Err e) q p = tt

-- the first row that passes
pub first_found : {A X E F : Type 0} (read : X → F) (fields : A → F) (p : A → Bool) (xs : List A) (r : Result (Option X) E) → IfOk r (λ found. option_map read found ≡ option_map fields (slice_get (filter p xs) 0))
    → IfOk r (λ found. option_map read found ≡ option_map fields (find p xs))
first_found read fields p xs (Ok found) h = h ∙ ap (option_map fields) (slice_get-filter p xs)
first_found read fields p xs (Err e) h = tt

no_zero : (n : ℕ) → eqb (suc n) 0 ≡ false
no_zero n = ne_eqb (suc n) 0 (omega arith)

-- no row is returned if no row passes
pub none_shown : {A R : Type 0} (show : A → R) (p : A → Bool) (xs : List A) (rows : List R) (empty : Bool) → rows ≡ map show (filter p xs) → empty ≡ eqb (length rows) 0 → is_some (find p xs) ≡ not empty
none_shown {A} show p xs rows empty are is = go xs ∙ ap not (sym (is ∙ ap (λ l. eqb (length l) 0) are))
  where
    here : (y : A) (ys : List A) (b : Bool) → is_some (find p ys) ≡ not (eqb (length (map show (filter p ys))) 0) → is_some (cond b (Some y) (find p ys)) ≡ not (eqb (length (map show (cond b (y ∷ filter p ys) (filter p ys)))) 0)
    here y ys true rest = sym (ap not (no_zero (length (map show (filter p ys)))))
    here y ys false rest = rest

    go : (ys : List A) → is_some (find p ys) ≡ not (eqb (length (map show (filter p ys))) 0)
    go [] = refl
    go (y ∷ ys) = here y ys (p y) (go ys)

-- one more row is read
module _ {A R F X : Type 0} (show : A → R) (fields : A → F) (read : X → F) where
  pub element : (row : R) (xs : List A) (i : ℕ) → i < length (map show xs) → (a : A) × (get_or (map show xs) i row ≡ show a) × (take (suc i) xs ≡ take i xs ++ a ∷ [])
  element row [] i within = absurd (omega arith)
  element row (a ∷ xs) zero within = (a, refl, refl)
  element row (a ∷ xs) (suc i) within = let rest = element row xs i (omega arith) in (rest.0, rest.1, ap (λ l. a ∷ l) rest.2)

  pub one_more : (rows : List R) (xs : List A) (i : ℕ) (row : R) (x : X) (found new : List X) → rows ≡ map show xs → i < length rows → row ≡ get_or rows i row → ((a : A) → row ≡ show a → read x ≡ fields a)
      → map read found ≡ map fields (take i xs) → new ≡ found ++ x ∷ [] → map read new ≡ map fields (take (i + 1) xs)
  one_more rows xs i row x found new all within at reads before pushed =
      let here = element row xs i (subst (λ l. i < length l) all within) in
      let is : row ≡ show here.0 = at ∙ ap (λ l. get_or l i row) all ∙ here.1 in
      let next : suc i ≡ i + 1 = omega arith in
      ap (map read) pushed ∙ map-append read found (x ∷ []) ∙ (λ j. before j ++ reads here.0 is j ∷ []) ∙ sym (map-append fields (take i xs) (here.0 ∷ []))
      ∙ ap (map fields) (sym here.2 ∙ ap (λ n. take n xs) next)
