-- Lists: filtered, searched, at an index, and with another element in the middle.
use Rattle.placed.proofs.Prelude.{◌≡◌, ◌<◌, ℕ, suc, Bool, true, false, cond, List, [], ◌∷◌, ◌++◌, map, filter, find, flat_map, length, take, drop, Some, slice_get, slice_index_or, refl, sym, ap, ap₂, subst, ◌∙◌, add-one, true≢false, none-some, same_Some, AllByRecursion, IsAscending, all_weaker, filter-filter, slice_get-filter, map-append, take-append-drop, take-set, drop-set, split_at}
use Rattle.std.proofs.Common.{slice_set}
use Rattle.std.proofs.lemmas.List.{get_or_default}

-- ---- filtered and searched

pub filter_swap : {A : Type 0} (p q : A → Bool) (xs : List A) → filter p (filter q xs) ≡ filter q (filter p xs)
filter_swap p q [] = refl
filter_swap p q (x ∷ xs) = at (p x) (q x) refl refl (filter_swap p q xs)
  where
    at : (a b : Bool) → p x ≡ a → q x ≡ b → filter p (filter q xs) ≡ filter q (filter p xs)
        → filter p (cond b (x ∷ filter q xs) (filter q xs)) ≡ filter q (cond a (x ∷ filter p xs) (filter p xs))
    at true true e f rest = rw (e, f) (ap (λ l. x ∷ l) rest)
    at true false e f rest = rw f rest
    at false true e f rest = rw e rest
    at false false e f rest = rest

pub filter_every : {A : Type 0} (xs : List A) → xs ≡ filter (λ x. true) xs
filter_every [] = refl
filter_every (x ∷ xs) = ap (λ l. x ∷ l) (filter_every xs)

pub find_kept : {A : Type 0} (p q : A → Bool) → ((x : A) → p x ≡ true → q x ≡ true) → (xs : List A)
    → find p (filter q xs) ≡ find p xs
find_kept p q kept xs =
    sym (slice_get-filter p (filter q xs))
    ∙ ap (λ l. slice_get l 0) (filter-filter p q kept xs)
    ∙ slice_get-filter p xs

-- what is found passes the test
pub found_passes : {A : Type 0} (p : A → Bool) (xs : List A) (x : A) → find p xs ≡ Some x → p x ≡ true
found_passes p [] x found = cc
found_passes {A} p (y ∷ ys) x found = at (p y) refl found (found_passes p ys x)
  where
    at : (b : Bool) → p y ≡ b → cond b (Some y) (find p ys) ≡ Some x → (find p ys ≡ Some x → p x ≡ true) → p x ≡ true
    at true e is later = let same : y ≡ x = cc in ap p (sym same) ∙ e
    at false e is later = later is

-- what is found passes, and has what all have that pass a weaker test
pub found_among : {A : Type 0} (P : A → Type 0) (p q : A → Bool) → ((x : A) → p x ≡ true → q x ≡ true)
    → (xs : List A) (x : A) → find p xs ≡ Some x → AllByRecursion P (filter q xs) → P x × (p x ≡ true)
found_among P p q weaker [] x is all = absurd (none-some x is)
found_among {A} P p q weaker (y ∷ ys) x is all = at (p y) (q y) refl refl is all (found_among P p q weaker ys x)
  where
    at : (a b : Bool) → p y ≡ a → q y ≡ b → cond a (Some y) (find p ys) ≡ Some x
        → AllByRecursion P (cond b (y ∷ filter q ys) (filter q ys))
        → (find p ys ≡ Some x → AllByRecursion P (filter q ys) → P x × (p x ≡ true)) → P x × (p x ≡ true)
    at true true e f here every rest =
        let same : y ≡ x = same_Some y x here in (subst P same every.0, subst (λ z. p z ≡ true) same e)
    at true false e f here every rest = absurd (true≢false (sym (weaker y e) ∙ f))
    at false true e f later every rest = rest later every.1
    at false false e f later every rest = rest later every

-- the list around what is found
pub found_middle : {A : Type 0} (p : A → Bool) (xs : List A) (x : A) → find p xs ≡ Some x
    → (pre : List A) × (post : List A) × (xs ≡ pre ++ x ∷ post)
found_middle p [] x found = absurd (none-some x found)
found_middle {A} p (y ∷ ys) x found = at (p y) found (found_middle p ys x)
  where
    at : (b : Bool) → cond b (Some y) (find p ys) ≡ Some x
        → (find p ys ≡ Some x → (pre : List A) × (post : List A) × (ys ≡ pre ++ x ∷ post))
        → (pre : List A) × (post : List A) × (y ∷ ys ≡ pre ++ x ∷ post)
    at true here rest = ([], ys, ap (λ z. z ∷ ys) (same_Some y x here))
    at false later rest = let it = rest later in (y ∷ it.0, it.1, ap (λ l. y ∷ l) it.2)

pub flat_map_each : {A B : Type 0} (f g : A → List B) (xs : List A) → AllByRecursion (λ x. f x ≡ g x) xs
    → flat_map f xs ≡ flat_map g xs
flat_map_each f g [] each = refl
flat_map_each f g (x ∷ xs) each =
    ap (λ l. l ++ flat_map f xs) each.0 ∙ ap (λ l. g x ++ l) (flat_map_each f g xs each.1)

-- ---- at an index

-- the list around an index
pub list_at : {X : Type 0} (xs : List X) (index : ℕ) (x : X) → index < length xs → slice_index_or xs index x ≡ x
    → xs ≡ take index xs ++ x ∷ drop (suc index) xs
list_at xs index x less at = split_at xs index x less ∙ ap (λ y. take index xs ++ y ∷ drop (suc index) xs) at

-- two elements at one index are one
pub one_at : {X : Type 0} (xs : List X) (index : ℕ) (x y : X) → index < length xs → slice_index_or xs index x ≡ x
    → slice_index_or xs index y ≡ y → x ≡ y
one_at xs index x y less at at' = sym at ∙ get_or_default xs index x y less ∙ at'

pub set_at : {X : Type 0} (xs : List X) (index : ℕ) (y : X) → index < length xs
    → slice_set xs index y ≡ take index xs ++ y ∷ drop (suc index) xs
set_at xs index y less =
    sym (take-append-drop index (slice_set xs index y))
    ∙ ap₂ ◌++◌ (take-set xs index y) (drop-set xs index y less ∙ ap (λ (n : ℕ). y ∷ drop n xs) (add-one index))

-- ---- with an element in the middle

-- the element in the middle, and those around it
pub all_middle : {X : Type 0} (P : X → Type 0) (pre post : List X) (e : X) → AllByRecursion P (pre ++ e ∷ post)
    → AllByRecursion P pre × (P e × AllByRecursion P post)
all_middle P [] post e all = (tt, all)
all_middle P (x ∷ pre) post e all = let rest = all_middle P pre post e all.1 in ((all.0, rest.0), rest.1)

-- an element is so related to those before and after it
pub ascending_middle : {X : Type 0} (R : X → X → Type 0) (pre post : List X) (e : X) → IsAscending R (pre ++ e ∷ post)
    → AllByRecursion (λ x. R x e) pre × AllByRecursion (R e) post
ascending_middle R [] post e up = (tt, up.0)
ascending_middle R (x ∷ pre) post e up = let rest = ascending_middle R pre post e up.1 in (((all_middle (R x) pre post e up.0).1.0, rest.0), rest.1)

module _ {A : Type 0} where
  pub all_replaced : (P : A → Type 0) (xs ys : List A) (x y : A) → (P x → P y) → AllByRecursion P (xs ++ x ∷ ys)
      → AllByRecursion P (xs ++ y ∷ ys)
  all_replaced P [] ys x y f all = (f all.0, all.1)
  all_replaced P (z ∷ xs) ys x y f all = (all.0, all_replaced P xs ys x y f all.1)

  pub ascending_replaced : (R : A → A → Type 0) (xs ys : List A) (x y : A) → ((z : A) → R z x → R z y)
      → ((z : A) → R x z → R y z) → IsAscending R (xs ++ x ∷ ys) → IsAscending R (xs ++ y ∷ ys)
  ascending_replaced R [] ys x y below above up = (all_weaker (R x) (R y) above ys up.0, up.1)
  ascending_replaced R (z ∷ xs) ys x y below above up =
      (all_replaced (R z) xs ys x y (below z) up.0, ascending_replaced R xs ys x y below above up.1)

-- what holds of all of a list holds of one with another element in the place of one
pub all_exchanged : {A : Type 0} {before after : List A} (P : A → Type 0) (xs ys : List A) (x y : A)
    → before ≡ xs ++ x ∷ ys → after ≡ xs ++ y ∷ ys → (P x → P y) → AllByRecursion P before → AllByRecursion P after
all_exchanged P xs ys x y was is f all =
    subst (AllByRecursion P) (sym is) (all_replaced P xs ys x y f (subst (AllByRecursion P) was all))

pub ascending_exchanged : {A : Type 0} {before after : List A} (R : A → A → Type 0) (xs ys : List A) (x y : A)
    → before ≡ xs ++ x ∷ ys → after ≡ xs ++ y ∷ ys → ((z : A) → R z x → R z y) → ((z : A) → R x z → R y z)
    → IsAscending R before → IsAscending R after
ascending_exchanged R xs ys x y was is below above up =
    subst (IsAscending R) (sym is) (ascending_replaced R xs ys x y below above (subst (IsAscending R) was up))

-- one element exchanged for one that is alike
pub alike_at : {X Y : Type 0} (f : X → Y) (pre post : List X) (e e' : X) → f e ≡ f e'
    → map f (pre ++ e ∷ post) ≡ map f (pre ++ e' ∷ post)
alike_at f pre post e e' same = map-append f pre (e ∷ post) ∙ ap (λ y. map f pre ++ y ∷ map f post) same ∙ sym (map-append f pre (e' ∷ post))
