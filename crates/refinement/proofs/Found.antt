-- Lookups in a list, whatever its order.
use Rattle.refinement.proofs.Prelude.{◌≡◌, suc, Bool, true, false, List, [], ◌∷◌, map, find, cond, Option, Some, None, option_map, IfSome, refl, sym, ap, subst, ◌∙◌, All, AllPairs, IsPermutation, arith, AllByRecursion, true≢false, cond_both, none-some, recursion_from_All, All-from_recursion, All-permutation, IsPermutation-sym}

-- ---- the first that passes a test

no_cond : {A : Type 0} (v : Bool) (y : A) (rest : Option A) → cond v (Some y) rest ≡ None → (v ≡ false) × (rest ≡ None)
no_cond true y rest e = absurd (cc)
no_cond false y rest e = (refl, e)

pub none_passes : {A : Type 0} (p : A → Bool) (xs : List A) → find p xs ≡ None → AllByRecursion (λ y. p y ≡ false) xs
none_passes p [] e = tt
none_passes p (y ∷ ys) e = let no = no_cond (p y) y (find p ys) e in (no.0, none_passes p ys no.1)

find_none : {A : Type 0} (p : A → Bool) (xs : List A) → AllByRecursion (λ y. p y ≡ false) xs → find p xs ≡ None
find_none p [] all = refl
find_none p (y ∷ ys) all = rw all.0 (find_none p ys all.1)

pub find_map : {A B : Type 0} (p : B → Bool) (f : A → B) (xs : List A) → find p (map f xs) ≡ option_map f (find (λ x. p (f x)) xs)
find_map p f [] = refl
find_map p f (x ∷ xs) =
    elim (p (f x)) as (λ v. cond v (Some (f x)) (find p (map f xs)) ≡ option_map f (cond v (Some x) (find (λ y. p (f y)) xs))) [
      | true ↦ refl
      | false ↦ find_map p f xs
    ]

-- each element that passes the test is x
abbrev pub IsOnly : {A : Type 0} → (A → Bool) → A → List A → Type 0
IsOnly p x xs = AllByRecursion (λ y. p y ≡ true → y ≡ x) xs

found_only : {A : Type 0} (p : A → Bool) (x : A) (xs : List A) → IsOnly p x xs → IfSome (find p xs) (λ y. y ≡ x)
found_only p x [] only = tt
found_only p x (y ∷ ys) only =
    cond_both (p y) (Some y) (find p ys) (λ o. IfSome o (λ z. z ≡ x)) only.0 (λ _. found_only p x ys only.1)

none_permuted : {A : Type 0} (p : A → Bool) (xs ys : List A) → IsPermutation xs ys → find p xs ≡ None → find p ys ≡ None
none_permuted {A = A} p xs ys same e =
    let P : A → Type 0 = λ y. p y ≡ false in
    find_none p ys (recursion_from_All P ys (All-permutation P xs ys same (All-from_recursion P xs (none_passes p xs e))))

some_found : {A : Type 0} (x : A) (o : Option A) → (o ≡ None → ⊥) → IfSome o (λ y. y ≡ x) → o ≡ Some x
some_found x (Some y) some is = ap Some is
some_found x None some is = absurd (some refl)

one_permuted : {A : Type 0} (p : A → Bool) (x : A) (xs ys : List A) → IsPermutation xs ys → IsOnly p x xs → find p xs ≡ Some x → find p ys ≡ Some x
one_permuted {A = A} p x xs ys same only e =
    let P : A → Type 0 = λ y. p y ≡ true → y ≡ x in
    let only' : IsOnly p x ys = recursion_from_All P ys (All-permutation P xs ys same (All-from_recursion P xs only)) in
    some_found x (find p ys) (λ none. none-some x (sym (none_permuted p ys xs (IsPermutation-sym xs ys same) none) ∙ e)) (found_only p x ys only')

-- ---- at most one element passes

pairs_tail : {A : Type 0} (R : A → A → Type 0) (x : A) (xs : List A) → AllPairs R (x ∷ xs) → AllPairs R xs
pairs_tail R x xs all i j d below within = all (suc i) (suc j) d (omega arith) (omega arith)

pub pairs_head : {A : Type 0} (R : A → A → Type 0) (x : A) (xs : List A) → AllPairs R (x ∷ xs) → All (R x) xs
pairs_head R x xs all k d within = all 0 (suc k) d (omega arith) (omega arith)

-- two elements related by R do not both pass
abbrev pub Excludes : {A : Type 0} → (A → Bool) → (A → A → Type 0) → Type 0
Excludes {A} p R = (x y : A) → R x y → p x ≡ true → p y ≡ true → ⊥

rest_fails : {A : Type 0} (p : A → Bool) (R : A → A → Type 0) (x : A) (xs : List A) → Excludes p R → p x ≡ true → AllByRecursion (R x) xs → IsOnly p x xs
rest_fails p R x [] excludes passes others = tt
rest_fails p R x (y ∷ ys) excludes passes others =
    (λ also. absurd (excludes x y others.0 passes also), rest_fails p R x ys excludes passes others.1)

also_first : {A : Type 0} (p : A → Bool) (x : A) (xs : List A) (o : Option A) → p x ≡ false → IfSome o (λ y. IsOnly p y xs) → IfSome o (λ y. IsOnly p y (x ∷ xs))
also_first p x xs None is rest = tt
also_first p x xs (Some y) is rest = ((λ also. absurd (true≢false (sym also ∙ is))), rest)

-- the first that passes is the only one
pub only_first : {A : Type 0} (p : A → Bool) (R : A → A → Type 0) (xs : List A) → Excludes p R → AllPairs R xs → IfSome (find p xs) (λ x. IsOnly p x xs)
only_first p R [] excludes all = tt
only_first p R (x ∷ xs) excludes all = at (p x) refl (only_first p R xs excludes (pairs_tail R x xs all))
  where
    at : (v : Bool) → p x ≡ v → IfSome (find p xs) (λ y. IsOnly p y xs) → IfSome (cond v (Some x) (find p xs)) (λ y. IsOnly p y (x ∷ xs))
    at true is rest = ((λ _. refl), rest_fails p R x xs excludes is (recursion_from_All (R x) xs (pairs_head R x xs all)))
    at false is rest = also_first p x xs (find p xs) is rest

only_map : {B C : Type 0} (g : B → C) (p : C → Bool) (b : B) (bs : List B) → IsOnly (λ y. p (g y)) b bs → IsOnly p (g b) (map g bs)
only_map g p b [] only = tt
only_map g p b (y ∷ ys) only = ((λ passes. ap g (only.0 passes)), only_map g p b ys only.1)

found_as : {A B C : Type 0} (f : A → C) (g : B → C) (p : C → Bool) (xs : List A) (ys : List B) (o : Option B)
    → IsPermutation (map f xs) (map g ys) → find (λ y. p (g y)) ys ≡ o → IfSome o (λ y. IsOnly (λ z. p (g z)) y ys)
    → option_map f (find (λ x. p (f x)) xs) ≡ option_map g o
found_as f g p xs ys None same e only =
    sym (find_map p f xs) ∙ none_permuted p (map g ys) (map f xs) (IsPermutation-sym (map f xs) (map g ys) same) (find_map p g ys ∙ ap (option_map g) e)
found_as f g p xs ys (Some y) same e only =
    sym (find_map p f xs)
    ∙ one_permuted p (g y) (map g ys) (map f xs) (IsPermutation-sym (map f xs) (map g ys) same) (only_map g p y ys only) (find_map p g ys ∙ ap (option_map g) e)

-- lookups in two lists find the same, mapped by f on one side and by g on the other
pub same_found : {A B C : Type 0} (f : A → C) (g : B → C) (p : C → Bool) (R : B → B → Type 0) (xs : List A) (ys : List B)
    → IsPermutation (map f xs) (map g ys) → Excludes (λ y. p (g y)) R → AllPairs R ys
    → option_map f (find (λ x. p (f x)) xs) ≡ option_map g (find (λ y. p (g y)) ys)
same_found f g p R xs ys same excludes all =
    found_as f g p xs ys (find (λ y. p (g y)) ys) same refl (only_first (λ y. p (g y)) R ys excludes all)

pub map_itself : {A : Type 0} (xs : List A) → map (λ x. x) xs ≡ xs
map_itself [] = refl
map_itself (x ∷ xs) = ap (λ ys. x ∷ ys) (map_itself xs)

map_none : {A : Type 0} (o : Option A) → option_map (λ x. x) o ≡ o
map_none None = refl
map_none (Some x) = refl

-- the same, if only the first list is mapped
pub found_of : {A C : Type 0} (f : A → C) (p : C → Bool) (R : C → C → Type 0) (xs : List A) (ys : List C)
    → IsPermutation (map f xs) ys → Excludes p R → AllPairs R ys → option_map f (find (λ x. p (f x)) xs) ≡ find p ys
found_of f p R xs ys same excludes all =
    same_found f (λ y. y) p R xs ys (subst (IsPermutation (map f xs)) (sym (map_itself ys)) same) excludes all ∙ map_none (find p ys)
