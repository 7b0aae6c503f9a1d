-- Lists in `sort_by` order, and lookups in them.
use Rattle.std.proofs.Common.{◌≡◌, Bool, true, false, ◌&&◌, List, [], ◌∷◌, refl, sym, ap, ◌∙◌, Option, Some, None, find, filter, cond, map, zero, suc, arith, inl, inr, ◌⊎◌, option_map, subst, ◌++◌}
use Rattle.std.specs.List.{AllByRecursion, Contains}
use Rattle.std.specs.Bool.{⊤}
use Rattle.std.proofs.lemmas.Option.{none-some, same_Some}
use Rattle.std.proofs.lemmas.Bool.{cond_both, true≢false}
use Rattle.model.specs.Orders.{insert_by, sort_by}

-- ---- nothing is found

pub not_found : {A : Type 0} (b : Bool) (x : A) (rest : Option A) → cond b (Some x) rest ≡ None → (b ≡ false) × (rest ≡ None)
not_found true x rest e = absurd (none-some x (sym e))
not_found false x rest e = (refl, e)

found_none : {A : Type 0} (b : Bool) (x : A) (rest : Option A) → b ≡ false → rest ≡ None → cond b (Some x) rest ≡ None
found_none true x rest off e = absurd (true≢false off)
found_none false x rest off e = e

none_after : {A : Type 0} (p : A → Bool) (x y : A) (ys placed_ys : List A) → (find p placed_ys ≡ None → find p (x ∷ ys) ≡ None)
    → find p (y ∷ placed_ys) ≡ None → find p (x ∷ y ∷ ys) ≡ None
none_after p x y ys placed_ys deep h =
    let there = not_found (p y) y (find p placed_ys) h in
    let deeper = not_found (p x) x (find p ys) (deep there.1) in
    found_none (p x) x (find p (y ∷ ys)) deeper.0 (found_none (p y) y (find p ys) there.0 deeper.1)

none_placed : {A : Type 0} (before : A → A → Bool) (p : A → Bool) (x : A) (ys : List A) → find p (insert_by before x ys) ≡ None → find p (x ∷ ys) ≡ None
none_placed before p x [] e = e
none_placed before p x (y ∷ ys) e =
    cond_both (before x y) (x ∷ y ∷ ys) (y ∷ insert_by before x ys) (λ l. find p l ≡ None → find p (x ∷ y ∷ ys) ≡ None) (λ _ h. h)
    (λ _. none_after p x y ys (insert_by before x ys) (none_placed before p x ys)) e

pub none_rising : {A : Type 0} (before : A → A → Bool) (p : A → Bool) (xs : List A) → find p (sort_by before xs) ≡ None → find p xs ≡ None
none_rising before p [] e = e
none_rising before p (x ∷ xs) e =
    let there = not_found (p x) x (find p (sort_by before xs)) (none_placed before p x (sort_by before xs) e) in
    found_none (p x) x (find p xs) there.0 (none_rising before p xs there.1)

-- each element that passes q fails p
pub none_filter : {A : Type 0} (p q : A → Bool) (xs : List A) → find p (filter q xs) ≡ None → AllByRecursion (λ x. q x ≡ true → p x ≡ false) xs
none_filter p q [] e = tt
none_filter p q (x ∷ xs) e = at (q x) (none_filter p q xs) e
  where
    at : (v : Bool) → (find p (filter q xs) ≡ None → AllByRecursion (λ y. q y ≡ true → p y ≡ false) xs) → find p (cond v (x ∷ filter q xs) (filter q xs)) ≡ None
        → (v ≡ true → p x ≡ false) × AllByRecursion (λ y. q y ≡ true → p y ≡ false) xs
    at true rest h = let there = not_found (p x) x (find p (filter q xs)) h in ((λ _. there.0), rest there.1)
    at false rest h = ((λ is. absurd (true≢false (sym is))), rest h)

-- ---- properties of each element

pub each_placed : {A : Type 0} (P : A → Type 0) (before : A → A → Bool) (x : A) (ys : List A) → P x → AllByRecursion P ys → AllByRecursion P (insert_by before x ys)
each_placed P before x [] is all = (is, tt)
each_placed P before x (y ∷ ys) is all =
    cond_both (before x y) (x ∷ y ∷ ys) (y ∷ insert_by before x ys) (AllByRecursion P) (λ _. (is, all)) (λ _. (all.0, each_placed P before x ys is all.1))

pub each_rising : {A : Type 0} (P : A → Type 0) (before : A → A → Bool) (xs : List A) → AllByRecursion P xs → AllByRecursion P (sort_by before xs)
each_rising P before [] all = tt
each_rising P before (x ∷ xs) all = each_placed P before x (sort_by before xs) all.0 (each_rising P before xs all.1)

pub each_filter : {A : Type 0} (P : A → Type 0) (q : A → Bool) (xs : List A) → AllByRecursion P xs → AllByRecursion P (filter q xs)
each_filter P q [] all = tt
each_filter P q (x ∷ xs) all =
    cond_both (q x) (x ∷ filter q xs) (filter q xs) (AllByRecursion P) (λ _. (all.0, each_filter P q xs all.1)) (λ _. each_filter P q xs all.1)

-- ---- a filter followed by a stronger one

-- each element that passes p also passes q, so filtering by q first changes nothing
pub filter_weaker : {A : Type 0} (p q : A → Bool) (xs : List A) → AllByRecursion (λ x. p x ≡ true → q x ≡ true) xs → filter p (filter q xs) ≡ filter p xs
filter_weaker p q [] weaker = refl
filter_weaker {A = A} p q (x ∷ xs) weaker = at (filter_weaker p q xs weaker.1) weaker.0 (q x) refl (p x) refl
  where
    at : filter p (filter q xs) ≡ filter p xs → (p x ≡ true → q x ≡ true) → (v : Bool) → q x ≡ v → (w : Bool) → p x ≡ w
        → filter p (cond v (x ∷ filter q xs) (filter q xs)) ≡ cond w (x ∷ filter p xs) (filter p xs)
    at rest passes true is w e = ap (λ (b : Bool). cond b (x ∷ filter p (filter q xs)) (filter p (filter q xs))) e ∙ ap (λ (ys : List A). cond w (x ∷ ys) ys) rest
    at rest passes false is true e = absurd (true≢false (sym (passes e) ∙ is))
    at rest passes false is false e = rest

pub find_weaker : {A : Type 0} (p q : A → Bool) (xs : List A) → AllByRecursion (λ x. p x ≡ true → q x ≡ true) xs → find p (filter q xs) ≡ find p xs
find_weaker p q [] weaker = refl
find_weaker {A = A} p q (x ∷ xs) weaker = at (find_weaker p q xs weaker.1) weaker.0 (q x) refl (p x) refl
  where
    at : find p (filter q xs) ≡ find p xs → (p x ≡ true → q x ≡ true) → (v : Bool) → q x ≡ v → (w : Bool) → p x ≡ w
        → find p (cond v (x ∷ filter q xs) (filter q xs)) ≡ cond w (Some x) (find p xs)
    at rest passes true is w e = ap (λ (b : Bool). cond b (Some x) (find p (filter q xs))) e ∙ ap (λ (o : Option A). cond w (Some x) o) rest
    at rest passes false is true e = absurd (true≢false (sym (passes e) ∙ is))
    at rest passes false is false e = rest

-- ---- membership by recursion

abbrev pub In : {A : Type 0} → List A → A → Type 0
In [] x = ⊥
In (y ∷ ys) x = (y ≡ x) ⊎ In ys x

pub in_from : {A : Type 0} (xs : List A) (x : A) → Contains xs x → In xs x
in_from [] x (i, less, at) = absurd (omega (arith, less))
in_from (y ∷ ys) x (zero, less, at) = inl at
in_from (y ∷ ys) x (suc i, less, at) = inr (in_from ys x (i, omega (arith, less), at))

pub into : {A : Type 0} (xs : List A) (x : A) → In xs x → Contains xs x
into [] x is = absurd is
into (y ∷ ys) x (inl e) = (0, omega arith, e)
into (y ∷ ys) x (inr is) = let c = into ys x is in (suc c.0, omega (arith, c.1), c.2)

pub each_in : {A : Type 0} (P : A → Type 0) (xs : List A) (x : A) → AllByRecursion P xs → In xs x → P x
each_in P [] x all is = absurd is
each_in P (y ∷ ys) x all (inl e) = subst P e all.0
each_in P (y ∷ ys) x all (inr is) = each_in P ys x all.1 is

pub each_of : {A : Type 0} (P : A → Type 0) (xs : List A) → ((x : A) → In xs x → P x) → AllByRecursion P xs
each_of P [] f = tt
each_of P (y ∷ ys) f = (f y (inl refl), each_of P ys (λ x is. f x (inr is)))

pub each_weaker : {A : Type 0} (P Q : A → Type 0) (xs : List A) → ((x : A) → P x → Q x) → AllByRecursion P xs → AllByRecursion Q xs
each_weaker P Q [] f all = tt
each_weaker P Q (y ∷ ys) f all = (f y all.0, each_weaker P Q ys f all.1)

pub both_each : {A : Type 0} (P Q : A → Type 0) (xs : List A) → AllByRecursion P xs → AllByRecursion Q xs → AllByRecursion (λ x. P x × Q x) xs
both_each P Q [] a b = tt
both_each P Q (y ∷ ys) a b = ((a.0, b.0), both_each P Q ys a.1 b.1)

pub each_append : {A : Type 0} (P : A → Type 0) (xs ys : List A) → AllByRecursion P xs → AllByRecursion P ys → AllByRecursion P (xs ++ ys)
each_append P [] ys a b = b
each_append P (x ∷ xs) ys a b = (a.0, each_append P xs ys a.1 b)

-- an element of a filtered list is in the list, and an element of the list that passes is in the filtered list
pub in_before_filter : {A : Type 0} (p : A → Bool) (xs : List A) (x : A) → In (filter p xs) x → In xs x
in_before_filter p [] x is = is
in_before_filter p (y ∷ ys) x is =
    cond_both (p y) (y ∷ filter p ys) (filter p ys) (λ l. In l x → In (y ∷ ys) x) (λ _ h. first_or h (in_before_filter p ys x)) (λ _ h. inr (in_before_filter p ys x h)) is
  where
    first_or : (y ≡ x) ⊎ In (filter p ys) x → (In (filter p ys) x → In ys x) → (y ≡ x) ⊎ In ys x
    first_or (inl e) f = inl e
    first_or (inr h) f = inr (f h)

pub in_filter : {A : Type 0} (p : A → Bool) (xs : List A) (x : A) → In xs x → p x ≡ true → In (filter p xs) x
in_filter p [] x is e = is
in_filter p (y ∷ ys) x (inl h) e = cond_both (p y) (y ∷ filter p ys) (filter p ys) (λ l. In l x) (λ _. inl h) (λ off. absurd (true≢false (sym e ∙ ap p (sym h) ∙ off)))
in_filter p (y ∷ ys) x (inr is) e = cond_both (p y) (y ∷ filter p ys) (filter p ys) (λ l. In l x) (λ _. inr (in_filter p ys x is e)) (λ _. in_filter p ys x is e)

-- each element of a filtered list passes the test
pub each_passes : {A : Type 0} (p : A → Bool) (xs : List A) → AllByRecursion (λ x. p x ≡ true) (filter p xs)
each_passes p [] = tt
each_passes p (y ∷ ys) = cond_both (p y) (y ∷ filter p ys) (filter p ys) (AllByRecursion (λ x. p x ≡ true)) (λ e. (e, each_passes p ys)) (λ _. each_passes p ys)

-- a found element is in the list
pub in_found : {A : Type 0} (p : A → Bool) (xs : List A) (x : A) → find p xs ≡ Some x → In xs x
in_found p [] x e = absurd (none-some x e)
in_found p (y ∷ ys) x e = cond_both (p y) (Some y) (find p ys) (λ o. o ≡ Some x → (y ≡ x) ⊎ In ys x) (λ _ h. inl (same_Some y x h)) (λ _ h. inr (in_found p ys x h)) e

-- ---- the only element that passes

-- if an element passes, none after it passes
abbrev pub IsOnly : {A : Type 0} → (A → Bool) → List A → Type 0
IsOnly p [] = ⊤
IsOnly p (x ∷ xs) = (p x ≡ true → AllByRecursion (λ y. p y ≡ false) xs) × IsOnly p xs

pub none_where : {A : Type 0} (p : A → Bool) (xs : List A) → AllByRecursion (λ y. p y ≡ false) xs → find p xs ≡ None
none_where p [] all = refl
none_where p (x ∷ xs) all = found_none (p x) x (find p xs) all.0 (none_where p xs all.1)

pub only_filter : {A : Type 0} (p q : A → Bool) (xs : List A) → IsOnly p xs → IsOnly p (filter q xs)
only_filter p q [] only = tt
only_filter p q (x ∷ xs) only =
    cond_both (q x) (x ∷ filter q xs) (filter q xs) (IsOnly p) (λ _. ((λ e. each_filter (λ y. p y ≡ false) q xs (only.0 e)), only_filter p q xs only.1)) (λ _. only_filter p q xs only.1)

pub each_map : {A B : Type 0} (P : B → Type 0) (f : A → B) (xs : List A) → AllByRecursion (λ x. P (f x)) xs → AllByRecursion P (map f xs)
each_map P f [] all = tt
each_map P f (x ∷ xs) all = (all.0, each_map P f xs all.1)

pub only_map : {A B : Type 0} (p : B → Bool) (f : A → B) (xs : List A) → IsOnly (λ x. p (f x)) xs → IsOnly p (map f xs)
only_map p f [] only = tt
only_map p f (x ∷ xs) only = ((λ e. each_map (λ y. p y ≡ false) f xs (only.0 e)), only_map p f xs only.1)

-- the first match of two elements is the same in either order, if not both pass
swapped : {A : Type 0} (x y : A) (v w : Bool) (o : Option A) → (v ≡ true → w ≡ false) → cond w (Some y) (cond v (Some x) o) ≡ cond v (Some x) (cond w (Some y) o)
swapped x y true true o not_both = absurd (true≢false (not_both refl))
swapped x y true false o not_both = refl
swapped x y false w o not_both = refl

find_placed : {A : Type 0} (before : A → A → Bool) (p : A → Bool) (x : A) (ys : List A) → (p x ≡ true → AllByRecursion (λ y. p y ≡ false) ys)
    → find p (insert_by before x ys) ≡ find p (x ∷ ys)
find_placed before p x [] only = refl
find_placed {A = A} before p x (y ∷ ys) only =
    cond_both (before x y) (x ∷ y ∷ ys) (y ∷ insert_by before x ys) (λ l. find p l ≡ find p (x ∷ y ∷ ys)) (λ _. refl)
    (λ _. ap (λ (o : Option A). cond (p y) (Some y) o) (find_placed before p x ys (λ e. (only e).1)) ∙ swapped x y (p x) (p y) (find p ys) (λ e. (only e).0))

pub find_rising : {A : Type 0} (before : A → A → Bool) (p : A → Bool) (xs : List A) → IsOnly p xs → find p (sort_by before xs) ≡ find p xs
find_rising before p [] only = refl
find_rising {A = A} before p (x ∷ xs) only =
    find_placed before p x (sort_by before xs) (λ e. each_rising (λ y. p y ≡ false) before xs (only.0 e))
    ∙ ap (λ (o : Option A). cond (p x) (Some x) o) (find_rising before p xs only.1)

pub find_map : {A B : Type 0} (p : B → Bool) (f : A → B) (xs : List A) → find p (map f xs) ≡ option_map f (find (λ x. p (f x)) xs)
find_map p f [] = refl
find_map {A = A} {B = B} p f (x ∷ xs) = at (p (f x)) (find_map p f xs)
  where
    at : (v : Bool) → find p (map f xs) ≡ option_map f (find (λ y. p (f y)) xs) → cond v (Some (f x)) (find p (map f xs)) ≡ option_map f (cond v (Some x) (find (λ y. p (f y)) xs))
    at true e = refl
    at false e = e

pub find_filter : {A : Type 0} (p q : A → Bool) (xs : List A) → find p (filter q xs) ≡ find (λ x. q x && p x) xs
find_filter p q [] = refl
find_filter {A = A} p q (x ∷ xs) = at (q x) (find_filter p q xs)
  where
    at : (v : Bool) → find p (filter q xs) ≡ find (λ y. q y && p y) xs → find p (cond v (x ∷ filter q xs) (filter q xs)) ≡ cond (v && p x) (Some x) (find (λ y. q y && p y) xs)
    at true e = ap (λ (o : Option A). cond (p x) (Some x) o) e
    at false e = e

found_and : {A : Type 0} (x y : A) (v w : Bool) (o r : Option A) → cond v (Some y) o ≡ Some x → (y ≡ x → w ≡ true) → (o ≡ Some x → r ≡ Some x) → cond (w && v) (Some y) r ≡ Some x
found_and x y true true o r e is rest = e
found_and x y true false o r e is rest = absurd (true≢false (sym (is (same_Some y x e))))
found_and x y false true o r e is rest = rest e
found_and x y false false o r e is rest = rest e

-- the match is the same if q is tested first
pub find_and : {A : Type 0} (p q : A → Bool) (xs : List A) (x : A) → find p xs ≡ Some x → q x ≡ true → find (λ y. q y && p y) xs ≡ Some x
find_and p q [] x e is = absurd (none-some x e)
find_and p q (y ∷ ys) x e is =
    found_and x y (p y) (q y) (find p ys) (find (λ z. q z && p z) ys) e (λ same. ap q same ∙ is) (λ f. find_and p q ys x f is)

-- a found element passes
pub found_passes : {A : Type 0} (p : A → Bool) (xs : List A) (x : A) → find p xs ≡ Some x → p x ≡ true
found_passes p [] x e = absurd (none-some x e)
found_passes p (y ∷ ys) x e = at (p y) refl e (found_passes p ys x)
  where
    at : (v : Bool) → p y ≡ v → cond v (Some y) (find p ys) ≡ Some x → (find p ys ≡ Some x → p x ≡ true) → p x ≡ true
    at true is h rest = ap p (sym (same_Some y x h)) ∙ is
    at false is h rest = rest h

fails_left : {A : Type 0} (p q : A → Bool) (xs : List A) → AllByRecursion (λ y. (q y && p y) ≡ false) xs → AllByRecursion (λ y. p y ≡ false) (filter q xs)
fails_left p q [] all = tt
fails_left p q (x ∷ xs) all = at (q x) all.0 (fails_left p q xs all.1)
  where
    at : (v : Bool) → (v && p x) ≡ false → AllByRecursion (λ y. p y ≡ false) (filter q xs) → AllByRecursion (λ y. p y ≡ false) (cond v (x ∷ filter q xs) (filter q xs))
    at true e rest = (e, rest)
    at false e rest = rest

pub only_left : {A : Type 0} (p q : A → Bool) (xs : List A) → IsOnly (λ x. q x && p x) xs → IsOnly p (filter q xs)
only_left p q [] only = tt
only_left p q (x ∷ xs) only = at (q x) only.0 (λ all. fails_left p q xs all) (only_left p q xs only.1)
  where
    at : (v : Bool) → ((v && p x) ≡ true → AllByRecursion (λ y. (q y && p y) ≡ false) xs) → (AllByRecursion (λ y. (q y && p y) ≡ false) xs → AllByRecursion (λ y. p y ≡ false) (filter q xs))
        → IsOnly p (filter q xs) → IsOnly p (cond v (x ∷ filter q xs) (filter q xs))
    at true first left rest = ((λ e. left (first e)), rest)
    at false first left rest = rest
