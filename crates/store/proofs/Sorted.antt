-- Sorted lists: filtered, with more elements at the end, in another order, and searched, for proofs in other crates.
use Rattle.std.proofs.Common.{◌≡◌, ◌⊎◌, inl, inr, Bool, true, false, cond, List, [], ◌∷◌, ◌++◌, filter, find, Some, refl, sym, ap, ◌∙◌, Ordering, Less, Equal, Greater, is_gt, true≢false}
use Rattle.std.specs.List.{AllByRecursion}
use Rattle.std.specs.Cmp.{IsTotalOrder}
use Rattle.std.specs.Ordering.{ordering_reverse}
use Rattle.std.proofs.lemmas.Cmp.{upto}
use Rattle.sqlite_trees.specs.Tree.{IsAscending}
use Rattle.sqlite_keyed.specs.Lists.{insert_sorted, sort_by}
use Rattle.sqlite_keyed.proofs.ListLemmas.{all_weaker, all-filter}

module _ {X : Type 0} (cmp : X → X → Ordering) (total : IsTotalOrder cmp) where
  -- x may come before y
  abbrev AtMost : X → X → Type 0
  AtMost x y = is_gt (cmp x y) ≡ false

  turned : (x y : X) → is_gt (cmp x y) ≡ true → AtMost y x
  turned x y gt = go (cmp x y) gt (total.antisymm y x)
    where
      go : (o : Ordering) → is_gt o ≡ true → cmp y x ≡ ordering_reverse o → AtMost y x
      go Less e is = absurd (true≢false (sym e))
      go Equal e is = absurd (true≢false (sym e))
      go Greater e is = ap is_gt is

  -- ---- filtered

  insert_first : (x : X) (ys : List X) → AllByRecursion (AtMost x) ys → insert_sorted cmp x ys ≡ x ∷ ys
  insert_first x [] all = refl
  insert_first x (y ∷ ys) all = rw all.0 refl

  all-insert : (P : X → Type 0) (x : X) (ys : List X) → P x → AllByRecursion P ys → AllByRecursion P (insert_sorted cmp x ys)
  all-insert P x [] h all = (h, tt)
  all-insert P x (y ∷ ys) h all =
      elim (is_gt (cmp x y)) as (λ b. AllByRecursion P (cond b (y ∷ insert_sorted cmp x ys) (x ∷ y ∷ ys)))
      [ true ↦ (all.0, all-insert P x ys h all.1) | false ↦ (h, all) ]

  rises-insert : (x : X) (ys : List X) → IsAscending AtMost ys → IsAscending AtMost (insert_sorted cmp x ys)
  rises-insert x [] up = (tt, tt)
  rises-insert x (y ∷ ys) up = at (is_gt (cmp x y)) refl (rises-insert x ys up.1)
    where
      at : (b : Bool) → is_gt (cmp x y) ≡ b → IsAscending AtMost (insert_sorted cmp x ys) → IsAscending AtMost (cond b (y ∷ insert_sorted cmp x ys) (x ∷ y ∷ ys))
      at true e rest = (all-insert (AtMost y) x ys (turned x y e) up.0, rest)
      at false e rest = ((e, all_weaker (AtMost y) (AtMost x) (λ z. upto total x y z e) ys up.0), up)

  rises : (xs : List X) → IsAscending AtMost (sort_by cmp xs)
  rises [] = tt
  rises (x ∷ xs) = rises-insert x (sort_by cmp xs) (rises xs)

  filter-insert : (p : X → Bool) (x : X) (ys : List X) → IsAscending AtMost ys
      → filter p (insert_sorted cmp x ys) ≡ cond (p x) (insert_sorted cmp x (filter p ys)) (filter p ys)
  filter-insert p x [] up = refl
  filter-insert p x (y ∷ ys) up = at (is_gt (cmp x y)) refl (filter-insert p x ys up.1)
    where
      both : (a b : Bool) → is_gt (cmp x y) ≡ true
          → cond b (y ∷ cond a (insert_sorted cmp x (filter p ys)) (filter p ys)) (cond a (insert_sorted cmp x (filter p ys)) (filter p ys))
          ≡ cond a (insert_sorted cmp x (cond b (y ∷ filter p ys) (filter p ys))) (cond b (y ∷ filter p ys) (filter p ys))
      both true true e = rw e refl
      both true false e = refl
      both false true e = refl
      both false false e = refl

      at : (b : Bool) → is_gt (cmp x y) ≡ b → filter p (insert_sorted cmp x ys) ≡ cond (p x) (insert_sorted cmp x (filter p ys)) (filter p ys)
          → filter p (cond b (y ∷ insert_sorted cmp x ys) (x ∷ y ∷ ys)) ≡ cond (p x) (insert_sorted cmp x (filter p (y ∷ ys))) (filter p (y ∷ ys))
      at true e rest = ap (λ l. cond (p y) (y ∷ l) l) rest ∙ both (p x) (p y) e
      at false e rest =
          ap (λ l. cond (p x) l (filter p (y ∷ ys)))
          (sym (insert_first x (filter p (y ∷ ys)) (all-filter (AtMost x) p (y ∷ ys) (e, all_weaker (AtMost y) (AtMost x) (λ z. upto total x y z e) ys up.0))))

  pub filter-sort : (p : X → Bool) (xs : List X) → filter p (sort_by cmp xs) ≡ sort_by cmp (filter p xs)
  filter-sort p [] = refl
  filter-sort p (x ∷ xs) = filter-insert p x (sort_by cmp xs) (rises xs) ∙ ap (λ l. cond (p x) (insert_sorted cmp x l) l) (filter-sort p xs) ∙ at (p x)
    where
      at : (b : Bool) → cond b (insert_sorted cmp x (sort_by cmp (filter p xs))) (sort_by cmp (filter p xs)) ≡ sort_by cmp (cond b (x ∷ filter p xs) (filter p xs))
      at true = refl
      at false = refl

  -- ---- with more elements

  -- the elements, inserted one by one
  abbrev inserted : List X → List X → List X
  inserted [] l = l
  inserted (x ∷ xs) l = insert_sorted cmp x (inserted xs l)

  sort-append : (xs ys : List X) → sort_by cmp (xs ++ ys) ≡ inserted xs (sort_by cmp ys)
  sort-append [] ys = refl
  sort-append (x ∷ xs) ys = ap (insert_sorted cmp x) (sort-append xs ys)

  swapped : (x w : X) (l : List X) → is_gt (cmp x w) ≡ true → insert_sorted cmp w (insert_sorted cmp x l) ≡ insert_sorted cmp x (insert_sorted cmp w l)
  swapped x w [] gt = rw (gt, turned x w gt) refl
  swapped x w (y ∷ l) gt = at (is_gt (cmp x y)) (is_gt (cmp w y)) refl refl (swapped x w l gt)
    where
      at : (a b : Bool) → is_gt (cmp x y) ≡ a → is_gt (cmp w y) ≡ b → insert_sorted cmp w (insert_sorted cmp x l) ≡ insert_sorted cmp x (insert_sorted cmp w l)
          → insert_sorted cmp w (cond a (y ∷ insert_sorted cmp x l) (x ∷ y ∷ l)) ≡ insert_sorted cmp x (cond b (y ∷ insert_sorted cmp w l) (w ∷ y ∷ l))
      at true true p q rest = rw (p, q) (ap (λ k. y ∷ k) rest)
      at true false p q rest = rw (gt, p, q) refl
      at false true p q rest = absurd (true≢false (sym q ∙ upto total w x y (turned x w gt) p))
      at false false p q rest = rw (gt, turned x w gt, p) refl

  inserted-insert : (x : X) (ws l : List X) → inserted (insert_sorted cmp x ws) l ≡ insert_sorted cmp x (inserted ws l)
  inserted-insert x [] l = refl
  inserted-insert x (w ∷ ws) l = at (is_gt (cmp x w)) refl (inserted-insert x ws l)
    where
      at : (b : Bool) → is_gt (cmp x w) ≡ b → inserted (insert_sorted cmp x ws) l ≡ insert_sorted cmp x (inserted ws l)
          → inserted (cond b (w ∷ insert_sorted cmp x ws) (x ∷ w ∷ ws)) l ≡ insert_sorted cmp x (insert_sorted cmp w (inserted ws l))
      at true e rest = ap (insert_sorted cmp w) rest ∙ swapped x w (inserted ws l) e
      at false e rest = refl

  inserted-sort : (xs l : List X) → inserted (sort_by cmp xs) l ≡ inserted xs l
  inserted-sort [] l = refl
  inserted-sort (x ∷ xs) l = inserted-insert x (sort_by cmp xs) l ∙ ap (insert_sorted cmp x) (inserted-sort xs l)

  -- a list that was sorted before more was added is sorted as one that was not
  pub sort-sorted : (xs ys : List X) → sort_by cmp (sort_by cmp xs ++ ys) ≡ sort_by cmp (xs ++ ys)
  sort-sorted xs ys = sort-append (sort_by cmp xs) ys ∙ inserted-sort xs (sort_by cmp ys) ∙ sym (sort-append xs ys)

  -- ---- in another order

  -- the two do not come at one place in the order
  abbrev pub Differ : X → X → Type 0
  Differ x y = (is_gt (cmp x y) ≡ true) ⊎ (is_gt (cmp y x) ≡ true)

  either_first : (x y : X) (l : List X) → Differ x y → insert_sorted cmp x (insert_sorted cmp y l) ≡ insert_sorted cmp y (insert_sorted cmp x l)
  either_first x y l (inl gt) = sym (swapped x y l gt)
  either_first x y l (inr gt) = swapped y x l gt

  insert-inserted : (x : X) (ys l : List X) → AllByRecursion (Differ x) ys → insert_sorted cmp x (inserted ys l) ≡ inserted ys (insert_sorted cmp x l)
  insert-inserted x [] l apart = refl
  insert-inserted x (y ∷ ys) l apart = either_first x y (inserted ys l) apart.0 ∙ ap (insert_sorted cmp y) (insert-inserted x ys l apart.1)

  inserted-swap : (xs ys l : List X) → AllByRecursion (λ x. AllByRecursion (Differ x) ys) xs → inserted xs (inserted ys l) ≡ inserted ys (inserted xs l)
  inserted-swap [] ys l apart = refl
  inserted-swap (x ∷ xs) ys l apart = ap (insert_sorted cmp x) (inserted-swap xs ys l apart.1) ∙ insert-inserted x ys (inserted xs l) apart.0

  -- elements that come at other places in the order than some others may be listed before or after them
  pub sort-swap : (xs ys zs : List X) → AllByRecursion (λ x. AllByRecursion (Differ x) ys) xs → sort_by cmp (xs ++ (ys ++ zs)) ≡ sort_by cmp (ys ++ (xs ++ zs))
  sort-swap xs ys zs apart =
      sort-append xs (ys ++ zs)
      ∙ ap (inserted xs) (sort-append ys zs)
      ∙ inserted-swap xs ys (sort_by cmp zs) apart
      ∙ ap (inserted ys) (sym (sort-append xs zs))
      ∙ sym (sort-append ys (xs ++ zs))

  -- ---- searched

  module _ (p : X → Bool) (alike : (x y : X) → p x ≡ true → p y ≡ true → AtMost x y) where
    find-insert : (x : X) (ys : List X) → find p (insert_sorted cmp x ys) ≡ cond (p x) (Some x) (find p ys)
    find-insert x [] = refl
    find-insert x (y ∷ ys) = at (is_gt (cmp x y)) refl (find-insert x ys)
      where
        both : (a b : Bool) → p x ≡ a → p y ≡ b → is_gt (cmp x y) ≡ true
            → cond b (Some y) (cond a (Some x) (find p ys)) ≡ cond a (Some x) (cond b (Some y) (find p ys))
        both true true f g e = absurd (true≢false (sym e ∙ alike x y f g))
        both true false f g e = refl
        both false true f g e = refl
        both false false f g e = refl

        at : (b : Bool) → is_gt (cmp x y) ≡ b → find p (insert_sorted cmp x ys) ≡ cond (p x) (Some x) (find p ys)
            → find p (cond b (y ∷ insert_sorted cmp x ys) (x ∷ y ∷ ys)) ≡ cond (p x) (Some x) (find p (y ∷ ys))
        at true e rest = ap (cond (p y) (Some y)) rest ∙ both (p x) (p y) refl refl e
        at false e rest = refl

    -- the first of elements that come at one place in the order
    pub find-sort : (xs : List X) → find p (sort_by cmp xs) ≡ find p xs
    find-sort [] = refl
    find-sort (x ∷ xs) = find-insert x (sort_by cmp xs) ∙ ap (cond (p x) (Some x)) (find-sort xs)
