-- How the removal of an object changes its repository's total.
use Rattle.std.proofs.Common.{◌≡◌, ◌∙◌, ℕ, ◌+◌, ◌≤◌, Bool, true, false, not, ◌&&◌, List, [], ◌∷◌, length, filter, find, map, Option, Some, None, option_map, bytes_eq, cond, sum_by, refl, sym, ap, arith, add-zero}
use Rattle.std.specs.List.{AllByRecursion}
use Rattle.std.proofs.lemmas.Bool.{true≢false}
use Rattle.std.proofs.lemmas.List.Sums.{sum_by-cons}
use Rattle.std.proofs.lemmas.Slice.Eq.{bytes_eq-Decides}
use Rattle.model.specs.Reading.{or_default}
use Rattle.model.specs.World.{World, Object, IsWorld, DiffersInName, has_name, object_named, total, without_object}
use Rattle.model.proofs.Lists.{IsOnly, each_of, filter_weaker, find_weaker, only_filter}
use Rattle.model.proofs.Once.{only_of}
use Rattle.model.proofs.Tests.{both_true}

-- the size of the element that is found; 0 if none is
abbrev found_size : {A : Type 0} → (A → ℕ) → Option A → ℕ
found_size f o = or_default (option_map f o) 0

none_dropped : {A : Type 0} (p : A → Bool) (xs : List A) → AllByRecursion (λ y. p y ≡ false) xs → filter (λ y. not (p y)) xs ≡ xs
none_dropped p [] all = refl
none_dropped {A = A} p (x ∷ xs) all =
    ap (λ (v : Bool). cond (not v) (x ∷ filter (λ y. not (p y)) xs) (filter (λ y. not (p y)) xs)) all.0 ∙ ap (λ (ys : List A). x ∷ ys) (none_dropped p xs all.1)

-- a list without the one element that passes, and that element's size
sum_without : {A : Type 0} (f : A → ℕ) (p : A → Bool) (xs : List A) → IsOnly p xs → sum_by f (filter (λ x. not (p x)) xs) + found_size f (find p xs) ≡ sum_by f xs
sum_without f p [] only = refl
sum_without {A = A} f p (x ∷ xs) only = at (p x) refl (sum_without f p xs only.1)
  where
    rest : List A
    rest = filter (λ y. not (p y)) xs

    at : (v : Bool) → p x ≡ v → sum_by f rest + found_size f (find p xs) ≡ sum_by f xs → sum_by f (cond (not v) (x ∷ rest) rest) + found_size f (cond v (Some x) (find p xs)) ≡ sum_by f (x ∷ xs)
    at true e so_far = omega (arith, ap (sum_by f) (none_dropped p xs (only.0 e)), sum_by-cons f x xs)
    at false e so_far = omega (arith, sum_by-cons f x rest, sum_by-cons f x xs, so_far)

-- two filters in either order
both_filters : {A : Type 0} (p q : A → Bool) (xs : List A) → filter q (filter p xs) ≡ filter p (filter q xs)
both_filters p q [] = refl
both_filters {A = A} p q (x ∷ xs) = at (both_filters p q xs) (p x) refl (q x) refl
  where
    at : filter q (filter p xs) ≡ filter p (filter q xs) → (v : Bool) → p x ≡ v → (w : Bool) → q x ≡ w → filter q (cond v (x ∷ filter p xs) (filter p xs)) ≡ filter p (cond w (x ∷ filter q xs) (filter q xs))
    at rest true a true b =
        ap (λ (w : Bool). cond w (x ∷ filter q (filter p xs)) (filter q (filter p xs))) b ∙ ap (λ (ys : List A). x ∷ ys) rest
        ∙ sym (ap (λ (v : Bool). cond v (x ∷ filter p (filter q xs)) (filter p (filter q xs))) a)
    at rest true a false b = ap (λ (w : Bool). cond w (x ∷ filter q (filter p xs)) (filter q (filter p xs))) b ∙ rest
    at rest false a true b = rest ∙ sym (ap (λ (v : Bool). cond v (x ∷ filter p (filter q xs)) (filter p (filter q xs))) a)
    at rest false a false b = rest

module _ (old : World) (r n : List ℕ) where
  abbrev named : Object → Bool
  named = has_name r n

  abbrev pub size : Object → ℕ
  size o = length o.bytes

  apart : (x y : Object) → DiffersInName x y → named x ≡ true → named y ≡ true → ⊥
  apart x y differ a b =
      let at_x = both_true (bytes_eq x.repo r) (bytes_eq x.name n) a in let at_y = both_true (bytes_eq y.repo r) (bytes_eq y.name n) b in
      differ ((bytes_eq-Decides x.repo r).0 at_x.0 ∙ sym ((bytes_eq-Decides y.repo r).0 at_y.0)) ((bytes_eq-Decides x.name n).0 at_x.1 ∙ sym ((bytes_eq-Decides y.name n).0 at_y.1))

  -- the total of a repository without the object of this name, which may be another's
  pub total_without : (repo : List ℕ) → IsWorld old → (own : Bool) → bytes_eq r repo ≡ own
      → total repo (without_object r n old) + cond own (found_size size (object_named r n old)) 0 ≡ total repo old
  total_without repo w true e =
      let q : Object → Bool = λ o. bytes_eq o.repo repo in
      let own : (o : Object) → named o ≡ true → q o ≡ true = λ o is.
      (bytes_eq-Decides o.repo repo).1 ((bytes_eq-Decides o.repo r).0 (both_true (bytes_eq o.repo r) (bytes_eq o.name n) is).0 ∙ (bytes_eq-Decides r repo).0 e) in
      omega (
        arith,
        ap (sum_by size) (both_filters (λ o. not (named o)) q old.objects),
        sum_without size named (filter q old.objects) (only_filter named q old.objects (only_of DiffersInName named old.objects apart w.names)),
        ap (found_size size) (find_weaker named q old.objects (each_of (λ o. named o ≡ true → q o ≡ true) old.objects (λ o there. own o))),
      )
  total_without repo w false e =
      let q : Object → Bool = λ o. bytes_eq o.repo repo in
      let other : (o : Object) → q o ≡ true → not (named o) ≡ true = λ o is. at o is (named o) refl in
      omega (arith, ap (sum_by size) (filter_weaker q (λ o. not (named o)) old.objects (each_of (λ o. q o ≡ true → not (named o) ≡ true) old.objects (λ o there. other o))))
    where
      at : (o : Object) → bytes_eq o.repo repo ≡ true → (v : Bool) → named o ≡ v → not v ≡ true
      at o is false h = refl
      at o is true h =
          let same = sym ((bytes_eq-Decides o.repo r).0 (both_true (bytes_eq o.repo r) (bytes_eq o.name n) h).0) ∙ (bytes_eq-Decides o.repo repo).0 is in
          absurd (true≢false (sym ((bytes_eq-Decides r repo).1 same) ∙ e))
