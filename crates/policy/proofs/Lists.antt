-- A property of the items of a mapped list, as a property of the items themselves.
use Rattle.policy.proofs.Prelude.{◌≡◌, ◌∙◌, sym, length, Bool, true, false, ◌||◌, List, [], ◌∷◌, map, Option, Some, None, option_map, is_some, Bor, cond, refl, ap, ℕ, ◌&&◌, String, Global, string_bytes, length-map, list_all-map, list_any, list_all, find, option_copied, texts, is_count, are_entries}

pub list_any-map : {A B : Type 0} (test : B → Bool) (f : A → B) (xs : List A) → list_any test (map f xs) ≡ list_any (λ x. test (f x)) xs
list_any-map test f [] = refl
list_any-map test f (x ∷ xs) = ap (λ b. test (f x) || b) (list_any-map test f xs)

option_map-cond : {A B : Type 0} (f : A → B) (b : Bool) (x : A) (o : Option A) → cond b (Some (f x)) (option_map f o) ≡ option_map f (cond b (Some x) o)
option_map-cond f true x o = refl
option_map-cond f false x o = refl

pub find-map : {A B : Type 0} (test : B → Bool) (f : A → B) (xs : List A) → find test (map f xs) ≡ option_map f (find (λ x. test (f x)) xs)
find-map test f [] = refl
find-map test f (x ∷ xs) = rw (find-map test f xs) (option_map-cond f (test (f x)) x (find (λ y. test (f y)) xs))

pub option_map-then : {A B C : Type 0} (f : A → B) (g : B → C) (o : Option A) → option_map (λ x. g (f x)) o ≡ option_map g (option_map f o)
option_map-then f g None = refl
option_map-then f g (Some x) = refl

is_some-cond : {A : Type 0} (b : Bool) (x : A) (o : Option A) → is_some (cond b (Some x) o) ≡ (b || is_some o)
is_some-cond true x o = refl
is_some-cond false x o = refl

pub is_some-find : {A : Type 0} (test : A → Bool) (xs : List A) → is_some (find test xs) ≡ list_any test xs
is_some-find test [] = refl
is_some-find test (x ∷ xs) = is_some-cond (test x) x (find test xs) ∙ ap (λ b. test x || b) (is_some-find test xs)

pub is_some-copied : {A : Type 0} (r : Option (Bor A)) → is_some r ≡ is_some (option_copied r)
is_some-copied None = refl
is_some-copied (Some x) = refl

-- the entries of a row, as texts in memory
pub are_entries-texts : (test : List ℕ → Bool) (entries : List (String Global))
    → are_entries test (texts entries) ≡ (is_count entries && list_all (λ text. test (string_bytes text)) entries)
are_entries-texts test entries = rw (length-map, list_all-map test string_bytes entries)

-- lists with the same values have the same length
pub length-maps : {A B C : Type 0} (f : A → C) (g : B → C) (xs : List A) (ys : List B) → map f xs ≡ map g ys → length xs ≡ length ys
length-maps f g xs ys same = sym (length-map xs f) ∙ ap length same ∙ length-map ys g
