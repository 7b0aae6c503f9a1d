-- The pieces of a content are its upload's, and go with it.
use Rattle.placed.proofs.Prelude.{◌≡◌, ℕ, zero, suc, ℤ, Bool, true, false, cond, List, [], ◌∷◌, ◌++◌, filter, find, drop, length, None, refl, ap, ◌∙◌, AllByRecursion, flat_map, filter-append, Chunk, cut_into, pieces, piece_size}

-- a filter over lists that are joined, each of which passes or fails as a whole
pub filter-flat_map : {A B : Type 0} (p : B → Bool) (q : A → Bool) (f : A → List B)
    → ((x : A) → filter p (f x) ≡ cond (q x) (f x) []) → (xs : List A)
    → filter p (flat_map f xs) ≡ flat_map f (filter q xs)
filter-flat_map p q f whole [] = refl
filter-flat_map p q f whole (x ∷ xs) =
    filter-append p (f x) (flat_map f xs)
    ∙ ap (λ l. l ++ filter p (flat_map f xs)) (whole x)
    ∙ ap (λ l. cond (q x) (f x) [] ++ l) (filter-flat_map p q f whole xs)
    ∙ at (q x)
  where
    at : (b : Bool) → cond b (f x) [] ++ flat_map f (filter q xs) ≡ flat_map f (cond b (x ∷ filter q xs) (filter q xs))
    at true = refl
    at false = refl

-- each chunk is one of this upload
abbrev pub AreOf : ℤ → List Chunk → Type 0
AreOf id = AllByRecursion (λ (c : Chunk). c.upload ≡ id)

cut_owned : (most size : ℕ) (id : ℤ) (n : ℕ) (bytes : List ℕ) → AreOf id (cut_into most size id n bytes)
cut_owned zero size id n bytes = tt
cut_owned (suc most) size id n [] = tt
cut_owned (suc most) size id n (byte ∷ bytes) = (refl, cut_owned most size id (suc n) (drop size (byte ∷ bytes)))

pub pieces_owned : (id : ℤ) (bytes : List ℕ) → AreOf id (pieces id bytes)
unfolding pieces
pieces_owned id bytes = cut_owned (length bytes) piece_size id 0 bytes

-- a test that sees of a chunk only its upload passes all of an upload's or none
pub filter_owned : (p : Chunk → Bool) (b : Bool) (id : ℤ) (cs : List Chunk) → ((c : Chunk) → c.upload ≡ id → p c ≡ b)
    → AreOf id cs → filter p cs ≡ cond b cs []
filter_owned p true id [] same own = refl
filter_owned p false id [] same own = refl
filter_owned p true id (c ∷ cs) same own = rw (same c own.0) (ap (λ l. c ∷ l) (filter_owned p true id cs same own.1))
filter_owned p false id (c ∷ cs) same own = rw (same c own.0) (filter_owned p false id cs same own.1)

-- no chunk of an upload is found among those of another
pub find_owned : (p : Chunk → Bool) (id : ℤ) (cs : List Chunk) → ((c : Chunk) → c.upload ≡ id → p c ≡ false)
    → AreOf id cs → find p cs ≡ None
find_owned p id [] never own = refl
find_owned p id (c ∷ cs) never own = rw (never c own.0) (find_owned p id cs never own.1)
