-- Rows of uploads: by their ids, and with other chunks.
use Rattle.refinement.proofs.Prelude.{◌≡◌, ◌∙◌, inl, inr, ◌<ℤ◌, ℤ, pos, Bool, true, false, List, [], ◌∷◌, map, filter, find, cond, length, Some, refl, sym, ap, ap₂, subst, arith, AllByRecursion, concat, int_eq, true≢false, ints, IsKeyedBy, In, each_in, is_upload, is_complete, chunks_of, bytes_of, object_in, HasSize}
use Rattle.tables.specs.Rows as row
use Rattle.refinement.proofs.Pieces.{own_number}

-- ---- rows with an id

-- each upload with this id is this one
abbrev pub IsAlone : ℤ → row.Upload → List row.Upload → Type 0
IsAlone id s = AllByRecursion (λ u. is_upload id u ≡ true → u ≡ s)

pub apart_below : (a b : ℤ) → a <ℤ b → int_eq a b ≡ false
apart_below a b below = grind (arith, ints)

above_apart : (a b id : ℤ) → int_eq a id ≡ true → a <ℤ b → int_eq b id ≡ true → ⊥
above_apart a b id here below there = absurd (grind (arith, ints))

all_apart : (id : ℤ) (a : ℤ) (s : row.Upload) (us : List row.Upload) → int_eq a id ≡ true → AllByRecursion (λ (u : row.Upload). a <ℤ u.id) us → IsAlone id s us
all_apart id a s [] here above = tt
all_apart id a s (u ∷ us) here above = ((λ there. absurd (above_apart a u.id id here above.0 there)), all_apart id a s us here above.1)

-- the upload that is found by its id is the only one with it
pub found_alone : (us : List row.Upload) (id : ℤ) (s : row.Upload) → IsKeyedBy (λ (u : row.Upload). u.id) us → find (is_upload id) us ≡ Some s → IsAlone id s us
found_alone [] id s up e = tt
found_alone (u ∷ us) id s up e = at (is_upload id u) refl e (found_alone us id s up.1)
  where
    at : (v : Bool) → is_upload id u ≡ v → cond v (Some u) (find (is_upload id) us) ≡ Some s → (find (is_upload id) us ≡ Some s → IsAlone id s us) → IsAlone id s (u ∷ us)
    at true is e rest = let same : u ≡ s = cc in ((λ there. same), all_apart id u.id s us is up.0)
    at false is e rest = ((λ there. absurd (true≢false (sym there ∙ is))), rest e)

pub not_complete : (u s : row.Upload) → s.done ≡ pos 0 → u ≡ s → is_complete u ≡ true → ⊥
not_complete u s staged same whole = absurd (true≢false (sym whole ∙ ap is_complete same ∙ ap (λ d. int_eq d (pos 1)) staged))

-- an upload is found by its own id
pub found_itself : (us : List row.Upload) (s : row.Upload) → IsKeyedBy (λ (u : row.Upload). u.id) us → In us s → find (is_upload s.id) us ≡ Some s
found_itself [] s up is = absurd is
found_itself (u ∷ us) s up (inl same) = rw (ap (λ (v : row.Upload). int_eq v.id s.id) same ∙ own_number s.id) (ap Some same)
found_itself (u ∷ us) s up (inr is) = rw (apart_below u.id s.id (each_in (λ (v : row.Upload). u.id <ℤ v.id) us s up.0 is)) (found_itself us s up.1 is)

-- ---- what other uploads have is unchanged

pub map_alike : {A B : Type 0} (p : A → Bool) (f g : A → B) (xs : List A) → AllByRecursion (λ x. p x ≡ true → f x ≡ g x) xs → map f (filter p xs) ≡ map g (filter p xs)
map_alike p f g [] same = refl
map_alike p f g (x ∷ xs) same = at (p x) refl (map_alike p f g xs same.1)
  where
    at : (v : Bool) → p x ≡ v → map f (filter p xs) ≡ map g (filter p xs) → map f (cond v (x ∷ filter p xs) (filter p xs)) ≡ map g (cond v (x ∷ filter p xs) (filter p xs))
    at true is rest = ap₂ ◌∷◌ (same.0 is) rest
    at false is rest = rest

pub same_object : (old new : List row.Chunk) (u : row.Upload) → chunks_of u.id new ≡ chunks_of u.id old → object_in new u ≡ object_in old u
same_object old new u same =
    ap (λ (ks : List row.Chunk). record { repo = u.repo; name = u.oid; bytes = concat (map (λ (c : row.Chunk). c.bytes) ks) }) same

pub same_size : (old new : List row.Chunk) (u : row.Upload) → chunks_of u.id new ≡ chunks_of u.id old → HasSize (length (bytes_of u.id old)) u → HasSize (length (bytes_of u.id new)) u
same_size old new u same = subst (λ (ks : List row.Chunk). HasSize (length (concat (map (λ (c : row.Chunk). c.bytes) ks))) u) (sym same)
