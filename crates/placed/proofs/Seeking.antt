-- Where the chunk of an upload with a number is found: in a row, at a place, or in a content that is being received.
use Rattle.placed.proofs.Prelude.{◌≡◌, ◌≢◌, ℕ, ℤ, pos, Bool, true, false, not, ◌&&◌, cond, List, [], ◌∷◌, ◌++◌, map, filter, find, Option, Some, None, option_map, refl, sym, ap, ◌∙◌, is_gt, arith, AllByRecursion, flat_map, option_or, int_cmp, int_eq, and_parts, none-some, same_Some, int_cmp_total, tied_itself, ints, find-append, flat_map-append, Region, IsAscending, all_weaker, int_eq_apart, Chunk, Tables, is_of, is_chunk, upload_number, placeless, chunk_cmp, chunk_total, Staged, pieces, place_number, is_place, is_piece, region_in, content_in, written_in, pieces_in, pieces_at, received_pieces, all_chunks, view, same_int, AreOfOthers}
use Rattle.sqlite_keyed.proofs.ListLemmas.{ascending_weaker}
use Rattle.store.proofs.Sorted.{find-sort}
use Rattle.placed.proofs.Owned.{pieces_owned, find_owned}
use Rattle.placed.proofs.Lists.{find_kept}

-- ---- lists

find_both : {A : Type 0} (p q : A → Bool) (xs : List A) → find (λ x. p x && q x) xs ≡ find p (filter q xs)
find_both p q [] = refl
find_both {A} p q (x ∷ xs) = at (p x) (q x) refl (find_both p q xs)
  where
    at : (a b : Bool) → p x ≡ a → find (λ y. p y && q y) xs ≡ find p (filter q xs)
        → cond (a && b) (Some x) (find (λ y. p y && q y) xs) ≡ find p (cond b (x ∷ filter q xs) (filter q xs))
    at true true e rest = rw e refl
    at true false e rest = rest
    at false true e rest = rw e rest
    at false false e rest = rest

none_passes : {A : Type 0} (q : A → Bool) (xs : List A) → find q xs ≡ None → AllByRecursion (λ x. q x ≡ false) xs
none_passes q [] e = tt
none_passes {A} q (x ∷ xs) e = at (q x) refl e (none_passes q xs)
  where
    at : (b : Bool) → q x ≡ b → cond b (Some x) (find q xs) ≡ None
        → (find q xs ≡ None → AllByRecursion (λ y. q y ≡ false) xs) → AllByRecursion (λ y. q y ≡ false) (x ∷ xs)
    at true is e rest = absurd (none-some x (sym e))
    at false is e rest = (is, rest e)

or_none : {A : Type 0} (o : Option A) → option_or o None ≡ o
or_none None = refl
or_none (Some x) = refl

-- lists that are joined, in each of which but those of some elements nothing is found
module _ {A B : Type 0} (p : B → Bool) (q : A → Bool) (f : A → List B)
    (fails : (y : A) → q y ≡ false → find p (f y) ≡ None) where
  none_in : (xs : List A) → AllByRecursion (λ x. q x ≡ false) xs → find p (flat_map f xs) ≡ None
  none_in [] all = refl
  none_in (x ∷ xs) all = find-append p (f x) (flat_map f xs) ∙ rw (fails x all.0, none_in xs all.1) refl

  found_in : (x : A) (xs : List A) → IsAscending (λ y z. q y ≡ true → q z ≡ false) xs → find q xs ≡ Some x
      → find p (flat_map f xs) ≡ find p (f x)
  found_in x [] apart is = absurd (none-some x is)
  found_in x (y ∷ ys) apart is = find-append p (f y) (flat_map f ys) ∙ at (q y) refl is (found_in x ys apart.1)
    where
      at : (b : Bool) → q y ≡ b → cond b (Some y) (find q ys) ≡ Some x
          → (find q ys ≡ Some x → find p (flat_map f ys) ≡ find p (f x))
          → option_or (find p (f y)) (find p (flat_map f ys)) ≡ find p (f x)
      at true e is rest =
          rw (none_in ys (all_weaker (λ z. q y ≡ true → q z ≡ false) (λ z. q z ≡ false) (λ z no. no e) ys apart.0))
          (or_none (find p (f y)) ∙ ap (λ z. find p (f z)) (same_Some y x is))
      at false e is rest = rw (fails y e) (rest is)

-- ---- in a view

both_same : (a b n : ℤ) → int_eq a n ≡ true → int_eq b n ≡ true → a ≡ b
both_same a b n p q = same_int a n p ∙ sym (same_int b n q)

one_place : (id n : ℤ) (x y : Chunk) → is_chunk id n x ≡ true → is_chunk id n y ≡ true → is_gt (chunk_cmp x y) ≡ false
one_place id n x y p q =
    let a = and_parts _ _ p in
    let b = and_parts _ _ q in
    rw (
      ap (λ k. int_cmp k y.upload) (both_same x.upload y.upload id a.0 b.0) ∙ tied_itself int_cmp_total y.upload,
      ap (λ k. int_cmp k y.n) (both_same x.n y.n n a.1 b.1) ∙ tied_itself int_cmp_total y.n,
    ) refl

-- the bytes of a chunk that was found
abbrev pub bytes_found : Option Chunk → Option (List ℕ)
bytes_found = option_map (λ (k : Chunk). k.bytes)

find_placeless : (id n : ℤ) (cs : List Chunk)
    → bytes_found (find (is_chunk id n) (map placeless cs)) ≡ bytes_found (find (is_chunk id n) cs)
find_placeless id n [] = refl
find_placeless id n (c ∷ cs) = at (is_chunk id n c) (find_placeless id n cs)
  where
    at : (b : Bool) → bytes_found (find (is_chunk id n) (map placeless cs)) ≡ bytes_found (find (is_chunk id n) cs)
        → bytes_found (cond b (Some (placeless c)) (find (is_chunk id n) (map placeless cs)))
        ≡ bytes_found (cond b (Some c) (find (is_chunk id n) cs))
    at true rest = refl
    at false rest = rest

pub found-in-view : (file : List ℕ) (staged : List Staged) (id n : ℤ) (t : Tables)
    → option_map (λ (k : Chunk). k.bytes) (find (is_chunk id n) (view file staged t).chunks)
    ≡ option_map (λ (k : Chunk). k.bytes) (find (is_chunk id n) (all_chunks file staged t.chunks))
unfolding view
found-in-view file staged id n t =
    let cs = all_chunks file staged t.chunks in
    ap bytes_found (find-sort chunk_cmp chunk_total (is_chunk id n) (one_place id n) (map placeless cs))
    ∙ find_placeless id n cs

-- ---- in the rows

-- a chunk with another number than that of a place is a piece
is_no_place : (n k : ℤ) → n ≢ pos place_number → int_eq k n ≡ true → int_eq k (pos place_number) ≡ false
is_no_place n k other is = int_eq_apart k (pos place_number) (λ same. other (sym (same_int k n is) ∙ same))

pub among-rows : (id n : ℤ) (cs : List Chunk) → n ≢ pos place_number
    → find (is_chunk id n) (filter is_piece cs) ≡ find (is_chunk id n) cs
among-rows id n cs other =
    find_kept (is_chunk id n) is_piece
    (λ c is. ap not (is_no_place n c.n other (and_parts (int_eq c.upload id) (int_eq c.n n) is).1)) cs

-- ---- at the places

other_number : (id n u : ℤ) (c : Chunk) → int_eq u id ≡ false → c.upload ≡ u → is_chunk id n c ≡ false
other_number id n u c other own = rw (own, other) refl

other_pieces : (id n u : ℤ) (bytes : List ℕ) → int_eq u id ≡ false → find (is_chunk id n) (pieces u bytes) ≡ None
other_pieces id n u bytes other =
    find_owned (is_chunk id n) u (pieces u bytes) (λ c. other_number id n u c other) (pieces_owned u bytes)

other_place : (file : List ℕ) (id n : ℤ) (c : Chunk) → is_of id c ≡ false
    → find (is_chunk id n) (pieces_at file c) ≡ None
other_place file id n c other = at (region_in c.bytes)
  where
    at : (o : Option Region) → find (is_chunk id n) (pieces_in file c o) ≡ None
    at None = refl
    at (Some region) = other_pieces id n c.upload (content_in file region) other

own_apart : (id a b : ℤ) → a ≢ b → int_eq a id ≡ true → int_eq b id ≡ false
own_apart id a b apart own = int_eq_apart b id (λ same. apart (same_int a id own ∙ sym same))

pub at-place : (file : List ℕ) (id n : ℤ) (cs : List Chunk) (p : Chunk)
    → IsAscending (λ (a b : Chunk). a.upload ≢ b.upload) (filter is_place cs)
    → find (is_chunk id (pos place_number)) cs ≡ Some p
    → find (is_chunk id n) (flat_map (pieces_at file) (filter is_place cs)) ≡ find (is_chunk id n) (pieces_at file p)
at-place file id n cs p apart is =
    found_in (is_chunk id n) (is_of id) (pieces_at file) (other_place file id n) p (filter is_place cs)
    (ascending_weaker (λ (a b : Chunk). a.upload ≢ b.upload) (λ a b. is_of id a ≡ true → is_of id b ≡ false)
    (λ a b. own_apart id a.upload b.upload) (filter is_place cs) apart)
    (sym (find_both (is_of id) is_place cs) ∙ is)

pub without-place : (file : List ℕ) (id n : ℤ) (cs : List Chunk) → find (is_chunk id (pos place_number)) cs ≡ None
    → find (is_chunk id n) (flat_map (pieces_at file) (filter is_place cs)) ≡ None
without-place file id n cs is =
    none_in (is_chunk id n) (is_of id) (pieces_at file) (other_place file id n) (filter is_place cs)
    (none_passes (is_of id) (filter is_place cs) (sym (find_both (is_of id) is_place cs) ∙ is))

-- no place is of an upload for which none is found
pub no-places-of : (id : ℤ) (cs : List Chunk) → find (is_chunk id (pos place_number)) cs ≡ None
    → AllByRecursion (λ (c : Chunk). c.upload ≢ id) (filter is_place cs)
no-places-of id cs is =
    all_weaker (λ (c : Chunk). is_of id c ≡ false) (λ c. c.upload ≢ id) (λ c other. other_upload c.upload id other) (filter is_place cs)
    (none_passes (is_of id) (filter is_place cs) (sym (find_both (is_of id) is_place cs) ∙ is))
  where
    other_upload : (a b : ℤ) → int_eq a b ≡ false → a ≢ b
    other_upload a b other same = grind (arith, ints)

-- ---- in the contents that are being received

other_staged : (file : List ℕ) (id n : ℤ) (s : Staged) → int_eq (upload_number s.id) id ≡ false
    → find (is_chunk id n) (received_pieces file s) ≡ None
other_staged file id n s other = other_pieces id n (upload_number s.id) (written_in file s.draft) other

pub none-staged : (file : List ℕ) (id n : ℤ) (staged : List Staged) → AreOfOthers id staged
    → find (is_chunk id n) (flat_map (received_pieces file) staged) ≡ None
none-staged file id n staged other =
    none_in (is_chunk id n) (λ s. int_eq (upload_number s.id) id) (received_pieces file) (other_staged file id n) staged
    (all_weaker (λ (s : Staged). upload_number s.id ≢ id) (λ s. int_eq (upload_number s.id) id ≡ false)
    (λ s. int_eq_apart (upload_number s.id) id) staged other)

pub among-staged : (file : List ℕ) (id n : ℤ) (pre post : List Staged) (e : Staged) → upload_number e.id ≡ id
    → AreOfOthers id pre → AreOfOthers id post
    → find (is_chunk id n) (flat_map (received_pieces file) (pre ++ e ∷ post))
    ≡ find (is_chunk id n) (received_pieces file e)
among-staged file id n pre post e own before after =
    let p = is_chunk id n in
    ap (find p) (flat_map-append (received_pieces file) pre (e ∷ post))
    ∙ find-append p (flat_map (received_pieces file) pre) (flat_map (received_pieces file) (e ∷ post))
    ∙ ap (λ o. option_or o (find p (flat_map (received_pieces file) (e ∷ post)))) (none-staged file id n pre before)
    ∙ find-append p (received_pieces file e) (flat_map (received_pieces file) post)
    ∙ ap (option_or (find p (received_pieces file e))) (none-staged file id n post after)
    ∙ or_none (find p (received_pieces file e))

-- ---- the ways in which it is found

-- the first of what is found in the rows, at the places, and in the contents that are being received
found_in_parts : (file : List ℕ) (staged : List Staged) (id n : ℤ) (t : Tables) (rows places received : Option Chunk)
    → find (is_chunk id n) (filter is_piece t.chunks) ≡ rows
    → find (is_chunk id n) (flat_map (pieces_at file) (filter is_place t.chunks)) ≡ places
    → find (is_chunk id n) (flat_map (received_pieces file) staged) ≡ received
    → option_map (λ (k : Chunk). k.bytes) (find (is_chunk id n) (view file staged t).chunks)
    ≡ bytes_found (option_or rows (option_or places received))
found_in_parts file staged id n t rows places received first second third =
    let p = is_chunk id n in
    let piece_rows = filter is_piece t.chunks in
    let at_places = flat_map (pieces_at file) (filter is_place t.chunks) in
    let in_staged = flat_map (received_pieces file) staged in
    found-in-view file staged id n t
    ∙ ap bytes_found
    (find-append p piece_rows (at_places ++ in_staged)
    ∙ ap (option_or (find p piece_rows)) (find-append p at_places in_staged)
    ∙ rw (first, second, third) refl)

pub row-found : (file : List ℕ) (staged : List Staged) (id n : ℤ) (t : Tables) (k : Chunk) → n ≢ pos place_number
    → find (is_chunk id n) t.chunks ≡ Some k
    → option_map (λ (c : Chunk). c.bytes) (find (is_chunk id n) (view file staged t).chunks) ≡ Some k.bytes
row-found file staged id n t k other is =
    found_in_parts file staged id n t (Some k) _ _ (among-rows id n t.chunks other ∙ is) refl refl

pub place-found : (file : List ℕ) (staged : List Staged) (id n : ℤ) (t : Tables) (p k : Chunk) → n ≢ pos place_number
    → IsAscending (λ (a b : Chunk). a.upload ≢ b.upload) (filter is_place t.chunks)
    → find (is_chunk id n) t.chunks ≡ None → find (is_chunk id (pos place_number)) t.chunks ≡ Some p
    → find (is_chunk id n) (pieces_at file p) ≡ Some k
    → option_map (λ (c : Chunk). c.bytes) (find (is_chunk id n) (view file staged t).chunks) ≡ Some k.bytes
place-found file staged id n t p k other apart none there is =
    found_in_parts file staged id n t None (Some k) _ (among-rows id n t.chunks other ∙ none)
    (at-place file id n t.chunks p apart there ∙ is) refl

pub place-ends : (file : List ℕ) (staged : List Staged) (id n : ℤ) (t : Tables) (p : Chunk) → n ≢ pos place_number
    → IsAscending (λ (a b : Chunk). a.upload ≢ b.upload) (filter is_place t.chunks)
    → find (is_chunk id n) t.chunks ≡ None → find (is_chunk id (pos place_number)) t.chunks ≡ Some p
    → find (is_chunk id n) (pieces_at file p) ≡ None → AreOfOthers id staged
    → option_map (λ (c : Chunk). c.bytes) (find (is_chunk id n) (view file staged t).chunks) ≡ None
place-ends file staged id n t p other apart none there ends others =
    found_in_parts file staged id n t None None None (among-rows id n t.chunks other ∙ none)
    (at-place file id n t.chunks p apart there ∙ ends) (none-staged file id n staged others)

pub staged-found : (file : List ℕ) (staged : List Staged) (id n : ℤ) (t : Tables) (pre post : List Staged) (e : Staged)
    → n ≢ pos place_number → find (is_chunk id n) t.chunks ≡ None
    → find (is_chunk id (pos place_number)) t.chunks ≡ None → staged ≡ pre ++ e ∷ post → upload_number e.id ≡ id
    → AreOfOthers id pre → AreOfOthers id post
    → option_map (λ (c : Chunk). c.bytes) (find (is_chunk id n) (view file staged t).chunks)
    ≡ option_map (λ (c : Chunk). c.bytes) (find (is_chunk id n) (received_pieces file e))
staged-found file staged id n t pre post e other none no_place split own before after =
    found_in_parts file staged id n t None None (find (is_chunk id n) (received_pieces file e))
    (among-rows id n t.chunks other ∙ none) (without-place file id n t.chunks no_place)
    (ap (λ (ss : List Staged). find (is_chunk id n) (flat_map (received_pieces file) ss)) split
    ∙ among-staged file id n pre post e own before after)

pub nowhere-found : (file : List ℕ) (staged : List Staged) (id n : ℤ) (t : Tables) → n ≢ pos place_number
    → find (is_chunk id n) t.chunks ≡ None → find (is_chunk id (pos place_number)) t.chunks ≡ None
    → AreOfOthers id staged
    → option_map (λ (c : Chunk). c.bytes) (find (is_chunk id n) (view file staged t).chunks) ≡ None
nowhere-found file staged id n t other none no_place others =
    found_in_parts file staged id n t None None None (among-rows id n t.chunks other ∙ none)
    (without-place file id n t.chunks no_place) (none-staged file id n staged others)
