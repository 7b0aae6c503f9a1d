-- The steps of the calls change the tables that a database shows together with a file as they change its tables.
use Rattle.placed.proofs.Prelude.{◌≡◌, ◌≢◌, ℕ, ℤ, pos, Bool, true, false, not, cond, List, [], ◌∷◌, ◌++◌, filter, Option, Some, None, refl, sym, ap, subst, ◌∙◌, true≢false, is_gt, append-nil, AllByRecursion, flat_map, int_cmp, int_eq, int_cmp_total, tied_itself, flat_map-append, filter-append, next_key, insert_sorted, all-append, all_weaker, filter_all, int_eq_apart, same_int, Chunk, Upload, Lock, Token, Tables, is_of, is_of_from, is_staged, is_staged_with, is_upload, with_chunk, with_done, with_lock, with_token, without_chunks, without_chunks_from, without_expired, without_lock, without_row, Outcome, held, used_up, created, outcome_of, after_outcome, after_create, with_new_lock, with_made, has_token, after_add, upload_number, asked_chunk, staged_with, with_used, with_bytes, with_kept, without_upload, placeless, chunk_cmp, arranged, normal, Staged, place_number, is_place, is_piece, region_in, content_in, written_in, pieces_in, pieces_at, received_pieces, all_chunks, others_of, shown_meta, view, Region, and_parts, AreOfOthers}
use Rattle.std.proofs.lemmas.List.{append_assoc}
use Rattle.sqlite_keyed.proofs.ListLemmas.{all-flat_map}
use Rattle.tables.specs.Staging.{objects_of}
use Rattle.store.proofs.Steps.{normal-again}
use Rattle.placed.proofs.Owned.{AreOf, filter-flat_map, filter_owned, pieces_owned}
use Rattle.placed.proofs.Arranged.{arranged-filter, arranged-front, arranged-swap, arranged-again, arranged-push}
use Rattle.placed.proofs.Lists.{flat_map_each, filter_swap, found_passes}
use Rattle.placed.proofs.Keeping.{AgreeAt, AgreeOn}

-- the tables that are shown with these chunks
abbrev with_rows : Tables → List Chunk → Tables
with_rows t cs = record t { meta = shown_meta t.meta; chunks = cs }

-- the pieces of the contents at the places among these rows
abbrev placed : List ℕ → List Chunk → List Chunk
placed file cs = flat_map (pieces_at file) (filter is_place cs)

-- the pieces of contents that are being received
abbrev received : List ℕ → List Staged → List Chunk
received file staged = flat_map (received_pieces file) staged

-- all chunks, of these three kinds
abbrev three : List Chunk → List Chunk → List Chunk → List Chunk
three rows here there = rows ++ (here ++ there)

-- the tables that a database shows are arranged already
pub view-normal : (file : List ℕ) (staged : List Staged) (t : Tables) → normal (view file staged t) ≡ view file staged t
unfolding view
view-normal file staged t = normal-again (with_rows t (all_chunks file staged t.chunks))

-- ---- another file, with the same contents

same_placed : (file file' : List ℕ) (cs : List Chunk) → AgreeAt file' file (filter is_place cs)
    → placed file' cs ≡ placed file cs
same_placed file file' cs each = flat_map_each (pieces_at file') (pieces_at file) (filter is_place cs) each

same_received : (file file' : List ℕ) (staged : List Staged) → AgreeOn file' file staged
    → received file' staged ≡ received file staged
same_received file file' staged each = flat_map_each (received_pieces file') (received_pieces file) staged each

pub view-same : (file file' : List ℕ) (staged : List Staged) (t : Tables)
    → AgreeAt file' file (filter is_place t.chunks) → AgreeOn file' file staged
    → view file' staged t ≡ view file staged t
unfolding view
view-same file file' staged t places parts =
    ap (λ l. with_rows t (arranged (three (filter is_piece t.chunks) l (received file' staged))))
    (same_placed file file' t.chunks places)
    ∙ ap (λ l. with_rows t (arranged (three (filter is_piece t.chunks) (placed file t.chunks) l)))
    (same_received file file' staged parts)

-- ---- without an upload

filter_three : (p : Chunk → Bool) (xs ys zs : List Chunk)
    → filter p (three xs ys zs) ≡ three (filter p xs) (filter p ys) (filter p zs)
filter_three p xs ys zs = filter-append p xs (ys ++ zs) ∙ ap (λ l. filter p xs ++ l) (filter-append p ys zs)

-- each piece at a place is of the upload of the place
pub at_owned : (file : List ℕ) (c : Chunk) → AreOf c.upload (pieces_at file c)
at_owned file c = go (region_in c.bytes)
  where
    go : (o : Option Region) → AreOf c.upload (pieces_in file c o)
    go None = tt
    go (Some region) = pieces_owned c.upload (content_in file region)

of_owned : (file : List ℕ) (s : Staged) → AreOf (upload_number s.id) (received_pieces file s)
of_owned file s = pieces_owned (upload_number s.id) (written_in file s.draft)

-- a test of the upload of a chunk
abbrev by_upload : (ℤ → Bool) → Chunk → Bool
by_upload k c = k c.upload

-- the same test of a content that is being received
abbrev by_number : (ℤ → Bool) → Staged → Bool
by_number k s = k (upload_number s.id)

owned : (k : ℤ → Bool) (id : ℤ) (cs : List Chunk) → AreOf id cs → filter (by_upload k) cs ≡ cond (k id) cs []
owned k id cs own = filter_owned (by_upload k) (k id) id cs (λ c e. ap k e) own

tested : (k : ℤ → Bool) (file : List ℕ) (staged : List Staged) (cs : List Chunk)
    → filter (by_upload k) (all_chunks file staged cs)
    ≡ all_chunks file (filter (by_number k) staged) (filter (by_upload k) cs)
tested k file staged cs =
    filter_three (by_upload k) (filter is_piece cs) (placed file cs) (received file staged)
    ∙ ap (λ l. three l (filter (by_upload k) (placed file cs)) (filter (by_upload k) (received file staged)))
    (filter_swap (by_upload k) is_piece cs)
    ∙ ap (λ l. three (filter is_piece (filter (by_upload k) cs)) l (filter (by_upload k) (received file staged))) (
    filter-flat_map (by_upload k) (by_upload k) (pieces_at file)
    (λ c. owned k c.upload (pieces_at file c) (at_owned file c)) (filter is_place cs)
    ∙ ap (flat_map (pieces_at file)) (filter_swap (by_upload k) is_place cs)
    )
    ∙ ap (three (filter is_piece (filter (by_upload k) cs)) (placed file (filter (by_upload k) cs))) (
    filter-flat_map (by_upload k) (by_number k) (received_pieces file)
    (λ s. owned k (upload_number s.id) (received_pieces file s) (of_owned file s)) staged
    )

pub view-without : (file : List ℕ) (staged : List Staged) (t : Tables) (id : ℤ)
    → view file (others_of id staged) (without_upload id t) ≡ without_upload id (view file staged t)
unfolding view without_upload without_row without_chunks
view-without file staged t id =
    ap (with_rows (without_upload id t)) (
    ap arranged (sym (tested (λ k. not (int_eq k id)) file staged t.chunks))
    ∙ arranged-filter (λ c. not (is_of id c)) refl (all_chunks file staged t.chunks)
    )

-- ---- shortened

-- the pieces that are received, of one in the middle
middle : (file : List ℕ) (pre post : List Staged) (e : Staged)
    → received file (pre ++ e ∷ post) ≡ received file pre ++ (received_pieces file e ++ received file post)
middle file pre post e = flat_map-append (received_pieces file) pre (e ∷ post)

filter_flat_map_all : {A B : Type 0} (p : B → Bool) (f : A → List B) (xs : List A)
    → AllByRecursion (λ x. filter p (f x) ≡ f x) xs → filter p (flat_map f xs) ≡ flat_map f xs
filter_flat_map_all p f [] all = refl
filter_flat_map_all p f (x ∷ xs) all =
    filter-append p (f x) (flat_map f xs)
    ∙ ap (λ l. l ++ filter p (flat_map f xs)) all.0
    ∙ ap (λ l. f x ++ l) (filter_flat_map_all p f xs all.1)

-- the chunk is not one that is removed
abbrev stays : ℤ → ℤ → Chunk → Bool
stays id n c = not (is_of_from id n c)

-- a chunk of another upload stays
other_stays : (id n : ℤ) (c : Chunk) → c.upload ≢ id → stays id n c ≡ true
other_stays id n c apart = rw (int_eq_apart c.upload id apart) refl

owned_stay : (id n of : ℤ) (cs : List Chunk) → of ≢ id → AreOf of cs → filter (stays id n) cs ≡ cs
owned_stay id n of cs apart own =
    filter_owned (stays id n) true of cs (λ c e. other_stays id n c (λ f. apart (sym e ∙ f))) own

received_stay : (file : List ℕ) (id n : ℤ) (staged : List Staged) → AreOfOthers id staged
    → filter (stays id n) (received file staged) ≡ received file staged
received_stay file id n staged apart =
    filter_flat_map_all (stays id n) (received_pieces file) staged (all_weaker _ _ each staged apart)
  where
    each : (s : Staged) → upload_number s.id ≢ id
        → filter (stays id n) (received_pieces file s) ≡ received_pieces file s
    each s d = owned_stay id n (upload_number s.id) (received_pieces file s) d (of_owned file s)

placed_stay : (file : List ℕ) (id n : ℤ) (cs : List Chunk)
    → AllByRecursion (λ (c : Chunk). c.upload ≢ id) (filter is_place cs)
    → filter (stays id n) (placed file cs) ≡ placed file cs
placed_stay file id n cs apart =
    filter_flat_map_all (stays id n) (pieces_at file) (filter is_place cs) (all_weaker _ _ each (filter is_place cs) apart)
  where
    each : (c : Chunk) → c.upload ≢ id → filter (stays id n) (pieces_at file c) ≡ pieces_at file c
    each c d = owned_stay id n c.upload (pieces_at file c) d (at_owned file c)

shortened : (file : List ℕ) (pre post : List Staged) (e shorter : Staged) (id n : ℤ) (cs : List Chunk)
    → received_pieces file shorter ≡ filter (stays id n) (received_pieces file e) → AreOfOthers id pre
    → AreOfOthers id post → AllByRecursion (λ (c : Chunk). c.upload ≢ id) (filter is_place cs)
    → all_chunks file (pre ++ shorter ∷ post) (filter (stays id n) cs)
    ≡ filter (stays id n) (all_chunks file (pre ++ e ∷ post) cs)
shortened file pre post e shorter id n cs less before after places =
    let rows : filter is_piece (filter (stays id n) cs) ≡ filter (stays id n) (filter is_piece cs) =
    filter_swap is_piece (stays id n) cs in
    let kept : filter is_place (filter (stays id n) cs) ≡ filter is_place cs =
    filter_swap is_place (stays id n) cs
    ∙ filter_all (stays id n) (filter is_place cs) (all_weaker _ _ (other_stays id n) (filter is_place cs) places) in
    let here : placed file (filter (stays id n) cs) ≡ filter (stays id n) (placed file cs) =
    ap (flat_map (pieces_at file)) kept ∙ sym (placed_stay file id n cs places) in
    let there : received file (pre ++ shorter ∷ post) ≡ filter (stays id n) (received file (pre ++ e ∷ post)) =
    middle file pre post shorter
    ∙ ap (λ l. three l (received_pieces file shorter) (received file post)) (sym (received_stay file id n pre before))
    ∙ ap (λ l. three (filter (stays id n) (received file pre)) l (received file post)) less
    ∙ ap (three (filter (stays id n) (received file pre)) (filter (stays id n) (received_pieces file e)))
    (sym (received_stay file id n post after))
    ∙ sym (filter_three (stays id n) (received file pre) (received_pieces file e) (received file post))
    ∙ ap (filter (stays id n)) (sym (middle file pre post e)) in
    ap (λ l. three l (placed file (filter (stays id n) cs)) (received file (pre ++ shorter ∷ post))) rows
    ∙ ap (λ l. three (filter (stays id n) (filter is_piece cs)) l (received file (pre ++ shorter ∷ post))) here
    ∙ ap (three (filter (stays id n) (filter is_piece cs)) (filter (stays id n) (placed file cs))) there
    ∙ sym (filter_three (stays id n) (filter is_piece cs) (placed file cs) (received file (pre ++ e ∷ post)))

-- less of a content that is being received
pub view-shortened : (file : List ℕ) (pre post : List Staged) (t : Tables) (e shorter : Staged) (id n : ℤ)
    → received_pieces file shorter ≡ filter (λ (c : Chunk). not (is_of_from id n c)) (received_pieces file e)
    → AreOfOthers id pre → AreOfOthers id post
    → AllByRecursion (λ (c : Chunk). c.upload ≢ id) (filter is_place t.chunks)
    → view file (pre ++ shorter ∷ post) (without_chunks_from id n t)
    ≡ without_chunks_from id n (view file (pre ++ e ∷ post) t)
unfolding view without_chunks_from
view-shortened file pre post t e shorter id n less before after places =
    ap (with_rows t) (
    ap arranged (shortened file pre post e shorter id n t.chunks less before after places)
    ∙ arranged-filter (λ c. not (is_of_from id n c)) refl (all_chunks file (pre ++ e ∷ post) t.chunks)
    )

-- ---- with more chunks

-- no chunk is of this upload
abbrev AreApart : ℤ → List Chunk → Type 0
AreApart id = AllByRecursion (λ (c : Chunk). id ≢ c.upload)

-- the chunks of one upload, and those of others
owned_apart : (id : ℤ) (xs ys : List Chunk) → AreOf id xs → AreApart id ys
    → AllByRecursion (λ (x : Chunk). AllByRecursion (λ (y : Chunk). x.upload ≢ y.upload) ys) xs
owned_apart id xs ys own apart =
    all_weaker (λ (x : Chunk). x.upload ≡ id) _
    (λ x e. all_weaker (λ (y : Chunk). id ≢ y.upload) _ (λ y d same. d (sym e ∙ same)) ys apart) xs own

-- the chunks of another upload are not of this one
other_apart : (id of : ℤ) (cs : List Chunk) → of ≢ id → AreOf of cs → AreApart id cs
other_apart id of cs apart own =
    all_weaker (λ (c : Chunk). c.upload ≡ of) _ (λ c mine same. apart (sym mine ∙ sym same)) cs own

received_apart : (file : List ℕ) (id : ℤ) (staged : List Staged) → AreOfOthers id staged
    → AreApart id (received file staged)
received_apart file id staged apart =
    all-flat_map (λ (y : Chunk). id ≢ y.upload) (received_pieces file) staged (all_weaker _ _ each staged apart)
  where
    each : (s : Staged) → upload_number s.id ≢ id → AreApart id (received_pieces file s)
    each s d = other_apart id (upload_number s.id) (received_pieces file s) d (of_owned file s)

placed_apart : (file : List ℕ) (id : ℤ) (cs : List Chunk)
    → AllByRecursion (λ (c : Chunk). c.upload ≢ id) (filter is_place cs) → AreApart id (placed file cs)
placed_apart file id cs apart =
    all-flat_map (λ (y : Chunk). id ≢ y.upload) (pieces_at file) (filter is_place cs)
    (all_weaker _ _ each (filter is_place cs) apart)
  where
    each : (c : Chunk) → c.upload ≢ id → AreApart id (pieces_at file c)
    each c d = other_apart id c.upload (pieces_at file c) d (at_owned file c)

-- chunks that come before those of other uploads may come after them
moved_last : (id : ℤ) (ws last others : List Chunk) → AreOf id last → AreApart id others
    → arranged (ws ++ (last ++ others)) ≡ arranged ((ws ++ others) ++ last)
moved_last id ws last others own apart =
    ap (λ l. arranged (ws ++ (last ++ l))) (sym (append-nil others))
    ∙ arranged-front ws (last ++ (others ++ [])) (others ++ (last ++ []))
    (arranged-swap last others [] (owned_apart id last others own apart))
    ∙ ap (λ l. arranged (ws ++ (others ++ l))) (append-nil last)
    ∙ ap arranged (sym (append_assoc ws others last))

-- the chunks up to the last piece of one that is received
abbrev front : List ℕ → List Staged → Staged → List Chunk → List Chunk
front file pre e cs = filter is_piece cs ++ (placed file cs ++ (received file pre ++ received_pieces file e))

-- all chunks, those up to the last piece of one that is received first
split_at : (file : List ℕ) (pre post : List Staged) (e : Staged) (cs : List Chunk)
    → all_chunks file (pre ++ e ∷ post) cs ≡ front file pre e cs ++ received file post
split_at file pre post e cs =
    ap (three (filter is_piece cs) (placed file cs)) (middle file pre post e)
    ∙ five (filter is_piece cs) (placed file cs) (received file pre) (received_pieces file e) (received file post)
  where
    five : (a b c d f : List Chunk) → a ++ (b ++ (c ++ (d ++ f))) ≡ (a ++ (b ++ (c ++ d))) ++ f
    five a b c d f = simp append_assoc

added : (file file' : List ℕ) (pre post : List Staged) (e more : Staged) (c : Chunk) (cs : List Chunk)
    → AgreeAt file' file (filter is_place cs) → AgreeOn file' file pre → AgreeOn file' file post
    → received_pieces file' more ≡ received_pieces file e ++ c ∷ [] → AreOfOthers c.upload post
    → arranged (all_chunks file' (pre ++ more ∷ post) cs) ≡ arranged (all_chunks file (pre ++ e ∷ post) cs ++ c ∷ [])
added file file' pre post e more c cs places before after one apart =
    ap (λ l. arranged (three (filter is_piece cs) l (received file' (pre ++ more ∷ post))))
    (same_placed file file' cs places)
    ∙ ap (λ l. arranged (three (filter is_piece cs) (placed file cs) l)) (
    middle file' pre post more
    ∙ ap (λ l. three l (received_pieces file' more) (received file' post)) (same_received file file' pre before)
    ∙ ap (λ l. three (received file pre) l (received file' post)) one
    ∙ ap (three (received file pre) (received_pieces file e ++ c ∷ [])) (same_received file file' post after)
    )
    ∙ ap arranged (
    six (filter is_piece cs) (placed file cs) (received file pre) (received_pieces file e) (c ∷ []) (received file post)
    )
    ∙ moved_last c.upload (front file pre e cs) (c ∷ []) (received file post) (refl, tt)
    (received_apart file c.upload post apart)
    ∙ ap (λ l. arranged (l ++ c ∷ [])) (sym (split_at file pre post e cs))
  where
    six : (a b d f g h : List Chunk) → a ++ (b ++ (d ++ ((f ++ g) ++ h))) ≡ (a ++ (b ++ (d ++ f))) ++ (g ++ h)
    six a b d f g h = simp append_assoc

-- one more piece of a content that is being received
pub view-added : (file file' : List ℕ) (pre post : List Staged) (t : Tables) (e more : Staged) (c : Chunk)
    → AgreeAt file' file (filter is_place t.chunks) → AgreeOn file' file pre → AgreeOn file' file post
    → received_pieces file' more ≡ received_pieces file e ++ c ∷ [] → AreOfOthers c.upload post
    → view file' (pre ++ more ∷ post) t ≡ normal (with_chunk c (view file (pre ++ e ∷ post) t))
unfolding view with_chunk
view-added file file' pre post t e more c places before after one apart =
    ap (with_rows t) (
    added file file' pre post e more c t.chunks places before after one apart
    ∙ arranged-push (all_chunks file (pre ++ e ∷ post) t.chunks) c _ refl
    )

-- ---- complete

piece_added : (cs : List Chunk) (c : Chunk) (b : Bool) → is_place c ≡ b
    → filter is_piece (cs ++ c ∷ []) ≡ filter is_piece cs ++ cond b [] (c ∷ [])
piece_added cs c true at =
    filter-append is_piece cs (c ∷ []) ∙ ap (λ b. filter is_piece cs ++ cond (not b) (c ∷ []) []) at
piece_added cs c false at =
    filter-append is_piece cs (c ∷ []) ∙ ap (λ b. filter is_piece cs ++ cond (not b) (c ∷ []) []) at

place_added : (cs : List Chunk) (c : Chunk) (b : Bool) → is_place c ≡ b
    → filter is_place (cs ++ c ∷ []) ≡ filter is_place cs ++ cond b (c ∷ []) []
place_added cs c b at = filter-append is_place cs (c ∷ []) ∙ ap (λ k. filter is_place cs ++ cond k (c ∷ []) []) at

-- a content that was received, with its last pieces, at a place
pub chunks-placed : (file file' : List ℕ) (pre post : List Staged) (e : Staged) (chunks last : List Chunk) (p : Chunk)
    → is_place p ≡ true → AreOf (upload_number e.id) last → AgreeAt file' file (filter is_place chunks)
    → AgreeOn file' file pre → AgreeOn file' file post → pieces_at file' p ≡ received_pieces file e ++ last
    → AreOfOthers (upload_number e.id) pre → AreOfOthers (upload_number e.id) post
    → arranged (all_chunks file' (pre ++ post) (chunks ++ p ∷ []))
    ≡ arranged (arranged (all_chunks file (pre ++ e ∷ post) chunks) ++ last)
chunks-placed file file' pre post e chunks last p at own places before after whole apart apart' =
    ap (λ l. arranged (three l (placed file' (chunks ++ p ∷ [])) (received file' (pre ++ post))))
    (piece_added chunks p true at ∙ append-nil (filter is_piece chunks))
    ∙ ap (λ l. arranged (three (filter is_piece chunks) l (received file' (pre ++ post)))) (
    ap (flat_map (pieces_at file')) (place_added chunks p true at)
    ∙ flat_map-append (pieces_at file') (filter is_place chunks) (p ∷ [])
    ∙ ap (λ l. l ++ (pieces_at file' p ++ [])) (same_placed file file' chunks places)
    ∙ ap (λ l. placed file chunks ++ l) (append-nil (pieces_at file' p) ∙ whole)
    )
    ∙ ap (λ l. arranged (three (filter is_piece chunks) (placed file chunks ++ (received_pieces file e ++ last)) l)) (
    flat_map-append (received_pieces file') pre post
    ∙ ap (λ l. l ++ received file' post) (same_received file file' pre before)
    ∙ ap (λ l. received file pre ++ l) (same_received file file' post after)
    )
    ∙ moved (filter is_piece chunks) (placed file chunks) (received file pre) (received_pieces file e) (received file post)
    (received_apart file (upload_number e.id) pre apart) (of_owned file e)
    (received_apart file (upload_number e.id) post apart')
    ∙ ap (λ l. arranged (l ++ last)) (sym (split_at file pre post e chunks))
    ∙ sym (arranged-again (all_chunks file (pre ++ e ∷ post) chunks) last)
  where
    before_swap : (a b c d f : List Chunk)
        → a ++ ((b ++ (d ++ last)) ++ (c ++ f)) ≡ (a ++ b) ++ ((d ++ last) ++ (c ++ f))
    before_swap a b c d f = simp append_assoc

    after_swap : (a b c d f : List Chunk)
        → (a ++ b) ++ (c ++ ((d ++ last) ++ f)) ≡ (a ++ (b ++ (c ++ d))) ++ (last ++ f)
    after_swap a b c d f = simp append_assoc

    both : (d : List Chunk) → AreOf (upload_number e.id) d → AreOf (upload_number e.id) (d ++ last)
    both d mine = all-append (λ (x : Chunk). x.upload ≡ upload_number e.id) d last mine own

    moved : (a b c d f : List Chunk) → AreApart (upload_number e.id) c → AreOf (upload_number e.id) d
        → AreApart (upload_number e.id) f
        → arranged (a ++ ((b ++ (d ++ last)) ++ (c ++ f))) ≡ arranged (((a ++ (b ++ (c ++ d))) ++ f) ++ last)
    moved a b c d f other mine other' =
        ap arranged (before_swap a b c d f)
        ∙ arranged-front (a ++ b) ((d ++ last) ++ (c ++ f)) (c ++ ((d ++ last) ++ f))
        (arranged-swap (d ++ last) c f (owned_apart (upload_number e.id) (d ++ last) c (both d mine) other))
        ∙ ap arranged (after_swap a b c d f)
        ∙ moved_last (upload_number e.id) (a ++ (b ++ (c ++ d))) last f own other'

-- these bytes as the last chunk of an upload, if there are any
abbrev pub last_of : ℤ → ℕ → List ℕ → List Chunk
last_of id n [] = []
last_of id n (byte ∷ bytes) = asked_chunk id n (byte ∷ bytes) ∷ []

last_owned : (id : ℤ) (n : ℕ) (bytes : List ℕ) → AreOf id (last_of id n bytes)
last_owned id n [] = tt
last_owned id n (byte ∷ bytes) = (refl, tt)

-- the rowid of a place does not matter
rowid_aside : (file : List ℕ) (c : Chunk) (rowid : ℤ) (o : Option Region)
    → pieces_in file (record c { rowid = rowid }) o ≡ pieces_in file c o
rowid_aside file c rowid None = refl
rowid_aside file c rowid (Some region) = refl

-- nor does that of the last chunk
arranged_last : (cs : List Chunk) (c d : Chunk) → placeless c ≡ placeless d
    → arranged (cs ++ c ∷ []) ≡ arranged (cs ++ d ∷ [])
arranged_last cs c d same = arranged-front cs (c ∷ []) (d ∷ []) (ap (λ k. k ∷ []) same)

arranged_once : (cs : List Chunk) → arranged (arranged cs) ≡ arranged cs
arranged_once cs = ap arranged (sym (append-nil (arranged cs))) ∙ arranged-again cs [] ∙ ap arranged (append-nil cs)

-- a chunk of an upload, as the next row
abbrev next_row : ℤ → ℕ → List ℕ → Tables → Chunk
next_row id n bytes t = record (asked_chunk id n bytes) { rowid = next_key (λ (x : Chunk). x.rowid) t.chunks }

-- a content that was received is complete, and is at a place, which has the pieces that were received and the last bytes
pub view-completed : (file file' : List ℕ) (pre post : List Staged) (t : Tables) (e : Staged)
    → (u : Upload) (n : ℕ) (bytes place : List ℕ) → u.id ≡ upload_number e.id
    → AgreeAt file' file (filter is_place t.chunks) → AgreeOn file' file pre → AgreeOn file' file post
    → pieces_at file' (asked_chunk u.id place_number place) ≡ received_pieces file e ++ last_of u.id n bytes
    → AreOfOthers (upload_number e.id) pre → AreOfOthers (upload_number e.id) post
    → view file' (pre ++ post) (with_kept u (with_chunk (asked_chunk u.id place_number place) t))
    ≡ normal (with_kept u (with_bytes u.id n bytes (view file (pre ++ e ∷ post) t)))
unfolding view with_kept with_used with_done with_chunk
view-completed file file' pre post t e u n bytes place own places before after whole apart apart' =
    at bytes (
    chunks-placed file file' pre post e t.chunks (last_of u.id n bytes) (next_row u.id place_number place t) refl
    (subst (λ (id : ℤ). AreOf id (last_of u.id n bytes)) own (last_owned u.id n bytes)) places before after
    (rowid_aside file' (asked_chunk u.id place_number place) (next_row u.id place_number place t).rowid (region_in place) ∙ whole)
    apart apart'
    )
  where
    at : (bytes : List ℕ)
        → arranged (all_chunks file' (pre ++ post) (t.chunks ++ next_row u.id place_number place t ∷ []))
        ≡ arranged (arranged (all_chunks file (pre ++ e ∷ post) t.chunks) ++ last_of u.id n bytes)
        → view file' (pre ++ post) (with_kept u (with_chunk (asked_chunk u.id place_number place) t))
        ≡ normal (with_kept u (with_bytes u.id n bytes (view file (pre ++ e ∷ post) t)))
    at [] same =
        ap (with_rows (with_kept u t))
        (same ∙ ap arranged (append-nil (arranged (all_chunks file (pre ++ e ∷ post) t.chunks))))
    at (byte ∷ bytes) same =
        ap (with_rows (with_kept u t)) (
        same
        ∙ arranged_last (arranged (all_chunks file (pre ++ e ∷ post) t.chunks)) (asked_chunk u.id n (byte ∷ bytes)) _ refl
        )

-- a piece that is a row, beside places and contents of other uploads
row_added : (file : List ℕ) (staged : List Staged) (cs : List Chunk) (c : Chunk) → is_piece c ≡ true
    → AllByRecursion (λ (x : Chunk). x.upload ≢ c.upload) (filter is_place cs) → AreOfOthers c.upload staged
    → arranged (all_chunks file staged (cs ++ c ∷ [])) ≡ arranged (all_chunks file staged cs ++ c ∷ [])
row_added file staged cs c piece places others =
    ap (λ l. arranged (three l (placed file (cs ++ c ∷ [])) (received file staged)))
    (piece_added cs c false (flipped (is_place c) piece))
    ∙ ap (λ l. arranged (three (filter is_piece cs ++ c ∷ []) (flat_map (pieces_at file) l) (received file staged)))
    (place_added cs c false (flipped (is_place c) piece) ∙ append-nil (filter is_place cs))
    ∙ ap arranged (append_assoc (filter is_piece cs) (c ∷ []) (placed file cs ++ received file staged))
    ∙ moved_last c.upload (filter is_piece cs) (c ∷ []) (placed file cs ++ received file staged) (refl, tt)
    (all-append (λ (y : Chunk). c.upload ≢ y.upload) (placed file cs) (received file staged)
    (placed_apart file c.upload cs places) (received_apart file c.upload staged others))
  where
    flipped : (b : Bool) → not b ≡ true → b ≡ false
    flipped true e = sym e
    flipped false e = refl

-- a content whose pieces are rows is complete
pub view-kept-row : (file : List ℕ) (staged : List Staged) (t : Tables) (u : Upload) (n : ℕ) (bytes : List ℕ)
    → is_piece (asked_chunk u.id n bytes) ≡ true
    → AllByRecursion (λ (c : Chunk). c.upload ≢ u.id) (filter is_place t.chunks) → AreOfOthers u.id staged
    → view file staged (with_kept u (with_bytes u.id n bytes t))
    ≡ normal (with_kept u (with_bytes u.id n bytes (view file staged t)))
unfolding view with_kept with_used with_done with_chunk
view-kept-row file staged t u n bytes piece places others = at bytes piece
  where
    at : (bytes : List ℕ) → is_piece (asked_chunk u.id n bytes) ≡ true
        → view file staged (with_kept u (with_bytes u.id n bytes t))
        ≡ normal (with_kept u (with_bytes u.id n bytes (view file staged t)))
    at [] one = ap (with_rows (with_kept u t)) (sym (arranged_once (all_chunks file staged t.chunks)))
    at (byte ∷ bytes) one =
        ap (with_rows (with_kept u t)) (
        row_added file staged t.chunks (next_row u.id n (byte ∷ bytes) t) one places others
        ∙ arranged-push (all_chunks file staged t.chunks) _ _ refl
        )

-- ---- arranged tables

-- of two places the one that is greater is of another upload
places_differ : (x y : Chunk) → is_place x ≡ true → is_place y ≡ true → is_gt (chunk_cmp x y) ≡ true
    → x.upload ≢ y.upload
places_differ x y p q greater same =
    true≢false (
    sym greater
    ∙ rw (
      ap (λ k. int_cmp k y.upload) same ∙ tied_itself int_cmp_total y.upload,
      ap (λ k. int_cmp k y.n) (same_int x.n (pos place_number) p ∙ sym (same_int y.n (pos place_number) q))
          ∙ tied_itself int_cmp_total y.n,
    ) refl
    )

-- the pieces at one more place, wherever it is inserted
inserted_place : (file : List ℕ) (x : Chunk) (ys : List Chunk)
    → arranged (placed file (insert_sorted chunk_cmp x ys)) ≡ arranged (placed file (x ∷ ys))
inserted_place file x [] = refl
inserted_place file x (y ∷ ys) = later (is_gt (chunk_cmp x y)) refl (inserted_place file x ys)
  where
    -- those of the place y come before or after those of the place x
    both : x.upload ≢ y.upload
        → arranged (placed file (insert_sorted chunk_cmp x ys)) ≡ arranged (pieces_at file x ++ placed file ys)
        → arranged (pieces_at file y ++ placed file (insert_sorted chunk_cmp x ys))
        ≡ arranged (pieces_at file x ++ (pieces_at file y ++ placed file ys))
    both apart rest =
        arranged-front (pieces_at file y) (placed file (insert_sorted chunk_cmp x ys)) (pieces_at file x ++ placed file ys) rest
        ∙ sym (arranged-swap (pieces_at file x) (pieces_at file y) (placed file ys)
        (owned_apart x.upload (pieces_at file x) (pieces_at file y) (at_owned file x)
        (other_apart x.upload y.upload (pieces_at file y) (λ same. apart (sym same)) (at_owned file y))))

    each : (a b : Bool) → is_place x ≡ a → is_place y ≡ b → is_gt (chunk_cmp x y) ≡ true
        → arranged (placed file (insert_sorted chunk_cmp x ys))
        ≡ arranged (flat_map (pieces_at file) (cond a (x ∷ filter is_place ys) (filter is_place ys)))
        → arranged (flat_map (pieces_at file)
        (cond b (y ∷ filter is_place (insert_sorted chunk_cmp x ys)) (filter is_place (insert_sorted chunk_cmp x ys))))
        ≡ arranged (flat_map (pieces_at file)
        (cond a (x ∷ cond b (y ∷ filter is_place ys) (filter is_place ys)) (cond b (y ∷ filter is_place ys) (filter is_place ys))))
    each true true p q greater rest = both (places_differ x y p q greater) rest
    each true false p q greater rest = rest
    each false true p q greater rest =
        arranged-front (pieces_at file y) (placed file (insert_sorted chunk_cmp x ys)) (placed file ys) rest
    each false false p q greater rest = rest

    later : (b : Bool) → is_gt (chunk_cmp x y) ≡ b
        → arranged (placed file (insert_sorted chunk_cmp x ys)) ≡ arranged (placed file (x ∷ ys))
        → arranged (placed file (cond b (y ∷ insert_sorted chunk_cmp x ys) (x ∷ y ∷ ys)))
        ≡ arranged (placed file (x ∷ y ∷ ys))
    later true e rest = each (is_place x) (is_place y) refl refl e rest
    later false e rest = refl

-- the pieces at places, in whatever order the places are
arranged_places : (file : List ℕ) (cs : List Chunk) → arranged (placed file (arranged cs)) ≡ arranged (placed file cs)
arranged_places file [] = refl
arranged_places file (c ∷ cs) =
    inserted_place file (placeless c) (arranged cs) ∙ at (is_place c) (arranged_places file cs)
  where
    at : (b : Bool) → arranged (placed file (arranged cs)) ≡ arranged (placed file cs)
        → arranged (flat_map (pieces_at file)
        (cond b (placeless c ∷ filter is_place (arranged cs)) (filter is_place (arranged cs))))
        ≡ arranged (flat_map (pieces_at file) (cond b (c ∷ filter is_place cs) (filter is_place cs)))
    at true rest =
        ap (λ l. arranged (l ++ placed file (arranged cs))) (rowid_aside file c (pos 0) (region_in c.bytes))
        ∙ arranged-front (pieces_at file c) (placed file (arranged cs)) (placed file cs) rest
    at false rest = rest

-- the order of the chunks does not matter
pub view-of-normal : (file : List ℕ) (staged : List Staged) (t : Tables)
    → view file staged (normal t) ≡ view file staged t
unfolding view
view-of-normal file staged t =
    let rows = filter is_piece t.chunks in
    let there = received file staged in
    ap (with_rows t) (
    ap (λ l. arranged (three l (placed file (arranged t.chunks)) there)) (sym (arranged-filter is_piece refl t.chunks))
    ∙ arranged-again rows (placed file (arranged t.chunks) ++ there)
    ∙ arranged-front rows (placed file (arranged t.chunks) ++ there) (placed file t.chunks ++ there) (
    sym (arranged-again (placed file (arranged t.chunks)) there)
    ∙ ap (λ l. arranged (l ++ there)) (arranged_places file t.chunks)
    ∙ arranged-again (placed file t.chunks) there
    )
    )

-- ---- locks and tokens

pub view-created : (file : List ℕ) (staged : List Staged) (t : Tables) (l : Lock)
    → view file staged (after_create l t) ≡ after_create l (view file staged t)
unfolding view after_create with_new_lock with_made with_lock
view-created file staged t l = at (outcome_of l t)
  where
    at : (o : Outcome) → view file staged (after_outcome l o t) ≡ after_outcome l o (view file staged t)
    at (held other) = refl
    at used_up = refl
    at (created id) = refl

pub view-added-token : (file : List ℕ) (staged : List Staged) (t : Tables) (k : Token)
    → view file staged (after_add k t) ≡ after_add k (view file staged t)
unfolding view after_add with_token
view-added-token file staged t k = at (has_token k.digest t)
  where
    at : (b : Bool)
        → view file staged (cond b t (with_token k t)) ≡ cond b (view file staged t) (with_token k (view file staged t))
    at true = refl
    at false = refl

pub view-unlocked : (file : List ℕ) (staged : List Staged) (t : Tables) (repo : List ℕ) (id : ℤ)
    → view file staged (without_lock repo id t) ≡ without_lock repo id (view file staged t)
unfolding view without_lock
view-unlocked file staged t repo id = refl

pub view-expired : (file : List ℕ) (staged : List Staged) (t : Tables) (moment : ℤ)
    → view file staged (without_expired moment t) ≡ without_expired moment (view file staged t)
unfolding view without_expired
view-expired file staged t moment = refl

-- ---- objects

-- the objects are the same with a file
pub objects-viewed : (repo : Option (List ℕ)) (file : List ℕ) (staged : List Staged) (t : Tables)
    → objects_of repo (view file staged t) ≡ objects_of repo t
unfolding view
objects-viewed None file staged t = refl
objects-viewed (Some repo) file staged t = refl

-- ---- one more content

-- of one more content nothing is received
pub view-staged-empty : (file : List ℕ) (staged : List Staged) (t : Tables) (s : Staged) → received_pieces file s ≡ []
    → view file (staged ++ s ∷ []) t ≡ view file staged t
unfolding view
view-staged-empty file staged t s empty =
    ap (λ l. with_rows t (arranged (three (filter is_piece t.chunks) (placed file t.chunks) l))) (
    flat_map-append (received_pieces file) staged (s ∷ [])
    ∙ ap (λ l. received file staged ++ (l ++ [])) empty
    ∙ append-nil (received file staged)
    )

-- a staged upload that was found by this id has it
pub found_id : (id : ℤ) (t : Tables) (u : Upload) → staged_with id t ≡ Some u → u.id ≡ id
found_id id t u found =
    same_int u.id id (and_parts (is_upload id u) (is_staged u) (found_passes (is_staged_with id) t.uploads u found)).0
