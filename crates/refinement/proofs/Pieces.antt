-- The chunks of an upload, and their bytes.
use Rattle.refinement.proofs.Prelude.{◌≡◌, ◌∙◌, ◌<◌, ℕ, suc, ◌+◌, ℤ, pos, Bool, true, false, List, [], ◌∷◌, ◌++◌, map, filter, find, cond, length, option_map, refl, sym, ap, subst, arith, Less, IsPermutation, AllByRecursion, concat, int_cmp, int_eq, IsTotalOrder, int_cmp_total, on_total, ints, map-append, filter-append, concat-append, IsPermutation-map, IsPermutation-trans, IsPermutation-sym, IsPermutation-append_left, IsAscending, IsPermutation-sort_by, sort_by-map, find_filter, is_of, is_chunk, asked_chunk, chunk_kept, number_cmp, chunks_of, pieces_of, bytes_of, piece_rows, HasPieces}
use Rattle.std.proofs.lemmas.List.{append-nil, length-append}
use Rattle.sqlite_keyed.specs.Lists.{sort_by}
use Rattle.tables.specs.Rows as row
use Rattle.refinement.proofs.Found.{found_of}
use Rattle.refinement.proofs.Sorting.{less, into_pairs, sorted_rises, one_order}

-- ---- numbered rows

pub numbers_meet : (a b : ℤ) → int_eq a b ≡ int_eq b a
numbers_meet a b = grind (arith, ints)

pub same_number : (a b : ℤ) → int_eq a b ≡ true → a ≡ b
same_number a b e = grind (arith, ints)

pub own_number : (a : ℤ) → int_eq a a ≡ true
own_number a = grind (arith, ints)

next_number : (n k : ℕ) → suc n + k ≡ n + suc k
next_number n k = omega arith

-- one more piece at the end
piece_more : (id : ℤ) (n : ℕ) (pieces : List (List ℕ)) (piece : List ℕ) → piece_rows id n (pieces ++ piece ∷ []) ≡ piece_rows id n pieces ++ asked_chunk id (n + length pieces) piece ∷ []
piece_more id n [] piece = ap (λ k. asked_chunk id k piece ∷ []) (omega arith)
piece_more id n (first ∷ pieces) piece =
    ap (λ rows. asked_chunk id n first ∷ rows)
    (piece_more id (suc n) pieces piece ∙ ap (λ k. piece_rows id (suc n) pieces ++ asked_chunk id k piece ∷ []) (next_number n (length pieces)))

first_more : (id : ℤ) (pieces : List (List ℕ)) (piece : List ℕ) → piece_rows id 0 (pieces ++ piece ∷ []) ≡ piece_rows id 0 pieces ++ asked_chunk id (length pieces) piece ∷ []
first_more id pieces piece =
    let zero_more : 0 + length pieces ≡ length pieces = omega arith in
    piece_more id 0 pieces piece ∙ ap (λ k. piece_rows id 0 pieces ++ asked_chunk id k piece ∷ []) zero_more

row_bytes : (id : ℤ) (n : ℕ) (pieces : List (List ℕ)) → map (λ (c : row.Chunk). c.bytes) (piece_rows id n pieces) ≡ pieces
row_bytes id n [] = refl
row_bytes id n (piece ∷ pieces) = ap (λ ps. piece ∷ ps) (row_bytes id (suc n) pieces)

-- ---- in the order of the numbers

number_total : IsTotalOrder number_cmp
number_total = on_total (λ (c : row.Chunk). c.n) int_cmp_total

all_later : (id : ℤ) (a n : ℕ) (pieces : List (List ℕ)) → a < n → AllByRecursion (λ (c : row.Chunk). int_cmp (pos a) c.n ≡ Less) (piece_rows id n pieces)
all_later id a n [] below = tt
all_later id a n (piece ∷ pieces) below = (less a n below, all_later id a (suc n) pieces (omega (arith, below)))

rows_rise : (id : ℤ) (n : ℕ) (pieces : List (List ℕ)) → IsAscending (λ a b. number_cmp a b ≡ Less) (piece_rows id n pieces)
rows_rise id n [] = tt
rows_rise id n (piece ∷ pieces) = (all_later id n (suc n) pieces (omega arith), rows_rise id (suc n) pieces)

-- the rows of an upload in the order of the table, without their places
abbrev pub own_rows : ℤ → List row.Chunk → List row.Chunk
own_rows id chunks = map chunk_kept (filter (is_of id) chunks)

-- if these are the rows of some pieces, in any order, the upload has those pieces
pub ordered : (id : ℤ) (pieces : List (List ℕ)) (chunks : List row.Chunk) → IsPermutation (piece_rows id 0 pieces) (own_rows id chunks) → HasPieces id pieces chunks
ordered id pieces chunks same =
    let own = own_rows id chunks in
    sym (sort_by-map number_cmp chunk_kept (filter (is_of id) chunks))
    ∙ one_order number_cmp number_total (piece_rows id 0 pieces) (sort_by number_cmp own) (rows_rise id 0 pieces)
    (IsPermutation-trans (piece_rows id 0 pieces) own (sort_by number_cmp own) same (IsPermutation-sym (sort_by number_cmp own) own (IsPermutation-sort_by number_cmp number_total own))) (sorted_rises number_cmp number_total own)

-- and the other way round
pub in_any_order : (id : ℤ) (pieces : List (List ℕ)) (chunks : List row.Chunk) → HasPieces id pieces chunks → IsPermutation (piece_rows id 0 pieces) (own_rows id chunks)
in_any_order id pieces chunks h =
    subst (λ (rows : List row.Chunk). IsPermutation rows (own_rows id chunks)) h
    (IsPermutation-map chunk_kept (chunks_of id chunks) (filter (is_of id) chunks) (IsPermutation-sort_by number_cmp number_total (filter (is_of id) chunks)))

-- the chunk with a number is the row of that piece
pub chunk_found : (id n : ℤ) (pieces : List (List ℕ)) (chunks : List row.Chunk) → HasPieces id pieces chunks
    → option_map chunk_kept (find (is_chunk id n) chunks) ≡ find (λ c. int_eq c.n n) (piece_rows id 0 pieces)
chunk_found id n pieces chunks h =
    let numbered : row.Chunk → Bool = λ c. int_eq c.n n in
    ap (option_map chunk_kept) (sym (find_filter numbered (is_of id) chunks))
    ∙ found_of chunk_kept numbered (λ a b. number_cmp a b ≡ Less) (filter (is_of id) chunks) (piece_rows id 0 pieces) (IsPermutation-sym (piece_rows id 0 pieces) (own_rows id chunks) (in_any_order id pieces chunks h))
    (λ a b below p q. apart a.n b.n n below p q) (into_pairs (λ a b. number_cmp a b ≡ Less) (piece_rows id 0 pieces) (rows_rise id 0 pieces))
  where
    apart : (a b n : ℤ) → int_cmp a b ≡ Less → int_eq a n ≡ true → int_eq b n ≡ true → ⊥
    apart a b n below p q = absurd (grind (arith, ints))

-- ---- the bytes

-- the bytes of a row do not depend on its place
kept_bytes : (chunks : List row.Chunk) → map (λ (c : row.Chunk). c.bytes) (map chunk_kept chunks) ≡ map (λ (c : row.Chunk). c.bytes) chunks
kept_bytes [] = refl
kept_bytes (c ∷ chunks) = ap (λ ps. c.bytes ∷ ps) (kept_bytes chunks)

-- the pieces of an upload are the bytes of its chunks
pub pieces_are : (id : ℤ) (pieces : List (List ℕ)) (chunks : List row.Chunk) → HasPieces id pieces chunks → pieces_of id chunks ≡ pieces
pieces_are id pieces chunks h =
    sym (kept_bytes (chunks_of id chunks)) ∙ ap (map (λ (c : row.Chunk). c.bytes)) h ∙ row_bytes id 0 pieces

pub bytes_are : (id : ℤ) (pieces : List (List ℕ)) (chunks : List row.Chunk) → HasPieces id pieces chunks → bytes_of id chunks ≡ concat pieces
bytes_are id pieces chunks h = ap concat (pieces_are id pieces chunks h)

-- the pieces of an upload with the same chunks
pub same_pieces : (id : ℤ) (pieces : List (List ℕ)) (old new : List row.Chunk) → chunks_of id new ≡ chunks_of id old → HasPieces id pieces old → HasPieces id pieces new
same_pieces id pieces old new same h = ap (map chunk_kept) same ∙ h

pub own_pieces : (id : ℤ) (pieces : List (List ℕ)) (chunks : List row.Chunk) → HasPieces id pieces chunks → HasPieces id (pieces_of id chunks) chunks
own_pieces id pieces chunks h = subst (λ (ps : List (List ℕ)). HasPieces id ps chunks) (sym (pieces_are id pieces chunks h)) h

-- ---- one more chunk

-- the chunks of the upload, with one more row in the table
own_with : (id : ℤ) (chunks : List row.Chunk) (c : row.Chunk) (its : Bool) → is_of id c ≡ its → filter (is_of id) (chunks ++ c ∷ []) ≡ filter (is_of id) chunks ++ cond its (c ∷ []) []
own_with id chunks c its is = filter-append (is_of id) chunks (c ∷ []) ∙ ap (λ b. filter (is_of id) chunks ++ cond b (c ∷ []) []) is

pub other_chunks : (id : ℤ) (chunks : List row.Chunk) (c : row.Chunk) → is_of id c ≡ false → chunks_of id (chunks ++ c ∷ []) ≡ chunks_of id chunks
other_chunks id chunks c not_its = ap (sort_by number_cmp) (own_with id chunks c false not_its ∙ append-nil (filter (is_of id) chunks))

pub pieces_more : (id : ℤ) (pieces : List (List ℕ)) (bytes : List ℕ) (chunks : List row.Chunk) (c : row.Chunk) → HasPieces id pieces chunks → chunk_kept c ≡ asked_chunk id (length pieces) bytes
    → HasPieces id (pieces ++ bytes ∷ []) (chunks ++ c ∷ [])
pieces_more id pieces bytes chunks c h is =
    let last = asked_chunk id (length pieces) bytes ∷ [] in
    let own : own_rows id (chunks ++ c ∷ []) ≡ own_rows id chunks ++ last =
    ap (map chunk_kept) (own_with id chunks c true (ap (λ (k : row.Chunk). int_eq k.upload id) is ∙ own_number id))
    ∙ map-append chunk_kept (filter (is_of id) chunks) (c ∷ []) ∙ ap (λ k. own_rows id chunks ++ k ∷ []) is in
    ordered id (pieces ++ bytes ∷ []) (chunks ++ c ∷ [])
    (subst (IsPermutation (piece_rows id 0 (pieces ++ bytes ∷ []))) (sym own)
    (subst (λ (rows : List row.Chunk). IsPermutation rows (own_rows id chunks ++ last)) (sym (first_more id pieces bytes))
    (IsPermutation-append_left last (piece_rows id 0 pieces) (own_rows id chunks) (in_any_order id pieces chunks h))))

concat_one : (piece : List ℕ) → concat (piece ∷ []) ≡ piece
concat_one piece = append-nil piece

pub length_more : (pieces : List (List ℕ)) (bytes : List ℕ) → length (concat (pieces ++ bytes ∷ [])) ≡ length (concat pieces) + length bytes
length_more pieces bytes =
    ap length (concat-append pieces (bytes ∷ []) ∙ ap (λ b. concat pieces ++ b) (concat_one bytes)) ∙ length-append (concat pieces) bytes
