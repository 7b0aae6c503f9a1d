-- The keys that were listed are those of the chunks that are shown.
use Rattle.placed.proofs.Prelude.{◌≡◌, Bool, length, pos, not, sym, ap, subst, ◌∙◌, List, ◌++◌, map, filter, map-append, AllByRecursion, all_weaker, int_eq, Ok, Vec, flat_map, filter-map, Regions, Chunk, Tables, Ghosts, Reads, shown, arranged, chunk_cmp, placeless, chunk_total, Placed, Staged, view, is_piece, place_number, pieces_at, pieces_in, received_pieces, content_in, IsPlace, IsReceived, places_in, staged_of, beside, upload_number}
use Rattle.std.proofs.Common.{ℕ, ◌+◌, ◌<◌, [], ◌∷◌, append_assoc, arith, nat_eq, slice_index_or, take}
use Rattle.std.proofs.lemmas.Bool.Decides.{nat_tests}
use Rattle.std.proofs.lemmas.Int.{ints}
use Rattle.std.proofs.lemmas.List.{flat_map_more, map_more}
use Rattle.std.proofs.lemmas.List.FromFn.{map-range_with_len_more}
use Rattle.std.specs.List.{range_with_len}
use Rattle.std.specs.List.Sorted.{IsPermutation}
use Rattle.std.proofs.lemmas.List.Sorted.{IsPermutation-append, IsPermutation-map, IsPermutation-refl, IsPermutation-sym, IsPermutation-trans}
use Rattle.sqlite_disk.specs.declared.Disk as disk
use Rattle.sqlite_keyed.proofs.ListLemmas.{IsPermutation-filter, IsPermutation-flat_map, filter_same, flat_map-map, map-flat_map, map-map}
use Rattle.sqlite_keyed.proofs.SortLemmas.{IsPermutation-sort_by}
use Rattle.store.proofs.Moved.{moves_then, nothing_then}
use Rattle.store.specs.Content.{AreAllKeys, AreAllNumbered}
use Rattle.tables.specs.Listing.{KeyFields, key_fields, read_key}
use Rattle.tables.specs.Staging.{numbered_fields, read_numbered}
use Rattle.tables.specs.declared.rows.ChunkKey.{ChunkKey}
use Rattle.tables.specs.declared.rows.NumberedChunk.{NumberedChunk}
use Rattle.tables.specs.declared.rows.UploadId.{UploadId}
use Rattle.placed.specs.Keys.{key_of, keys_at, keys_in, received_keys}
use Rattle.placed.proofs.Bytes.{content_is, written_is}
use Rattle.placed.proofs.Cutting.{pieces_keys}
use Rattle.placed.proofs.Lists.{flat_map_each}
use Rattle.placed.proofs.Keeping.{file_itself}
use Rattle.placed.proofs.Restaged.{reads_both}

-- ---- keys that are added

-- one more piece
pub key_pushed : (old keys new : List ChunkKey) (upload : UploadId) (n : ℕ) → new ≡ keys ++ record { upload = upload; n = n } ∷ []
    → map read_key keys ≡ map read_key old ++ map (key_of (upload_number upload)) (range_with_len 0 n)
    → map read_key new ≡ map read_key old ++ map (key_of (upload_number upload)) (range_with_len 0 (n + 1))
key_pushed old keys new upload n pushed so_far =
    let key = key_of (upload_number upload) in
    ap (map read_key) pushed
    ∙ map-append read_key keys (record { upload = upload; n = n } ∷ [])
    ∙ ap (λ l. l ++ key n ∷ []) so_far
    ∙ append_assoc (map read_key old) (map key (range_with_len 0 n)) (key n ∷ [])
    ∙ ap (λ l. map read_key old ++ l) (sym (map-range_with_len_more key 0 n n (omega arith)))

-- those of the content at one more place
pub place_pushed : (old keys new : List ChunkKey) (places : List NumberedChunk) (index : ℕ) (place : NumberedChunk)
    → index < length places → place ≡ slice_index_or places index place
    → map read_key keys ≡ map read_key old ++ flat_map keys_at (map read_numbered (take index places))
    → map read_key new ≡ map read_key keys ++ keys_at (read_numbered place)
    → map read_key new ≡ map read_key old ++ flat_map keys_at (map read_numbered (take (index + 1) places))
place_pushed old keys new places index place less at so_far is =
    is
    ∙ ap (λ l. l ++ keys_at (read_numbered place)) so_far
    ∙ flat_map_more keys_at (map read_key old) (map read_numbered (take index places)) (read_numbered place)
    ∙ ap (λ l. map read_key old ++ flat_map keys_at l) (sym (map_more read_numbered places index place less
    ∙ ap (λ p. map read_numbered (take index places) ++ read_numbered p ∷ []) (sym at)))

-- ---- the keys of contents in the file

module _ {D : Type 0} (d : disk.Ghosts D) (disk : D) (regions : Regions) (staged : List Staged) where
  -- of the content at a place
  keys_placed : (c : Chunk) → IsPlace d disk regions staged c
      → keys_at (numbered_fields c) ≡ map key_fields (pieces_at (d.seen disk) c)
  keys_placed c p =
      let file = d.seen disk in
      let is = content_is file p.region p.kept.content p.kept.seen in
      ap (keys_in c.upload) p.means
      ∙ sym (pieces_keys c.upload (content_in file p.region) p.region.size (ap length is ∙ p.kept.seen.size))
      ∙ sym (ap (λ o. map key_fields (pieces_in file c o)) p.means)

  -- of a content that is being received
  keys_received : (s : Staged) → IsReceived d disk regions s → received_keys s ≡ map key_fields (received_pieces (d.seen disk) s)
  keys_received s r =
      let is = written_is (d.seen disk) s.draft r.bytes r.written in
      sym (pieces_keys (upload_number s.id) _ s.draft.written (ap length is ∙ r.written.size))

  all_placed : (places : List Chunk) → AllByRecursion (IsPlace d disk regions staged) places
      → flat_map keys_at (map numbered_fields places) ≡ map key_fields (flat_map (pieces_at (d.seen disk)) places)
  all_placed places are =
      flat_map-map keys_at numbered_fields places
      ∙ flat_map_each _ _ places (all_weaker _ _ keys_placed places are)
      ∙ sym (map-flat_map key_fields (pieces_at (d.seen disk)) places)

  all_received : (ss : List Staged) → AllByRecursion (IsReceived d disk regions) ss
      → flat_map received_keys ss ≡ map key_fields (flat_map (received_pieces (d.seen disk)) ss)
  all_received ss are =
      flat_map_each _ _ ss (all_weaker _ _ keys_received ss are)
      ∙ sym (map-flat_map key_fields (received_pieces (d.seen disk)) ss)

-- ---- the keys of all chunks

-- the key is that of a piece
abbrev pub has_piece_key : ChunkKey → Bool
has_piece_key k = not (nat_eq k.n place_number)

same_test : (a b : ℕ) → nat_eq a b ≡ int_eq (pos a) (pos b)
same_test a b = grind (arith, ints, nat_tests)

keys_of_rows : (found : List ChunkKey) (t : Tables) → AreAllKeys found t
    → IsPermutation (map read_key (filter has_piece_key found)) (map key_fields (filter is_piece t.chunks))
keys_of_rows found t all =
    let is : KeyFields → Bool = λ k. not (int_eq k.n (pos place_number)) in
    let same = filter_same has_piece_key (λ k. is (read_key k)) (λ k. ap not (same_test k.n place_number)) found in
    subst (λ l. IsPermutation l (map key_fields (filter is_piece t.chunks))) (filter-map is read_key found ∙ ap (map read_key) (sym same))
    (subst (IsPermutation (filter is (map read_key found))) (filter-map is key_fields t.chunks)
    (IsPermutation-filter is (map read_key found) (map key_fields t.chunks) all))

-- the order of the chunks and their rowids are no matter
keys_arranged : (chunks : List Chunk) → IsPermutation (map key_fields chunks) (map key_fields (arranged chunks))
keys_arranged chunks =
    subst (λ l. IsPermutation l (map key_fields (arranged chunks))) (map-map key_fields placeless chunks)
    (IsPermutation-map key_fields (map placeless chunks) (arranged chunks)
    (IsPermutation-sym _ _ (IsPermutation-sort_by chunk_cmp chunk_total (map placeless chunks))))

module _ {D : Type 0} (d : disk.Ghosts D) (disk : D) (regions : Regions) (staged : List Staged) (t : Tables)
    (placed : AllByRecursion (IsPlace d disk regions staged) (places_in t))
    (received : AllByRecursion (IsReceived d disk regions) staged) where
  shown_keys : (found : List ChunkKey) (places : List NumberedChunk) → AreAllKeys found t → AreAllNumbered place_number places t
      → IsPermutation
      ((map read_key (filter has_piece_key found) ++ flat_map keys_at (map read_numbered places)) ++ flat_map received_keys staged)
      (map key_fields (view (d.seen disk) staged t).chunks)
  unfolding view
  shown_keys found places all numbered =
      let file = d.seen disk in
      let rows = filter is_piece t.chunks in
      let at = flat_map (pieces_at file) (places_in t) in
      let more = flat_map (received_pieces file) staged in
      let first = IsPermutation-append _ _ _ _ (keys_of_rows found t all)
      (subst (IsPermutation (flat_map keys_at (map read_numbered places))) (all_placed d disk regions staged (places_in t) placed)
      (IsPermutation-flat_map keys_at (map read_numbered places) (map numbered_fields (places_in t)) numbered)) in
      let both = IsPermutation-append _ _ _ _ first
      (subst (IsPermutation (flat_map received_keys staged)) (all_received d disk regions staged staged received) (IsPermutation-refl _)) in
      let is : (map key_fields rows ++ map key_fields at) ++ map key_fields more ≡ map key_fields (rows ++ (at ++ more)) =
      append_assoc (map key_fields rows) (map key_fields at) (map key_fields more)
      ∙ ap (λ l. map key_fields rows ++ l) (sym (map-append key_fields at more))
      ∙ sym (map-append key_fields rows (at ++ more)) in
      IsPermutation-trans _ _ _ both
      (subst (λ l. IsPermutation l (map key_fields (arranged (rows ++ (at ++ more))))) (sym is) (keys_arranged (rows ++ (at ++ more))))

-- the whole call
pub keys_listed : {T D : Type 0} (g : Ghosts T) (d : disk.Ghosts D) (s : Placed T D) (between rows : T) (found : Vec ChunkKey)
    (places : Vec NumberedChunk) (keys : Vec ChunkKey) (kept : List ChunkKey)
    → Reads g s.rows between (Ok found) (λ t l. AreAllKeys l.items t)
    → Reads g between rows (Ok places) (λ t l. AreAllNumbered place_number l.items t)
    → kept ≡ filter has_piece_key found.items
    → map read_key keys.items
    ≡ (map read_key kept ++ flat_map keys_at (map read_numbered places.items)) ++ flat_map received_keys (staged_of s)
    → Reads (beside g d) s (record s { rows = rows }) (Ok keys) (λ t l. AreAllKeys l.items t)
keys_listed g d s between rows found places keys kept one two filtered is =
    reads_both g d s rows s.disk (moves_then g s.rows between rows one.same two.same)
    (nothing_then g s.rows between rows one.adds two.adds) (file_itself d s.disk) (Ok keys) (λ t l. AreAllKeys l.items t) (λ k h.
    let before = two.same.was_honest k.0 in
    let first = one.answers before h.rows in
    let second = two.answers k.0 (one.same.ready h.rows) in
    let same = one.same.shows before h.rows second.0 in
    let it = h.placed (one.same.was_honest before, k.1) in
    let t = shown g s.rows in (
      first.0,
      subst (λ l. IsPermutation l (map key_fields (view (d.seen s.disk) (staged_of s) t).chunks))
          (sym (is ∙ ap (λ l. (map read_key l ++ flat_map keys_at (map read_numbered places.items)) ++ flat_map received_keys (staged_of s)) filtered))
          (shown_keys d s.disk s.regions (staged_of s) t (it.served first.0).places it.received.each found.items places.items first.1
          (subst (AreAllNumbered place_number places.items) same second.1)),
    ))
