-- A staged upload that loses its last chunks: the tables represent the same world.
use Rattle.refinement.proofs.Prelude.{◌≡◌, ◌∙◌, ◌≤◌, ℕ, suc, ℤ, pos, Bool, true, false, not, ◌&&◌, List, [], ◌∷◌, map, filter, find, cond, length, Option, Some, None, is_some, IsTrue, IsPermutation, refl, sym, ap, subst, arith, int_le, AllByRecursion, concat, int_eq, ints, IsPermutation-filter, delete_where, all_weaker, all_of, all_both, all-filter, World, Object, filter_weaker, in_found, found_passes, both_true, Tables, is_upload, is_complete, is_staged_with, is_of, is_of_from, asked_chunk, staged_with, without_found_from, chunk_kept, number_cmp, chunks_of, pieces_of, bytes_of, piece_rows, HasPieces, object_in, HasSize, RepresentObjects, Represents}
use Rattle.std.proofs.lemmas.List.{length-append}
use Rattle.sqlite_keyed.specs.Lists.{sort_by}
use Rattle.tables.specs.Rows as row
use Rattle.tables.specs.Statements.{without_chunks_from}
use Rattle.tables.specs.Staging.{without_staged_from}
use Rattle.refinement.proofs.Pieces.{same_number, own_rows, ordered, in_any_order, same_pieces, own_pieces, bytes_are}
use Rattle.refinement.proofs.Uploads.{found_itself, not_complete, map_alike, same_object, same_size}
use Rattle.refinement.proofs.Withdrawn.{alone, complete_apart}

-- ---- the pieces below a number

abbrev below : ℕ → row.Chunk → Bool
below n c = not (int_le (pos n) c.n)

is_above : (n at : ℕ) → int_le (pos n) (pos at) ≡ true → n ≤ at
is_above n at is = grind (arith, ints)

above_too : (n at : ℕ) → n ≤ at → int_le (pos n) (pos (suc at)) ≡ true
above_too n at is = grind (arith, ints)

next_above : (n at : ℕ) → n ≤ at → n ≤ suc at
next_above n at is = omega (arith, is)

none_below : (id : ℤ) (n at : ℕ) (pieces : List (List ℕ)) → n ≤ at → filter (below n) (piece_rows id (suc at) pieces) ≡ []
none_below id n at [] above = refl
none_below id n at (piece ∷ pieces) above = rw (above_too n at above) (none_below id n (suc at) pieces (next_above n at above))

-- pieces that are numbered, and no more bytes than those of the others
record IsBelow (id : ℤ) (n at : ℕ) (pieces left : List (List ℕ)) : Type 0 where
  rows : filter (below n) (piece_rows id at pieces) ≡ piece_rows id at left
  fewer : length (concat left) ≤ length (concat pieces)

pieces_below : (id : ℤ) (n at : ℕ) (pieces : List (List ℕ)) → (left : List (List ℕ)) × IsBelow id n at pieces left
pieces_below id n at [] = ([], record { rows = refl; fewer = omega arith })
pieces_below id n at (piece ∷ pieces) = by_test (int_le (pos n) (pos at)) refl (pieces_below id n (suc at) pieces)
  where
    by_test : (v : Bool) → int_le (pos n) (pos at) ≡ v → (left : List (List ℕ)) × IsBelow id n (suc at) pieces left → (left : List (List ℕ)) × IsBelow id n at (piece ∷ pieces) left
    by_test true is rest = ([], record { rows = rw is (none_below id n at pieces (is_above n at is)); fewer = omega arith })
    by_test false is rest =
        let more = length-append piece (concat rest.0) in
        let all = length-append piece (concat pieces) in
        let fewer = rest.1.fewer in (
          piece ∷ rest.0,
          record { rows = rw is (ap (λ rows. asked_chunk id at piece ∷ rows) rest.1.rows); fewer = omega (arith, more, all, fewer) },
        )

-- ---- without the last chunks of an upload that is not complete

module _ (us : List row.Upload) (cs : List row.Chunk) (objects : List Object) (s : row.Upload) (r : RepresentObjects us cs objects) (there : find (is_upload s.id) us ≡ Some s)
    (staged : s.done ≡ pos 0) (n : ℕ) where
  abbrev rest : List row.Chunk
  rest = delete_where (is_of_from s.id (pos n)) cs

  -- the chunks of any other upload are the same
  others : (other : ℤ) → int_eq other s.id ≡ false → chunks_of other rest ≡ chunks_of other cs
  others other apart = ap (sort_by number_cmp) (filter_weaker (is_of other) (λ c. not (is_of_from s.id (pos n) c)) cs (all_of (λ (c : row.Chunk). is_of other c ≡ true → not (is_of_from s.id (pos n) c) ≡ true) also cs))
    where
      also : (c : row.Chunk) → is_of other c ≡ true → not (is_of_from s.id (pos n) c) ≡ true
      also c is = ap (λ v. not (v && int_le (pos n) c.n)) (ap (λ k. int_eq k s.id) (same_number c.upload other is) ∙ apart)

  -- the upload's own, without their places
  own_below : (ks : List row.Chunk) → own_rows s.id (delete_where (is_of_from s.id (pos n)) ks) ≡ filter (below n) (own_rows s.id ks)
  own_below [] = refl
  own_below (c ∷ ks) = by_tests (is_of s.id c) (int_le (pos n) c.n) refl refl (own_below ks)
    where
      by_tests : (v w : Bool) → is_of s.id c ≡ v → int_le (pos n) c.n ≡ w
          → map chunk_kept (filter (is_of s.id) (filter (λ k. not (is_of_from s.id (pos n) k)) ks)) ≡ filter (below n) (map chunk_kept (filter (is_of s.id) ks))
          → map chunk_kept (filter (is_of s.id) (cond (not (v && w)) (c ∷ filter (λ k. not (is_of_from s.id (pos n) k)) ks) (filter (λ k. not (is_of_from s.id (pos n) k)) ks))) ≡ filter (below n) (map chunk_kept (cond v (c ∷ filter (is_of s.id) ks) (filter (is_of s.id) ks)))
      by_tests true true a b so_far = rw b so_far
      by_tests true false a b so_far = rw (a, b) (ap (λ rows. chunk_kept c ∷ rows) so_far)
      by_tests false true a b so_far = rw a so_far
      by_tests false false a b so_far = rw a so_far

  abbrev own_left : (left : List (List ℕ)) × IsBelow s.id n 0 (pieces_of s.id cs) left
  own_left = pieces_below s.id n 0 (pieces_of s.id cs)

  own_kept : HasPieces s.id own_left.0 rest
  own_kept =
      ordered s.id own_left.0 rest
      (subst (IsPermutation (piece_rows s.id 0 own_left.0)) (sym (own_below cs))
      (subst (λ (rows : List row.Chunk). IsPermutation rows (filter (below n) (own_rows s.id cs))) own_left.1.rows
      (IsPermutation-filter (below n) (piece_rows s.id 0 (pieces_of s.id cs)) (own_rows s.id cs) (in_any_order s.id (pieces_of s.id cs) cs (r.numbered s.id)))))

  fewer_bytes : length (bytes_of s.id rest) ≤ length (bytes_of s.id cs)
  fewer_bytes = subst (λ (b : List ℕ). length b ≤ length (bytes_of s.id cs)) (sym (bytes_are s.id own_left.0 rest own_kept)) own_left.1.fewer

  objects_kept : map (object_in rest) (filter is_complete us) ≡ map (object_in cs) (filter is_complete us)
  objects_kept =
      map_alike is_complete (object_in rest) (object_in cs) us
      (all_weaker (λ u. is_upload s.id u ≡ true → u ≡ s) (λ u. is_complete u ≡ true → object_in rest u ≡ object_in cs u)
      (λ u only whole. same_object cs rest u (others u.id (complete_apart us cs objects s r there staged u only whole))) us (alone us cs objects s r there))

  sizes_kept : AllByRecursion (λ u. HasSize (length (bytes_of u.id rest)) u) us
  sizes_kept =
      all_both (λ u. HasSize (length (bytes_of u.id cs)) u) (λ u. is_upload s.id u ≡ true → u ≡ s) (λ u. HasSize (length (bytes_of u.id rest)) u) each us r.sizes (alone us cs objects s r there)
    where
      each : (u : row.Upload) → HasSize (length (bytes_of u.id cs)) u → (is_upload s.id u ≡ true → u ≡ s) → HasSize (length (bytes_of u.id rest)) u
      each u h only = by_test (is_upload s.id u) refl
        where
          by_test : (v : Bool) → is_upload s.id u ≡ v → HasSize (length (bytes_of u.id rest)) u
          by_test false e = same_size cs rest u (others u.id e) h
          by_test true e =
              let less : length (bytes_of u.id rest) ≤ length (bytes_of u.id cs) = subst (λ (k : ℤ). length (bytes_of k rest) ≤ length (bytes_of k cs)) (sym (ap (λ (w : row.Upload). w.id) (only e))) fewer_bytes in
              let fits = h.fits in
              record { size = h.size; is = h.is; in_range = h.in_range; fits = omega (arith, less, fits); whole = λ whole. absurd (not_complete u s staged (only e) whole) }

  numbered_kept : (other : ℤ) → HasPieces other (pieces_of other rest) rest
  numbered_kept other = by_test (int_eq other s.id) refl
    where
      by_test : (v : Bool) → int_eq other s.id ≡ v → HasPieces other (pieces_of other rest) rest
      by_test true e = subst (λ k. HasPieces k (pieces_of k rest) rest) (sym (same_number other s.id e)) (own_pieces s.id own_left.0 rest own_kept)
      by_test false e = own_pieces other (pieces_of other cs) rest (same_pieces other (pieces_of other cs) cs rest (others other e) (r.numbered other))

  pub objects_shortened : RepresentObjects us rest objects
  objects_shortened = record {
    complete = subst (λ (os : List Object). IsPermutation os objects) (sym objects_kept) r.complete;
    sizes = sizes_kept;
    numbered = numbered_kept;
    owned = all-filter (λ (c : row.Chunk). IsTrue (is_some (find (is_upload c.upload) us))) (λ c. not (is_of_from s.id (pos n) c)) cs r.owned;
    staged = r.staged;
    rise = r.rise;
  }

-- the tables without the last chunks of a staged upload represent the same world
pub staged_shortened : (t : Tables) (world : World) (id : ℤ) (n : ℕ) → Represents t world → Represents (without_staged_from id (pos n) t) world
unfolding without_staged_from without_chunks_from
staged_shortened t world id n r = at (staged_with id t) refl
  where
    at : (o : Option row.Upload) → staged_with id t ≡ o → Represents (without_found_from o (pos n) t) world
    at None e = r
    at (Some s) e =
        let found = found_itself t.uploads s r.objects.rise (in_found (is_staged_with id) t.uploads s e) in
        let is : s.done ≡ pos 0 = same_number s.done (pos 0) (both_true _ _ (found_passes (is_staged_with id) t.uploads s e)).1 in
        record {
          meta = r.meta;
          locks = r.locks;
          made = r.made;
          used = r.used;
          tokens = r.tokens;
          objects = objects_shortened t.uploads t.chunks world.objects s r.objects found is n;
          retired = r.retired;
          unretired = r.unretired;
        }
