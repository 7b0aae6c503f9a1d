-- What the steps on uploads change of the world, and of staged uploads.
use Rattle.refinement.proofs.Prelude.{◌≡◌, ◌∙◌, ℕ, ◌+◌, ◌≤◌, ℤ, pos, Bool, true, false, List, [], ◌∷◌, ◌++◌, find, length, Some, is_some, IsTrue, refl, sym, ap, subst, IsPermutation, AllByRecursion, concat, int_eq, true≢false, next_key, all_both, all_weaker, all-append, largest_object, World, Object, Tables, is_upload, is_complete, is_of, asked_chunk, chunks_of, pieces_of, bytes_of, HasPieces, object_in, HasSize, RepresentObjects, Represents, staged_row, IsStaged}
use Rattle.tables.specs.Rows as row
use Rattle.tables.specs.Statements.{with_chunk}
use Rattle.refinement.proofs.Same.{same_pos}
use Rattle.refinement.proofs.Uploads.{IsAlone, found_alone, not_complete, map_alike, same_object, same_size}
use Rattle.refinement.proofs.Pieces.{numbers_meet, same_number, bytes_are, same_pieces, own_pieces, other_chunks, pieces_more, length_more}

-- ---- one more chunk

module _ (us : List row.Upload) (cs : List row.Chunk) (objects : List Object) (id : ℤ) (repo name : List ℕ) (size : ℕ) (pieces : List (List ℕ)) (bytes : List ℕ) (c : row.Chunk)
    (r : RepresentObjects us cs objects) (there : find (is_upload id) us ≡ Some (staged_row id repo name size)) (stored : HasPieces id pieces cs)
    (is : record c { rowid = pos 0 } ≡ asked_chunk id (length pieces) bytes) (fits : length (concat pieces) + length bytes ≤ size) where
  abbrev s : row.Upload
  s = staged_row id repo name size

  abbrev pub more : List row.Chunk
  more = cs ++ c ∷ []

  alone : IsAlone id s us
  alone = found_alone us id s r.rise there

  its : (other : ℤ) → is_of other c ≡ int_eq id other
  its other = ap (λ (k : row.Chunk). int_eq k.upload other) is

  others : (other : ℤ) → int_eq other id ≡ false → chunks_of other more ≡ chunks_of other cs
  others other apart = other_chunks other cs c (its other ∙ numbers_meet id other ∙ apart)

  now_pieces : HasPieces id (pieces ++ bytes ∷ []) more
  now_pieces = pieces_more id pieces bytes cs c stored is

  -- a complete upload has another id
  complete_kept : (u : row.Upload) → (is_upload id u ≡ true → u ≡ s) → is_complete u ≡ true → object_in more u ≡ object_in cs u
  complete_kept u only whole = same_object cs more u (others u.id (at (is_upload id u) refl))
    where
      at : (v : Bool) → is_upload id u ≡ v → is_upload id u ≡ false
      at true e = absurd (not_complete u s refl (only e) whole)
      at false e = e

  staged_size : HasSize (length (bytes_of id cs)) s → HasSize (length (bytes_of id more)) s
  staged_size h = record {
    size = size;
    is = refl;
    in_range = subst (λ n. n ≤ largest_object) (same_pos h.size size (sym h.is)) h.in_range;
    fits = subst (λ n. n ≤ size) (sym (ap length (bytes_are id (pieces ++ bytes ∷ []) more now_pieces) ∙ length_more pieces bytes)) fits;
    whole = λ no. absurd (true≢false (sym no));
  }

  size_kept : (u : row.Upload) → (is_upload id u ≡ true → u ≡ s) → HasSize (length (bytes_of u.id cs)) u → HasSize (length (bytes_of u.id more)) u
  size_kept u only h = at (is_upload id u) refl
    where
      at : (v : Bool) → is_upload id u ≡ v → HasSize (length (bytes_of u.id more)) u
      at true e =
          let same = only e in
          subst (λ (v : row.Upload). HasSize (length (bytes_of v.id more)) v) (sym same) (staged_size (subst (λ (v : row.Upload). HasSize (length (bytes_of v.id cs)) v) same h))
      at false e = same_size cs more u (others u.id e) h

  numbered_kept : (other : ℤ) → HasPieces other (pieces_of other more) more
  numbered_kept other = at (int_eq other id) refl
    where
      at : (v : Bool) → int_eq other id ≡ v → HasPieces other (pieces_of other more) more
      at true e = subst (λ n. HasPieces n (pieces_of n more) more) (sym (same_number other id e)) (own_pieces id (pieces ++ bytes ∷ []) more now_pieces)
      at false e = own_pieces other (pieces_of other cs) more (same_pieces other (pieces_of other cs) cs more (others other e) (r.numbered other))

  owned_kept : AllByRecursion (λ (k : row.Chunk). IsTrue (is_some (find (is_upload k.upload) us))) more
  owned_kept =
      let upload : id ≡ c.upload = ap (λ (k : row.Chunk). k.upload) (sym is) in
      all-append (λ (k : row.Chunk). IsTrue (is_some (find (is_upload k.upload) us))) cs (c ∷ []) r.owned
      (subst (λ n. IsTrue (is_some (find (is_upload n) us))) upload (ap is_some there), tt)

  pub objects_after_chunk : RepresentObjects us more objects
  objects_after_chunk = record {
    complete = subst (λ (os : List Object). IsPermutation os objects)
        (sym (map_alike is_complete (object_in more) (object_in cs) us (all_weaker (λ u. is_upload id u ≡ true → u ≡ s) (λ u. is_complete u ≡ true → object_in more u ≡ object_in cs u) complete_kept us alone)))
        r.complete;
    sizes = all_both (λ u. is_upload id u ≡ true → u ≡ s) (λ u. HasSize (length (bytes_of u.id cs)) u) (λ u. HasSize (length (bytes_of u.id more)) u) size_kept us alone r.sizes;
    numbered = numbered_kept;
    owned = owned_kept;
    staged = r.staged;
    rise = r.rise;
  }

-- the chunk is one of the staged upload
pub chunk_staged : (t : Tables) (id : ℤ) (repo name : List ℕ) (size : ℕ) (pieces : List (List ℕ)) (bytes : List ℕ) → IsStaged id repo name size pieces t
    → IsStaged id repo name size (pieces ++ bytes ∷ []) (with_chunk (asked_chunk id (length pieces) bytes) t)
unfolding with_chunk
chunk_staged t id repo name size pieces bytes h = record {
  upload = h.upload;
  stored = pieces_more id pieces bytes t.chunks (record (asked_chunk id (length pieces) bytes) { rowid = next_key (λ x. x.rowid) t.chunks }) h.stored refl;
}

-- one more chunk of a staged upload, within its size, represents the same world
pub chunk_represented : (t : Tables) (world : World) (id : ℤ) (repo name : List ℕ) (size : ℕ) (pieces : List (List ℕ)) (bytes : List ℕ) → Represents t world → IsStaged id repo name size pieces t
    → length (concat pieces) + length bytes ≤ size → Represents (with_chunk (asked_chunk id (length pieces) bytes) t) world
unfolding with_chunk
chunk_represented t world id repo name size pieces bytes s h fits =
    let c : row.Chunk = record (asked_chunk id (length pieces) bytes) { rowid = next_key (λ x. x.rowid) t.chunks } in
    record {
      meta = s.meta;
      locks = s.locks;
      made = s.made;
      used = s.used;
      tokens = s.tokens;
      objects = objects_after_chunk t.uploads t.chunks world.objects id repo name size pieces bytes c s.objects h.upload h.stored refl fits;
      retired = s.retired;
      unretired = s.unretired;
    }
