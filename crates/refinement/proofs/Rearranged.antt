-- Tables whose chunks are in another order, or that lack those of staged uploads, represent the same world.
use Rattle.refinement.proofs.Prelude.{◌≡◌, ◌∙◌, inl, inr, ℕ, ℤ, pos, Bool, true, false, not, List, [], ◌∷◌, map, filter, find, length, is_some, IsTrue, refl, sym, ap, subst, IsPermutation, arith, AllByRecursion, concat, true≢false, IsPermutation-map, IsPermutation-sym, IsPermutation-trans, IsPermutation-filter, IsPermutation-sort_by, All-permutation, All-from_recursion, recursion_from_All, filter-map, all_map, all_of, all_both, all_weaker, all-filter, filter_none, In, each_of, filter_weaker, none_where, both_true, World, Object, Bound, Tables, is_upload, is_complete, is_staged_with, is_of, chunk_kept, number_cmp, chunks_of, pieces_of, bytes_of, piece_rows, HasPieces, object_in, HasSize, RepresentObjects, Represents, IsAmong, IsStaged}
use Rattle.sqlite_keyed.specs.Lists.{sort_by}
use Rattle.sqlite_keyed.proofs.ListLemmas.{map-map}
use Rattle.tables.specs.Rows as row
use Rattle.store.specs.Normal.{placeless, chunk_cmp, arranged, normal, is_of_staged, Remains}
use Rattle.store.proofs.Steps.{chunk_total}
use Rattle.refinement.proofs.Pieces.{same_number, own_rows, ordered, in_any_order, pieces_are, own_pieces, same_pieces}
use Rattle.refinement.proofs.Uploads.{found_alone, found_itself, not_complete, map_alike, same_object, same_size}
use Rattle.refinement.proofs.Withdrawn.{each_left, filters_meet}

-- ---- the same chunks in another order

unmapped : {A B : Type 0} (P : B → Type 0) (f : A → B) (xs : List A) → AllByRecursion P (map f xs) → AllByRecursion (λ x. P (f x)) xs
unmapped P f [] all = tt
unmapped P f (x ∷ xs) all = (all.0, unmapped P f xs all.1)

module _ (old new : List row.Chunk) (same : IsPermutation (map chunk_kept old) (map chunk_kept new)) where
  own : (id : ℤ) → IsPermutation (own_rows id old) (own_rows id new)
  own id =
      subst (λ (rows : List row.Chunk). IsPermutation rows (own_rows id new)) (filter-map (is_of id) chunk_kept old)
      (subst (IsPermutation (filter (is_of id) (map chunk_kept old))) (filter-map (is_of id) chunk_kept new)
      (IsPermutation-filter (is_of id) (map chunk_kept old) (map chunk_kept new) same))

  pieces_moved : (id : ℤ) (pieces : List (List ℕ)) → HasPieces id pieces old → HasPieces id pieces new
  pieces_moved id pieces h =
      ordered id pieces new (IsPermutation-trans (piece_rows id 0 pieces) (own_rows id old) (own_rows id new) (in_any_order id pieces old h) (own id))

  module _ (us : List row.Upload) (objects : List Object) (r : RepresentObjects us old objects) where
    bytes_moved : (id : ℤ) → bytes_of id new ≡ bytes_of id old
    bytes_moved id = ap concat (pieces_are id (pieces_of id old) new (pieces_moved id (pieces_of id old) (r.numbered id)))

    object_moved : (u : row.Upload) → object_in new u ≡ object_in old u
    object_moved u = ap (λ (bytes : List ℕ). record { repo = u.repo; name = u.oid; bytes = bytes }) (bytes_moved u.id)

    abbrev HasItsUpload : row.Chunk → Type 0
    HasItsUpload c = IsTrue (is_some (find (is_upload c.upload) us))

    objects_moved : RepresentObjects us new objects
    objects_moved = record {
      complete = subst (λ (os : List Object). IsPermutation os objects)
          (sym (map_alike is_complete (object_in new) (object_in old) us (all_of (λ (u : row.Upload). is_complete u ≡ true → object_in new u ≡ object_in old u) (λ u _. object_moved u) us))) r.complete;
      sizes = all_weaker (λ (u : row.Upload). HasSize (length (bytes_of u.id old)) u) (λ u. HasSize (length (bytes_of u.id new)) u)
          (λ u. subst (λ (bytes : List ℕ). HasSize (length bytes) u) (sym (bytes_moved u.id))) us r.sizes;
      numbered = λ id. own_pieces id (pieces_of id old) new (pieces_moved id (pieces_of id old) (r.numbered id));
      owned = unmapped HasItsUpload chunk_kept new
          (recursion_from_All HasItsUpload (map chunk_kept new) (All-permutation HasItsUpload (map chunk_kept old) (map chunk_kept new) same
          (All-from_recursion HasItsUpload (map chunk_kept old) (all_map HasItsUpload chunk_kept old r.owned))));
      staged = r.staged;
      rise = r.rise;
    }

with_objects : (t : Tables) (world : World) (chunks : List row.Chunk) → RepresentObjects t.uploads chunks world.objects → Represents t world → Represents (record t { chunks = chunks }) world
with_objects t world chunks objects r = record {
  meta = r.meta;
  locks = r.locks;
  made = r.made;
  used = r.used;
  tokens = r.tokens;
  objects = objects;
  retired = r.retired;
  unretired = r.unretired;
}

as_arranged : (chunks : List row.Chunk) → IsPermutation (map chunk_kept chunks) (map chunk_kept (arranged chunks))
as_arranged chunks =
    subst (λ (rows : List row.Chunk). IsPermutation rows (map chunk_kept (arranged chunks))) (map-map chunk_kept placeless chunks)
    (IsPermutation-sym (map chunk_kept (arranged chunks)) (map chunk_kept (map placeless chunks))
    (IsPermutation-map chunk_kept (arranged chunks) (map placeless chunks) (IsPermutation-sort_by chunk_cmp chunk_total (map placeless chunks))))

pub to_normal : (t : Tables) (world : World) → Represents t world → Represents (normal t) world
to_normal t world r = with_objects t world (arranged t.chunks) (objects_moved t.chunks (arranged t.chunks) (as_arranged t.chunks) t.uploads world.objects r.objects) r

pub from_normal : (t : Tables) (world : World) → Represents (normal t) world → Represents t world
from_normal t world r =
    with_objects (normal t) world t.chunks
    (objects_moved (arranged t.chunks) t.chunks (IsPermutation-sym (map chunk_kept t.chunks) (map chunk_kept (arranged t.chunks)) (as_arranged t.chunks)) t.uploads world.objects r.objects) r

pub among_normal : (t : Tables) (bound : Bound) → IsAmong (normal t) bound → IsAmong t bound
among_normal t [] among = among
among_normal t (world ∷ bound) (inl is) = inl (is.0, from_normal t world is.1)
among_normal t (world ∷ bound) (inr rest) = inr (among_normal t bound rest)

pub normal_staged : (t : Tables) (id : ℤ) (repo name : List ℕ) (size : ℕ) (pieces : List (List ℕ)) → IsStaged id repo name size pieces t → IsStaged id repo name size pieces (normal t)
normal_staged t id repo name size pieces h = record { upload = h.upload; stored = pieces_moved t.chunks (arranged t.chunks) (as_arranged t.chunks) id pieces h.stored }

-- ---- without the chunks of staged uploads

module _ (us : List row.Upload) (cs : List row.Chunk) (objects : List Object) (r : RepresentObjects us cs objects) where
  -- there is a staged upload with this id
  abbrev has_staged : ℤ → Bool
  has_staged id = is_some (find (is_staged_with id) us)

  abbrev rest : List row.Chunk
  rest = filter (λ c. not (is_of_staged us c)) cs

  chunks_gone : (id : ℤ) → has_staged id ≡ true → chunks_of id rest ≡ []
  chunks_gone id is =
      ap (sort_by number_cmp)
      (filters_meet (is_of id) (λ c. not (is_of_staged us c)) cs
      ∙ filter_none (λ c. not (is_of_staged us c)) (filter (is_of id) cs)
      (each_left (λ c. not (is_of_staged us c) ≡ false) (is_of id) cs
      (all_of (λ (c : row.Chunk). is_of id c ≡ true → not (is_of_staged us c) ≡ false) (λ c its. ap not (ap has_staged (same_number c.upload id its) ∙ is)) cs)))

  chunks_left : (id : ℤ) → has_staged id ≡ false → chunks_of id rest ≡ chunks_of id cs
  chunks_left id is =
      ap (sort_by number_cmp)
      (filter_weaker (is_of id) (λ c. not (is_of_staged us c)) cs
      (all_of (λ (c : row.Chunk). is_of id c ≡ true → not (is_of_staged us c) ≡ true) (λ c its. ap not (ap has_staged (same_number c.upload id its) ∙ is)) cs))

  -- a complete upload has another id than each staged one
  not_staged : AllByRecursion (λ (u : row.Upload). is_complete u ≡ true → has_staged u.id ≡ false) us
  not_staged = each_of (λ (u : row.Upload). is_complete u ≡ true → has_staged u.id ≡ false) us apart
    where
      fails : (u v : row.Upload) → is_complete u ≡ true → (is_upload u.id v ≡ true → v ≡ u) → (b : Bool) → is_staged_with u.id v ≡ b → is_staged_with u.id v ≡ false
      fails u v whole only false is = is
      fails u v whole only true is =
          let both = both_true _ _ is in
          absurd (not_complete u v (same_number v.done (pos 0) both.1) (sym (only both.0)) whole)

      apart : (u : row.Upload) → In us u → is_complete u ≡ true → has_staged u.id ≡ false
      apart u inside whole =
          ap is_some (none_where (is_staged_with u.id) us
          (all_weaker (λ (v : row.Upload). is_upload u.id v ≡ true → v ≡ u) (λ v. is_staged_with u.id v ≡ false)
          (λ v only. fails u v whole only (is_staged_with u.id v) refl) us (found_alone us u.id u r.rise (found_itself us u r.rise inside))))

  size_left : (u : row.Upload) → HasSize (length (bytes_of u.id cs)) u → (is_complete u ≡ true → has_staged u.id ≡ false) → HasSize (length (bytes_of u.id rest)) u
  size_left u h other = at (has_staged u.id) refl
    where
      at : (b : Bool) → has_staged u.id ≡ b → HasSize (length (bytes_of u.id rest)) u
      at false is = same_size cs rest u (chunks_left u.id is) h
      at true is =
          let none : length (bytes_of u.id rest) ≡ 0 = ap (λ (ks : List row.Chunk). length (concat (map (λ (c : row.Chunk). c.bytes) ks))) (chunks_gone u.id is) in
          record { size = h.size; is = h.is; in_range = h.in_range; fits = omega (arith, none); whole = λ whole. absurd (true≢false (sym is ∙ other whole)) }

  numbered_left : (id : ℤ) → HasPieces id (pieces_of id rest) rest
  numbered_left id = at (has_staged id) refl
    where
      at : (b : Bool) → has_staged id ≡ b → HasPieces id (pieces_of id rest) rest
      at true is = own_pieces id [] rest (ap (map chunk_kept) (chunks_gone id is))
      at false is = own_pieces id (pieces_of id cs) rest (same_pieces id (pieces_of id cs) cs rest (chunks_left id is) (r.numbered id))

  objects_settled : RepresentObjects us rest objects
  objects_settled = record {
    complete = subst (λ (os : List Object). IsPermutation os objects)
        (sym (map_alike is_complete (object_in rest) (object_in cs) us
        (all_weaker (λ (u : row.Upload). is_complete u ≡ true → has_staged u.id ≡ false) (λ u. is_complete u ≡ true → object_in rest u ≡ object_in cs u)
        (λ u other whole. same_object cs rest u (chunks_left u.id (other whole))) us not_staged))) r.complete;
    sizes = all_both (λ (u : row.Upload). HasSize (length (bytes_of u.id cs)) u) (λ u. is_complete u ≡ true → has_staged u.id ≡ false) (λ u. HasSize (length (bytes_of u.id rest)) u)
        size_left us r.sizes not_staged;
    numbered = numbered_left;
    owned = all-filter (λ (c : row.Chunk). IsTrue (is_some (find (is_upload c.upload) us))) (λ c. not (is_of_staged us c)) cs r.owned;
    staged = r.staged;
    rise = r.rise;
  }

-- what a stop leaves of tables represents their world
pub remains_represented : (t left : Tables) (world : World) → Remains t left → Represents t world → Represents left world
remains_represented t left world (inl same) r = subst (λ (u : Tables). Represents u world) (sym same) r
remains_represented t left world (inr same) r =
    subst (λ (u : Tables). Represents u world) (sym same) (with_objects t world _ (objects_settled t.uploads t.chunks world.objects r.objects) r)
