-- A staged upload that is removed with its chunks: the tables represent the same world.
use Rattle.refinement.proofs.Prelude.{◌≡◌, ◌∙◌, ℕ, ℤ, pos, Bool, true, false, not, ◌&&◌, List, [], ◌∷◌, map, filter, find, cond, length, Option, Some, None, is_some, IsTrue, refl, sym, ap, subst, AllPairs, IsPermutation, AllByRecursion, int_eq, true≢false, AllPairs-filter, delete_where, all_weaker, all_of, World, Object, filter_weaker, in_found, found_passes, none_where, both_true, Tables, is_upload, is_complete, is_staged, is_staged_with, is_staged_in, is_of, staged_with, chunk_kept, number_cmp, chunks_of, pieces_of, bytes_of, HasPieces, object_in, HasSize, DiffersInRepo, RepresentObjects, Represents}
use Rattle.sqlite_keyed.specs.Lists.{sort_by}
use Rattle.sqlite_keyed.proofs.KeyedLemmas.{IsKeyedBy-delete_where, has_key-delete_where}
use Rattle.model.specs.World.{is_retired}
use Rattle.sqlite_keyed.proofs.ListLemmas.{all-filter}
use Rattle.tables.specs.Rows as row
use Rattle.tables.specs.Statements.{without_row, without_chunks}
use Rattle.tables.specs.Staging.{without_upload, without_found, without_staged, without_staged_in}
use Rattle.refinement.proofs.Pieces.{numbers_meet, same_number, same_pieces, own_pieces}
use Rattle.refinement.proofs.Uploads.{IsAlone, found_alone, found_itself, not_complete, map_alike, same_object, same_size}

-- ---- filtered lists

-- what holds of each element that passes holds of the filtered list
pub each_left : {A : Type 0} (P : A → Type 0) (q : A → Bool) (xs : List A) → AllByRecursion (λ x. q x ≡ true → P x) xs → AllByRecursion P (filter q xs)
each_left P q [] all = tt
each_left P q (x ∷ xs) all = at (q x) refl (each_left P q xs all.1)
  where
    at : (v : Bool) → q x ≡ v → AllByRecursion P (filter q xs) → AllByRecursion P (cond v (x ∷ filter q xs) (filter q xs))
    at true is rest = (all.0 is, rest)
    at false is rest = rest

-- the order of two filters does not matter
pub filters_meet : {A : Type 0} (p q : A → Bool) (xs : List A) → filter p (filter q xs) ≡ filter q (filter p xs)
filters_meet p q [] = refl
filters_meet {A} p q (x ∷ xs) = at (p x) (q x) refl refl (filters_meet p q xs)
  where
    at : (v w : Bool) → p x ≡ v → q x ≡ w → filter p (filter q xs) ≡ filter q (filter p xs) → filter p (cond w (x ∷ filter q xs) (filter q xs)) ≡ filter q (cond v (x ∷ filter p xs) (filter p xs))
    at true true a b rest = rw (a, b) (ap (λ ys. x ∷ ys) rest)
    at true false a b rest = rw b rest
    at false true a b rest = rw a rest
    at false false a b rest = rest

pub none_left : {A : Type 0} (p : A → Bool) (xs : List A) → filter p (filter (λ x. not (p x)) xs) ≡ []
none_left p [] = refl
none_left {A} p (x ∷ xs) = at (p x) refl (none_left p xs)
  where
    at : (v : Bool) → p x ≡ v → filter p (filter (λ y. not (p y)) xs) ≡ [] → filter p (cond (not v) (x ∷ filter (λ y. not (p y)) xs) (filter (λ y. not (p y)) xs)) ≡ []
    at true is rest = rest
    at false is rest = rw is rest

pub not_is : (v : Bool) → not v ≡ true → v ≡ false
not_is false e = refl
not_is true e = absurd (true≢false (sym e))

-- ---- without an upload that is not complete

module _ (us : List row.Upload) (cs : List row.Chunk) (objects : List Object) (s : row.Upload) (r : RepresentObjects us cs objects) (there : find (is_upload s.id) us ≡ Some s) where
  abbrev pub left : List row.Upload
  left = delete_where (is_upload s.id) us

  abbrev pub rest : List row.Chunk
  rest = delete_where (is_of s.id) cs

  pub alone : IsAlone s.id s us
  alone = found_alone us s.id s r.rise there

  pub others : (other : ℤ) → int_eq other s.id ≡ false → chunks_of other rest ≡ chunks_of other cs
  others other apart = ap (sort_by number_cmp) (filter_weaker (is_of other) (λ c. not (is_of s.id c)) cs (all_of (λ (c : row.Chunk). is_of other c ≡ true → not (is_of s.id c) ≡ true) also cs))
    where
      also : (c : row.Chunk) → is_of other c ≡ true → not (is_of s.id c) ≡ true
      also c is = ap not (ap (λ n. int_eq n s.id) (same_number c.upload other is) ∙ apart)

  -- a complete upload has another id
  pub complete_apart : s.done ≡ pos 0 → (u : row.Upload) → (is_upload s.id u ≡ true → u ≡ s) → is_complete u ≡ true → is_upload s.id u ≡ false
  complete_apart staged u only whole = at (is_upload s.id u) refl
    where
      at : (v : Bool) → is_upload s.id u ≡ v → is_upload s.id u ≡ false
      at true e = absurd (not_complete u s staged (only e) whole)
      at false e = e

  complete_left : s.done ≡ pos 0 → filter is_complete left ≡ filter is_complete us
  complete_left staged =
      filter_weaker is_complete (λ u. not (is_upload s.id u)) us
      (all_weaker (λ u. is_upload s.id u ≡ true → u ≡ s) (λ u. is_complete u ≡ true → not (is_upload s.id u) ≡ true) (λ u only whole. ap not (complete_apart staged u only whole)) us alone)

  objects_left : s.done ≡ pos 0 → map (object_in rest) (filter is_complete left) ≡ map (object_in cs) (filter is_complete us)
  objects_left staged =
      ap (map (object_in rest)) (complete_left staged)
      ∙ map_alike is_complete (object_in rest) (object_in cs) us
      (all_weaker (λ u. is_upload s.id u ≡ true → u ≡ s) (λ u. is_complete u ≡ true → object_in rest u ≡ object_in cs u)
      (λ u only whole. same_object cs rest u (others u.id (complete_apart staged u only whole))) us alone)

  pub sizes_left : AllByRecursion (λ u. HasSize (length (bytes_of u.id rest)) u) left
  sizes_left =
      each_left (λ u. HasSize (length (bytes_of u.id rest)) u) (λ u. not (is_upload s.id u)) us
      (all_weaker (λ u. HasSize (length (bytes_of u.id cs)) u) (λ u. not (is_upload s.id u) ≡ true → HasSize (length (bytes_of u.id rest)) u)
      (λ u h stays. same_size cs rest u (others u.id (not_is (is_upload s.id u) stays)) h) us r.sizes)

  pub numbered_left : (other : ℤ) → HasPieces other (pieces_of other rest) rest
  numbered_left other = at (int_eq other s.id) refl
    where
      none : HasPieces s.id [] rest
      none = ap (λ own. map chunk_kept (sort_by number_cmp own)) (none_left (is_of s.id) cs)

      at : (v : Bool) → int_eq other s.id ≡ v → HasPieces other (pieces_of other rest) rest
      at true e = subst (λ n. HasPieces n (pieces_of n rest) rest) (sym (same_number other s.id e)) (own_pieces s.id [] rest none)
      at false e = own_pieces other (pieces_of other cs) rest (same_pieces other (pieces_of other cs) cs rest (others other e) (r.numbered other))

  pub owned_left : AllByRecursion (λ (c : row.Chunk). IsTrue (is_some (find (is_upload c.upload) left))) rest
  owned_left =
      each_left (λ (c : row.Chunk). IsTrue (is_some (find (is_upload c.upload) left))) (λ c. not (is_of s.id c)) cs
      (all_weaker (λ (c : row.Chunk). IsTrue (is_some (find (is_upload c.upload) us))) (λ (c : row.Chunk). not (is_of s.id c) ≡ true → IsTrue (is_some (find (is_upload c.upload) left))) kept cs r.owned)
    where
      apart : (c : row.Chunk) → is_of s.id c ≡ false → (u : row.Upload) → is_upload s.id u ≡ true → int_eq u.id c.upload ≡ false
      apart c other u is = ap (λ n. int_eq n c.upload) (same_number u.id s.id is) ∙ numbers_meet s.id c.upload ∙ other

      kept : (c : row.Chunk) → IsTrue (is_some (find (is_upload c.upload) us)) → not (is_of s.id c) ≡ true → IsTrue (is_some (find (is_upload c.upload) left))
      kept c has stays =
          has_key-delete_where (λ (u : row.Upload). u.id) (is_upload s.id) us c.upload
          (all_of (λ (u : row.Upload). is_upload s.id u ≡ true → int_eq u.id c.upload ≡ false) (apart c (not_is (is_of s.id c) stays)) us) ∙ has

  pub objects_without : s.done ≡ pos 0 → RepresentObjects left rest objects
  objects_without staged = record {
    complete = subst (λ (os : List Object). IsPermutation os objects) (sym (objects_left staged)) r.complete;
    sizes = sizes_left;
    numbered = numbered_left;
    owned = owned_left;
    staged = subst (AllPairs DiffersInRepo) (filters_meet (λ u. not (is_upload s.id u)) is_staged us) (AllPairs-filter DiffersInRepo (λ u. not (is_upload s.id u)) (filter is_staged us) r.staged);
    rise = IsKeyedBy-delete_where (λ (u : row.Upload). u.id) (is_upload s.id) us r.rise;
  }

-- the tables without a staged upload represent the same world
pub upload_withdrawn : (t : Tables) (world : World) (s : row.Upload) → Represents t world → find (is_upload s.id) t.uploads ≡ Some s → s.done ≡ pos 0 → Represents (without_upload s.id t) world
unfolding without_upload without_row without_chunks
upload_withdrawn t world s r there staged = record {
  meta = r.meta;
  locks = r.locks;
  made = r.made;
  used = r.used;
  tokens = r.tokens;
  objects = objects_without t.uploads t.chunks world.objects s r.objects there staged;
  retired = r.retired;
  unretired = all-filter (λ u. is_staged u ≡ true → is_retired u.repo u.oid world ≡ false) (λ u. not (is_upload s.id u)) t.uploads r.unretired;
}

withdrawn_by : (t : Tables) (world : World) (p : row.Upload → Bool) → ((u : row.Upload) → p u ≡ true → is_staged u ≡ true) → Represents t world → Represents (without_found (find p t.uploads) t) world
withdrawn_by t world p staged r = at (find p t.uploads) refl
  where
    at : (o : Option row.Upload) → find p t.uploads ≡ o → Represents (without_found o t) world
    at None e = r
    at (Some s) e =
        upload_withdrawn t world s r (found_itself t.uploads s r.objects.rise (in_found p t.uploads s e)) (same_number s.done (pos 0) (staged s (found_passes p t.uploads s e)))

pub staged_withdrawn : (t : Tables) (world : World) (id : ℤ) → Represents t world → Represents (without_staged id t) world
unfolding without_staged
staged_withdrawn t world id r = withdrawn_by t world (is_staged_with id) (λ u e. (both_true _ _ e).1) r

pub staged_in_withdrawn : (t : Tables) (world : World) (repo : List ℕ) → Represents t world → Represents (without_staged_in repo t) world
unfolding without_staged_in
staged_in_withdrawn t world repo r = withdrawn_by t world (is_staged_in repo) (λ u e. (both_true _ _ e).1) r

-- and there is no staged upload with its id
pub staged_gone : (t : Tables) (id : ℤ) → staged_with id (without_staged id t) ≡ None
unfolding without_staged without_upload without_row without_chunks
staged_gone t id = at (staged_with id t) refl
  where
    at : (o : Option row.Upload) → staged_with id t ≡ o → staged_with id (without_found o t) ≡ None
    at None e = e
    at (Some s) e =
        let own : s.id ≡ id = same_number s.id id (both_true _ _ (found_passes (is_staged_with id) t.uploads s e)).0 in
        none_where (is_staged_with id) (delete_where (is_upload s.id) t.uploads)
        (each_left (λ u. is_staged_with id u ≡ false) (λ u. not (is_upload s.id u)) t.uploads
        (all_of (λ (u : row.Upload). not (is_upload s.id u) ≡ true → is_staged_with id u ≡ false)
        (λ u stays. ap (λ b. b && is_staged u) (ap (λ n. int_eq u.id n) (sym own) ∙ not_is (is_upload s.id u) stays)) t.uploads))
