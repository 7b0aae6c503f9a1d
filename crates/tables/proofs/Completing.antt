-- The result of completing or removing an upload, from what its statements found and did.
use Rattle.tables.proofs.Prelude.{arith, ◌≡◌, ℕ, ℤ, pos, Bool, true, false, cond, List, find, option_map, is_some, Option, Some, None, refl, sym, ap, ◌∙◌, ◌<◌, [], ◌∷◌, length, LastChunk, UploadRow, Completion, Upload, Tables, is_object, with_chunk, without_chunks_from, UploadFields, upload_fields, read_upload, begun_as, IsUploadOf, without_upload, without_found, without_found_from, asked_chunk, with_bytes, is_as_begun, settled_as, completion_by, completion_of, after_completion, after_found}
use Rattle.tables.specs.declared.rows.Completion.TheVariants as completion
use Rattle.tables.specs.Staging.{staged_with, without_staged, without_staged_from, with_last, with_kept, after_settling, after_complete}

-- ---- the row that was found

-- what a row has is what the upload has, whatever is made of it without `done`
abbrev from_fields : UploadFields → Upload
from_fields f = record { id = f.id; repo = f.repo; oid = f.oid; size = f.size; done = pos 0 }

-- `done` does not matter for what is made of a staged upload
without_done : (c : Completion) (last : LastChunk) (u : Upload) (t : Tables) → after_completion c last u t ≡ after_completion c last (from_fields (upload_fields u)) t
unfolding with_kept
without_done completion.New last u t = refl
without_done completion.Already last u t = refl
without_done completion.Differs last u t = refl

pub none_found : (o : Option Upload) → IsUploadOf None o → o ≡ None
none_found None h = refl
none_found (Some u) h = absurd (let e : None ≡ Some (upload_fields u) = h in cc)

pub one_found : (row : UploadRow) (o : Option Upload) → IsUploadOf (Some row) o → (u : Upload) × (o ≡ Some u) × (upload_fields u ≡ read_upload row)
one_found row None h = absurd (let e : Some (read_upload row) ≡ None = h in cc)
one_found row (Some u) h = (u, refl, let e : read_upload row ≡ upload_fields u = (let e : Some (read_upload row) ≡ Some (upload_fields u) = h in cc) in sym e)

module _ (row : UploadRow) (id : ℤ) (t : Tables) (is : IsUploadOf (Some row) (staged_with id t)) where
  -- the tables without the upload
  pub removed : without_staged id t ≡ without_upload (begun_as row).id t
  unfolding without_staged
  removed =
      let it = one_found row (staged_with id t) is in
      ap (λ o. without_found o t) it.1 ∙ ap (λ (f : UploadFields). without_upload f.id t) it.2

  -- the tables without some of its chunks
  pub shortened : (n : ℤ) → without_staged_from id n t ≡ without_chunks_from (begun_as row).id n t
  unfolding without_staged_from
  shortened n =
      let it = one_found row (staged_with id t) is in
      ap (λ o. without_found_from o n t) it.1 ∙ ap (λ (f : UploadFields). without_chunks_from f.id n t) it.2

  pub is_there : is_some (staged_with id t) ≡ true
  is_there = let it = one_found row (staged_with id t) is in ap is_some it.1

  module _ (oid : List ℕ) (size : ℤ) where
    completed_by : (c : Completion) → completion_by oid size (begun_as row) t ≡ c → completion_of id oid size t ≡ Some c
    completed_by c same =
        let it = one_found row (staged_with id t) is in
        ap (option_map (λ u. completion_by oid size u t)) it.1 ∙ ap (λ (f : UploadFields). Some (completion_by oid size (from_fields f) t)) it.2 ∙ ap Some same

    after_by : (last : LastChunk) (c : Completion) → completion_by oid size (begun_as row) t ≡ c → after_complete id last oid size t ≡ after_completion c last (begun_as row) t
    unfolding after_complete
    after_by last c same =
        let it = one_found row (staged_with id t) is in
        ap (λ o. after_found o last oid size t) it.1 ∙ without_done (completion_by oid size it.0 t) last it.0 t ∙ ap (λ (f : UploadFields). after_completion (completion_by oid size (from_fields f) t) last (from_fields f) t) it.2
        ∙ ap (λ k. after_completion k last (begun_as row) t) same

    by_test : (b : Bool) → is_as_begun oid size (begun_as row) ≡ b → completion_by oid size (begun_as row) t ≡ cond b (settled_as (begun_as row) t) completion.Differs
    by_test b same = ap (λ k. cond k (settled_as (begun_as row) t) completion.Differs) same

    pub differs : (last : LastChunk) → is_as_begun oid size (begun_as row) ≡ false → (completion_of id oid size t ≡ Some completion.Differs) × (after_complete id last oid size t ≡ t)
    differs last other = (completed_by completion.Differs (by_test false other), after_by last completion.Differs (by_test false other))

    pub settles : (last : LastChunk) → is_as_begun oid size (begun_as row) ≡ true
        → (completion_of id oid size t ≡ Some (settled_as (begun_as row) t)) × (after_complete id last oid size t ≡ after_settling last (begun_as row) t)
    unfolding after_settling
    settles last same = (completed_by (settled_as (begun_as row) t) (by_test true same), after_by last (settled_as (begun_as row) t) (by_test true same))

module _ (id : ℤ) (t : Tables) (is : IsUploadOf None (staged_with id t)) where
  pub nothing_removed : without_staged id t ≡ t
  unfolding without_staged
  nothing_removed = ap (λ o. without_found o t) (none_found (staged_with id t) is)

  pub nothing_shortened : (n : ℤ) → without_staged_from id n t ≡ t
  unfolding without_staged_from
  nothing_shortened n = ap (λ o. without_found_from o n t) (none_found (staged_with id t) is)

  pub is_not_there : is_some (staged_with id t) ≡ false
  is_not_there = ap is_some (none_found (staged_with id t) is)

-- ---- the last chunk

module _ (id : ℤ) (last : LastChunk) where
  pub no_last : length last.bytes.items ≡ 0 → (t : Tables) → with_last id last t ≡ t
  unfolding with_last
  no_last none t = at last.bytes.items none
    where
      at : (bytes : List ℕ) → length bytes ≡ 0 → with_bytes id last.n bytes t ≡ t
      at [] none = refl
      at (byte ∷ bytes) none = absurd (omega (arith, none))

  pub some_last : 0 < length last.bytes.items → (t : Tables) → with_last id last t ≡ with_chunk (asked_chunk id last.n last.bytes.items) t
  unfolding with_last
  some_last some t = at last.bytes.items some
    where
      at : (bytes : List ℕ) → 0 < length bytes → with_bytes id last.n bytes t ≡ with_chunk (asked_chunk id last.n bytes) t
      at [] some = absurd (omega (arith, some))
      at (byte ∷ bytes) some = refl

-- ---- whether the repository has an object of the name

module _ (u : Upload) (t : Tables) (stored : Bool) (is : is_some (find (is_object u.repo u.oid) t.uploads) ≡ stored) where
  pub settled : settled_as u t ≡ cond stored completion.Already completion.New
  settled = ap (λ b. cond b completion.Already completion.New) is

  pub after_settled : (last : LastChunk) → after_settling last u t ≡ after_completion (cond stored completion.Already completion.New) last u t
  unfolding after_settling
  after_settled last = ap (λ c. after_completion c last u t) settled
