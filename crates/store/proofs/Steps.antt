-- The steps of the calls lead to the same tables, whatever the order of the chunks, for proofs in other crates.
use Rattle.std.proofs.Common.{◌≡◌, subst, ℕ, ℤ, ◌-ℤ◌, Bool, true, false, not, cond, ◌&&◌, List, [], ◌∷◌, ◌++◌, map, filter, find, Option, Some, None, option_map, refl, sym, ap, ◌∙◌, is_gt, true≢false, arith, append-nil}
use Rattle.std.specs.Prelude.{pos, IsPermutation}
use Rattle.std.proofs.lemmas.List.{map-append}
use Rattle.std.proofs.lemmas.List.Sorted.{IsPermutation-map, IsPermutation-sym}
use Rattle.std.specs.Cmp.{IsTotalOrder}
use Rattle.std.specs.Ordering.{int_cmp, int_eq}
use Rattle.std.proofs.lemmas.Cmp.{int_cmp_total, on_total, then_total, tied_itself}
use Rattle.std.proofs.lemmas.Int.{ints}
use Rattle.sqlite_trees.proofs.ListLemmas.{filter-map}
use Rattle.sqlite_keyed.specs.Keyed.{next_key}
use Rattle.sqlite_keyed.specs.Lists.{sort_by}
use Rattle.sqlite_keyed.proofs.ListLemmas.{map-map}
use Rattle.sqlite_keyed.proofs.SortLemmas.{sort_by-map, IsPermutation-sort_by}
use Rattle.tables.specs.Rows.{Chunk, Upload, Lock, Token, Tables}
use Rattle.tables.specs.Listing.{key_fields, read_key, AreKeysOf}
use Rattle.tables.specs.Restoring.{restored_upload, with_upload_at, with_new_chunk, with_restored}
use Rattle.tables.specs.Statements.{has_number, is_of, is_of_from, is_chunk, is_staged_in, is_object, with_lock, with_counts, with_chunk, with_upload, with_done, with_token, with_retired, without_lock, without_expired, without_row, without_chunks, without_chunks_from}
use Rattle.tables.specs.Steps.{Outcome, held, used_up, created, used_of, after_outcome, outcome_of, after_create, with_new_lock, with_made, has_token, after_add}
use Rattle.tables.specs.Staging.{NumberedFields, numbered_fields, read_numbered, AreNumbered, AreUploadsOf, chunk_bytes, IsChunkOf, objects_of, staged_with, without_upload, without_found, without_found_from, without_staged, without_staged_from, without_staged_in, after_begin, with_used, with_bytes, with_last, with_kept, completion_by, after_completion, after_found, after_complete}
use Rattle.tables.specs.Retiring.{without_object, without_found_object, after_retire}
use Rattle.tables.specs.Discarding.{recounted, without_discarded, after_discard}
use Rattle.tables.specs.declared.chunks.ChunkRow.{ChunkRow}
use Rattle.tables.specs.declared.new_rows.LastChunk.{LastChunk}
use Rattle.tables.specs.declared.rows.Completion.{Completion}
use Rattle.tables.specs.declared.rows.UploadRow.{UploadRow}
use Rattle.tables.specs.declared.rows.NumberedChunk.{NumberedChunk}
use Rattle.tables.specs.declared.rows.ChunkKey.{ChunkKey}
use Rattle.tables.specs.declared.new_rows.NewUpload.{NewUpload}
use Rattle.tables.specs.declared.new_rows.NewChunk.{NewChunk}
use Rattle.tables.specs.declared.rows.Completion.TheVariants as completion
use Rattle.store.specs.Content.{content_bytes, IsContentOf, AreAllNumbered, AreAllKeys}
use Rattle.store.specs.Normal.{placeless, chunk_cmp, arranged, normal}
use Rattle.store.specs.declared.content.ChunkContent.{ChunkContent}
use Rattle.store.specs.declared.content.ChunkContent.TheVariants as content
use Rattle.store.proofs.Sorted.{filter-sort, sort-sorted, find-sort}

pub chunk_total : IsTotalOrder chunk_cmp
chunk_total = then_total (on_total (λ (c : Chunk). c.upload) int_cmp_total) (on_total (λ (c : Chunk). c.n) int_cmp_total)

-- ---- arranged chunks

arranged-filter : (p : Chunk → Bool) → ◌≡◌ {A = Chunk → Bool} (λ c. p (placeless c)) p → (cs : List Chunk) → arranged (filter p cs) ≡ filter p (arranged cs)
arranged-filter p same cs =
    ap (λ (q : Chunk → Bool). sort_by chunk_cmp (map placeless (filter q cs))) (sym same)
    ∙ ap (sort_by chunk_cmp) (sym (filter-map p placeless cs))
    ∙ sym (filter-sort chunk_cmp chunk_total p (map placeless cs))

arranged-placeless : (cs : List Chunk) → map placeless (arranged cs) ≡ arranged cs
arranged-placeless cs = sym (sort_by-map chunk_cmp placeless (map placeless cs)) ∙ ap (sort_by chunk_cmp) (map-map placeless placeless cs)

arranged-again : (cs : List Chunk) → arranged (arranged cs) ≡ arranged cs
arranged-again cs =
    ap (sort_by chunk_cmp) (arranged-placeless cs ∙ sym (append-nil (arranged cs)))
    ∙ sort-sorted chunk_cmp chunk_total (map placeless cs) []
    ∙ ap (sort_by chunk_cmp) (append-nil (map placeless cs))

arranged-push : (cs : List Chunk) (c d : Chunk) → placeless c ≡ placeless d → arranged (cs ++ c ∷ []) ≡ arranged (arranged cs ++ d ∷ [])
arranged-push cs c d same =
    ap (sort_by chunk_cmp) (map-append placeless cs (c ∷ []) ∙ ap (λ k. map placeless cs ++ k ∷ []) same)
    ∙ sym (sort-sorted chunk_cmp chunk_total (map placeless cs) (placeless d ∷ []))
    ∙ ap (λ ks. sort_by chunk_cmp (ks ++ placeless d ∷ [])) (sym (arranged-placeless cs))
    ∙ ap (sort_by chunk_cmp) (sym (map-append placeless (arranged cs) (d ∷ [])))

-- the tables with these chunks
abbrev with_rows : Tables → List Chunk → Tables
with_rows t cs = record t { chunks = cs }

-- tables whose chunks are arranged already
pub normal-again : (t : Tables) → normal (normal t) ≡ normal t
normal-again t = ap (with_rows t) (arranged-again t.chunks)

-- ---- a chunk that is read

both : (a b : Bool) → (a && b) ≡ true → (a ≡ true) × (b ≡ true)
both true b e = (refl, e)
both false b e = absurd (true≢false (sym e))

same_number : (a b n : ℤ) → int_eq a n ≡ true → int_eq b n ≡ true → a ≡ b
same_number a b n p q = grind (arith, ints)

one_place : (id n : ℤ) (x y : Chunk) → is_chunk id n x ≡ true → is_chunk id n y ≡ true → is_gt (chunk_cmp x y) ≡ false
one_place id n x y p q =
    let a = both _ _ p in
    let b = both _ _ q in
    rw (
      ap (λ k. int_cmp k y.upload) (same_number x.upload y.upload id a.0 b.0) ∙ tied_itself int_cmp_total y.upload,
      ap (λ k. int_cmp k y.n) (same_number x.n y.n n a.1 b.1) ∙ tied_itself int_cmp_total y.n,
    ) refl

find_placeless : (p : Chunk → Bool) → ◌≡◌ {A = Chunk → Bool} (λ c. p (placeless c)) p → (cs : List Chunk) → option_map (λ (k : Chunk). k.bytes) (find p (map placeless cs)) ≡ option_map (λ (k : Chunk). k.bytes) (find p cs)
find_placeless p same [] = refl
find_placeless p same (c ∷ cs) =
    ap (λ (q : Chunk → Bool). option_map (λ (k : Chunk). k.bytes) (cond (q c) (Some (placeless c)) (find p (map placeless cs)))) same ∙ at (p c) (find_placeless p same cs)
  where
    at : (b : Bool) → option_map (λ (k : Chunk). k.bytes) (find p (map placeless cs)) ≡ option_map (λ (k : Chunk). k.bytes) (find p cs)
        → option_map (λ (k : Chunk). k.bytes) (cond b (Some (placeless c)) (find p (map placeless cs))) ≡ option_map (λ (k : Chunk). k.bytes) (cond b (Some c) (find p cs))
    at true rest = refl
    at false rest = rest

chunk-found : (id n : ℤ) (t : Tables) (found : Option ChunkRow) → IsChunkOf found (find (is_chunk id n) t.chunks) → IsChunkOf found (find (is_chunk id n) (arranged t.chunks))
chunk-found id n t found is =
    is ∙ sym (ap (option_map (λ (k : Chunk). k.bytes)) (find-sort chunk_cmp chunk_total (is_chunk id n) (one_place id n) (map placeless t.chunks))
    ∙ find_placeless (is_chunk id n) refl t.chunks)

read_row : (row : Option ChunkRow) → option_map content_bytes (option_map content.Row row) ≡ option_map chunk_bytes row
read_row None = refl
read_row (Some row) = refl

pub content-found : (id n : ℤ) (t : Tables) (row : Option ChunkRow) (found : Option ChunkContent) → found ≡ option_map content.Row row
    → IsChunkOf row (find (is_chunk id n) t.chunks) → IsContentOf found (find (is_chunk id n) (arranged t.chunks))
content-found id n t row found same is = ap (option_map content_bytes) same ∙ read_row row ∙ chunk-found id n t row is

-- objects are found whatever the order of the chunks
pub objects-found : (repo : Option (List ℕ)) (t : Tables) (rows : List UploadRow) → AreUploadsOf rows (objects_of repo t) → AreUploadsOf rows (objects_of repo (normal t))
objects-found None t rows is = is
objects-found (Some repo) t rows is = is

-- ---- steps on uploads and their chunks

pub chunk-agrees : (c : Chunk) (t : Tables) → normal (with_chunk c t) ≡ normal (with_chunk c (normal t))
unfolding with_chunk
chunk-agrees c t =
    ap (with_rows t) (arranged-push t.chunks (record c { rowid = next_key (λ (x : Chunk). x.rowid) t.chunks }) (record c { rowid = next_key (λ (x : Chunk). x.rowid) (arranged t.chunks) }) refl)

upload-agrees : (id : ℤ) (t : Tables) → normal (without_upload id t) ≡ without_upload id (normal t)
unfolding without_upload without_row without_chunks
upload-agrees id t = ap (with_rows (without_upload id t)) (arranged-filter (λ c. not (is_of id c)) refl t.chunks)

found-agrees : (o : Option Upload) (t : Tables) → normal (without_found o t) ≡ without_found o (normal t)
found-agrees None t = refl
found-agrees (Some u) t = upload-agrees u.id t

pub staged-agrees : (id : ℤ) (t : Tables) → normal (without_staged id t) ≡ without_staged id (normal t)
unfolding without_staged
staged-agrees id t = found-agrees (staged_with id t) t

pub shortened-agrees : (id n : ℤ) (t : Tables) → normal (without_staged_from id n t) ≡ without_staged_from id n (normal t)
unfolding without_staged_from without_chunks_from
shortened-agrees id n t = at (staged_with id t)
  where
    at : (o : Option Upload) → normal (without_found_from o n t) ≡ without_found_from o n (normal t)
    at None = refl
    at (Some u) = ap (with_rows t) (arranged-filter (λ c. not (is_of_from u.id n c)) refl t.chunks)

pub begin-agrees : (u : Upload) (t : Tables) → normal (after_begin u t) ≡ after_begin u (normal t)
unfolding after_begin with_upload without_staged_in
begin-agrees u t = ap (with_upload u) (found-agrees (find (is_staged_in u.repo) t.uploads) t)

pub complete-agrees : (id : ℤ) (last : LastChunk) (oid : List ℕ) (size : ℤ) (t : Tables) → normal (after_complete id last oid size t) ≡ normal (after_complete id last oid size (normal t))
unfolding after_complete with_kept with_used with_done with_last with_chunk
complete-agrees id last oid size t = at (staged_with id t)
  where
    still : normal t ≡ normal (normal t)
    still = sym (normal-again t)

    kept : (u : Upload) (bytes : List ℕ) → normal (with_kept u (with_bytes u.id last.n bytes t)) ≡ normal (with_kept u (with_bytes u.id last.n bytes (normal t)))
    kept u [] = ap (with_rows (with_kept u t)) (sym (arranged-again t.chunks))
    kept u (byte ∷ bytes) = ap (with_rows (with_kept u t)) (arranged-push t.chunks _ _ refl)

    done : (u : Upload) (c : Completion) → normal (after_completion c last u t) ≡ normal (after_completion c last u (normal t))
    done u completion.Differs = still
    done u completion.Already = still
    done u completion.New = kept u last.bytes.items

    at : (o : Option Upload) → normal (after_found o last oid size t) ≡ normal (after_found o last oid size (normal t))
    at None = still
    at (Some u) = done u (completion_by oid size u t)

pub retire-agrees : (repo oid : List ℕ) (t : Tables) → normal (after_retire repo oid t) ≡ after_retire repo oid (normal t)
unfolding after_retire without_object with_retired with_used without_upload without_row without_chunks
retire-agrees repo oid t = at (find (is_object repo oid) t.uploads)
  where
    at : (o : Option Upload) → normal (without_found_object repo oid o t) ≡ without_found_object repo oid o (normal t)
    at None = refl
    at (Some u) = ap (λ (s : Tables). with_retired repo oid (with_used repo (used_of repo s -ℤ u.size) s)) (upload-agrees u.id t)

pub discard-agrees : (repo oid : List ℕ) (t : Tables) → normal (after_discard repo oid t) ≡ after_discard repo oid (normal t)
unfolding after_discard recounted with_used
discard-agrees repo oid t = at (find (is_object repo oid) t.uploads)
  where
    at : (o : Option Upload) → normal (without_discarded repo o t) ≡ without_discarded repo o (normal t)
    at None = refl
    at (Some u) = ap (recounted repo) (upload-agrees u.id t)

-- ---- steps on locks and tokens

pub create-agrees : (l : Lock) (t : Tables) → normal (after_create l t) ≡ after_create l (normal t)
unfolding after_create with_new_lock with_made with_lock
create-agrees l t = at (outcome_of l t)
  where
    at : (o : Outcome) → normal (after_outcome l o t) ≡ after_outcome l o (normal t)
    at (held other) = refl
    at used_up = refl
    at (created id) = refl

pub add-agrees : (k : Token) (t : Tables) → normal (after_add k t) ≡ after_add k (normal t)
unfolding after_add with_token
add-agrees k t = at (has_token k.digest t)
  where
    at : (b : Bool) → normal (cond b t (with_token k t)) ≡ cond b (normal t) (with_token k (normal t))
    at true = refl
    at false = refl

pub unlock-agrees : (repo : List ℕ) (id : ℤ) (t : Tables) → normal (without_lock repo id t) ≡ without_lock repo id (normal t)
unfolding without_lock
unlock-agrees repo id t = refl

pub expire-agrees : (moment : ℤ) (t : Tables) → normal (without_expired moment t) ≡ without_expired moment (normal t)
unfolding without_expired
expire-agrees moment t = refl

-- ---- rows that are added as they are

pub counts-agrees : (name : List ℕ) (made used : ℤ) (t : Tables) → normal (with_counts name made used t) ≡ with_counts name made used (normal t)
unfolding with_counts
counts-agrees name made used t = refl

pub lock-agrees : (l : Lock) (t : Tables) → normal (with_lock l t) ≡ with_lock l (normal t)
unfolding with_lock
lock-agrees l t = refl

pub retired-agrees : (repo oid : List ℕ) (t : Tables) → normal (with_retired repo oid t) ≡ with_retired repo oid (normal t)
unfolding with_retired
retired-agrees repo oid t = refl

pub restore-agrees : (u : NewUpload) (id : ℤ) (chunk : Option NewChunk) (t : Tables) → normal (with_restored u id chunk t) ≡ normal (with_restored u id chunk (normal t))
unfolding with_restored with_upload_at with_chunk
restore-agrees u id chunk t = at chunk
  where
    added : Tables
    added = with_upload_at (restored_upload u id) t

    at : (o : Option NewChunk) → normal (with_new_chunk id o (with_upload_at (restored_upload u id) t)) ≡ normal (with_new_chunk id o (with_upload_at (restored_upload u id) (normal t)))
    at None = ap (with_rows added) (sym (arranged-again t.chunks))
    at (Some c) = ap (with_rows added) (arranged-push t.chunks _ _ refl)

-- ---- chunks that are listed

-- the keys of all chunks are found whatever their order
pub keys-found : (found : List ChunkKey) (t : Tables) → AreKeysOf found t.chunks → AreAllKeys found (normal t)
keys-found found t is =
    let fields : map key_fields (map placeless t.chunks) ≡ map read_key found = map-map key_fields placeless t.chunks ∙ sym is in
    let mixed : IsPermutation (map key_fields (arranged t.chunks)) (map key_fields (map placeless t.chunks)) =
    IsPermutation-map key_fields (arranged t.chunks) (map placeless t.chunks)
    (IsPermutation-sort_by chunk_cmp chunk_total (map placeless t.chunks)) in
    IsPermutation-sym (map key_fields (arranged t.chunks)) (map read_key found)
    (subst (IsPermutation (map key_fields (arranged t.chunks))) fields mixed)

-- the chunks with a number are found whatever their order
pub numbered-found : (n : ℕ) (found : List NumberedChunk) (t : Tables) → AreNumbered found (filter (has_number (pos n)) t.chunks)
    → AreAllNumbered n found (normal t)
numbered-found n found t is =
    let own = filter (has_number (pos n)) t.chunks in
    let fields : map numbered_fields (map placeless own) ≡ map read_numbered found =
    map-map numbered_fields placeless own ∙ sym is in
    let mixed : IsPermutation (map numbered_fields (arranged own)) (map numbered_fields (map placeless own)) =
    IsPermutation-map numbered_fields (arranged own) (map placeless own)
    (IsPermutation-sort_by chunk_cmp chunk_total (map placeless own)) in
    subst (λ (cs : List Chunk). IsPermutation (map read_numbered found) (map numbered_fields cs))
    (arranged-filter (has_number (pos n)) refl t.chunks)
    (IsPermutation-sym (map numbered_fields (arranged own)) (map read_numbered found)
    (subst (IsPermutation (map numbered_fields (arranged own))) fields mixed))
