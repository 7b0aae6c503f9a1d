-- What a store remembers of staged uploads stays true.
use Rattle.tables.proofs.Prelude.{◌≡◌, ℕ, ℤ, pos, Bool, true, false, cond, not, List, [], ◌∷◌, Some, None, Option, refl, sym, ap, subst, ◌∙◌, true≢false, AllByRecursion, int_eq, int_cmp, Ordering, Less, Equal, Greater, NewUpload, Vec, update_where, delete_where, all-filter, all_map, all_weaker, Remembered, LastChunk, Token, Upload, Chunk, Lock, Tables, is_upload, Outcome, held, used_up, outcome_of, after_outcome, has_token, without_found, without_found_from, with_bytes, completion_by, after_completion, after_found, Completion, IsRemembered}
use Rattle.tables.specs.Statements.{with_chunk, without_lock, without_expired, with_lock, with_token, with_counts, with_retired, without_row, without_chunks, without_chunks_from, with_done}
use Rattle.tables.specs.Steps.{created, after_create, with_made, with_new_lock, after_add}
use Rattle.tables.specs.Staging.{without_upload, without_staged, without_staged_from, staged_with, with_used, with_last, with_kept, after_complete}
use Rattle.tables.specs.declared.rows.Completion.TheVariants as completion
use Rattle.std.specs.Ordering.{match_ordering}
use Rattle.sqlite_keyed.specs.Keyed.{insert_by}
use Rattle.tables.specs.declared.new_rows.NewChunk.{NewChunk}
use Rattle.tables.specs.Restoring.{restored_upload, with_upload_at, with_new_chunk, with_restored}
use Rattle.tables.specs.Remembered.{KnowsStaged}

-- the step keeps what is remembered true
abbrev pub KeepsKnown : (Tables → Tables) → Type 0
KeepsKnown step = (known : Option (Vec Remembered)) (t : Tables) → KnowsStaged known t.uploads → KnowsStaged known (step t).uploads

-- a step that leaves the uploads
pub leaves_uploads : (step : Tables → Tables) → ((t : Tables) → (step t).uploads ≡ t.uploads) → KeepsKnown step
leaves_uploads step same known t h = subst (KnowsStaged known) (sym (same t)) h

-- ---- steps on locks, tokens and chunks

outcome_leaves : (l : Lock) (o : Outcome) (t : Tables) → (after_outcome l o t).uploads ≡ t.uploads
unfolding with_new_lock with_made with_lock
outcome_leaves l (held other) t = refl
outcome_leaves l used_up t = refl
outcome_leaves l (created id) t = refl

pub create_keeps : (l : Lock) → KeepsKnown (after_create l)
unfolding after_create
create_keeps l = leaves_uploads (after_create l) (λ t. outcome_leaves l (outcome_of l t) t)

pub release_keeps : (repo : List ℕ) (id : ℤ) → KeepsKnown (without_lock repo id)
unfolding without_lock
release_keeps repo id = leaves_uploads (without_lock repo id) (λ t. refl)

add_leaves : (k : Token) (t : Tables) (there : Bool) → (cond there t (with_token k t)).uploads ≡ t.uploads
unfolding with_token
add_leaves k t true = refl
add_leaves k t false = refl

pub add_keeps : (k : Token) → KeepsKnown (after_add k)
unfolding after_add
add_keeps k = leaves_uploads (after_add k) (λ t. add_leaves k t (has_token k.digest t))

pub prune_keeps : (moment : ℤ) → KeepsKnown (without_expired moment)
unfolding without_expired
prune_keeps moment = leaves_uploads (without_expired moment) (λ t. refl)

pub counts_keep : (name : List ℕ) (made used : ℤ) → KeepsKnown (with_counts name made used)
unfolding with_counts
counts_keep name made used = leaves_uploads (with_counts name made used) (λ t. refl)

pub lock_keeps : (l : Lock) → KeepsKnown (with_lock l)
unfolding with_lock
lock_keeps l = leaves_uploads (with_lock l) (λ t. refl)

pub retired_keeps : (repo oid : List ℕ) → KeepsKnown (with_retired repo oid)
unfolding with_retired
retired_keeps repo oid = leaves_uploads (with_retired repo oid) (λ t. refl)

pub chunk_keeps : (c : Chunk) → KeepsKnown (with_chunk c)
unfolding with_chunk
chunk_keeps c = leaves_uploads (with_chunk c) (λ t. refl)

-- ---- steps on uploads

-- some uploads are removed
fewer_known : (known : Option (Vec Remembered)) (p : Upload → Bool) (us : List Upload) → KnowsStaged known us → KnowsStaged known (delete_where p us)
unfolding KnowsStaged
fewer_known None p us h = tt
fewer_known (Some known) p us h = all-filter (IsRemembered known.items) (λ u. not (p u)) us h

-- some uploads are complete
done_known : (known : Option (Vec Remembered)) (p : Upload → Bool) (us : List Upload) → KnowsStaged known us → KnowsStaged known (update_where p (λ u. record u { done = pos 1 }) us)
unfolding KnowsStaged
done_known None p us h = tt
done_known (Some known) p us h =
    let step : Upload → Upload = λ u. cond (p u) (record u { done = pos 1 }) u in
    all_map (IsRemembered known.items) step us (all_weaker (IsRemembered known.items) (λ u. IsRemembered known.items (step u)) (λ u was. go u (p u) was) us h)
  where
    go : (u : Upload) (b : Bool) → IsRemembered known.items u → IsRemembered known.items (cond b (record u { done = pos 1 }) u)
    go u true was is = absurd (let e : false ≡ true = is in cc)
    go u false was is = was is

pub upload_keeps : (id : ℤ) → KeepsKnown (without_upload id)
unfolding without_upload without_row without_chunks
upload_keeps id known t h = fewer_known known (is_upload id) t.uploads h

pub found_keeps : (u : Option Upload) → KeepsKnown (without_found u)
found_keeps None known t h = h
found_keeps (Some u) known t h = upload_keeps u.id known t h

pub abandon_keeps : (id : ℤ) → KeepsKnown (without_staged id)
unfolding without_staged
abandon_keeps id known t h = found_keeps (staged_with id t) known t h

found_leave : (u : Option Upload) (n : ℤ) (t : Tables) → (without_found_from u n t).uploads ≡ t.uploads
unfolding without_chunks_from
found_leave None n t = refl
found_leave (Some u) n t = refl

pub shorten_keeps : (id n : ℤ) → KeepsKnown (without_staged_from id n)
unfolding without_staged_from
shorten_keeps id n = leaves_uploads (without_staged_from id n) (λ t. found_leave (staged_with id t) n t)

bytes_leave : (id : ℤ) (n : ℕ) (bytes : List ℕ) (t : Tables) → (with_bytes id n bytes t).uploads ≡ t.uploads
unfolding with_chunk
bytes_leave id n [] t = refl
bytes_leave id n (byte ∷ bytes) t = refl

last_keeps : (id : ℤ) (last : LastChunk) → KeepsKnown (with_last id last)
unfolding with_last
last_keeps id last = leaves_uploads (with_last id last) (λ t. bytes_leave id last.n last.bytes.items t)

kept_keeps : (u : Upload) → KeepsKnown (with_kept u)
unfolding with_kept with_used with_done
kept_keeps u known t h = done_known known (is_upload u.id) t.uploads h

completion_keeps : (c : Completion) (last : LastChunk) (u : Upload) → KeepsKnown (after_completion c last u)
completion_keeps completion.Differs last u known t h = h
completion_keeps completion.Already last u known t h = h
completion_keeps completion.New last u known t h = kept_keeps u known (with_last u.id last t) (last_keeps u.id last known t h)

complete_found : (u : Option Upload) (last : LastChunk) (oid : List ℕ) (size : ℤ) → KeepsKnown (after_found u last oid size)
complete_found None last oid size known t h = h
complete_found (Some u) last oid size known t h = completion_keeps (completion_by oid size u t) last u known t h

pub complete_keeps : (id : ℤ) (last : LastChunk) (oid : List ℕ) (size : ℤ) → KeepsKnown (after_complete id last oid size)
unfolding after_complete
complete_keeps id last oid size known t h = complete_found (staged_with id t) last oid size known t h

-- an upload is added, and may take the place of one
all_placed : (P : Upload → Type 0) (u : Upload) (us : List Upload) → P u → AllByRecursion P us → AllByRecursion P (insert_by (λ (x : Upload). x.id) us u)
all_placed P u [] here all = (here, tt)
all_placed P u (x ∷ us) here all = at (int_cmp x.id u.id) (all_placed P u us here all.1)
  where
    at : (o : Ordering) → AllByRecursion P (insert_by (λ (y : Upload). y.id) us u) → AllByRecursion P (match_ordering o (x ∷ insert_by (λ (y : Upload). y.id) us u) (u ∷ us) (u ∷ x ∷ us))
    at Less rest = (all.0, rest)
    at Equal rest = (here, all.1)
    at Greater rest = (here, all)

object_known : (known : Option (Vec Remembered)) (u : Upload) (us : List Upload) → u.done ≡ pos 1 → KnowsStaged known us → KnowsStaged known (insert_by (λ (x : Upload). x.id) us u)
unfolding KnowsStaged
object_known None u us done h = tt
object_known (Some known) u us done h =
    all_placed (IsRemembered known.items) u us (λ staged. absurd (true≢false (sym staged ∙ ap (λ n. int_eq n (pos 0)) done))) h

new_leave : (id : ℤ) (chunk : Option NewChunk) (t : Tables) → (with_new_chunk id chunk t).uploads ≡ t.uploads
unfolding with_chunk
new_leave id None t = refl
new_leave id (Some c) t = refl

pub restore_keeps : (u : NewUpload) (id : ℤ) (chunk : Option NewChunk) → KeepsKnown (with_restored u id chunk)
unfolding with_restored with_upload_at
restore_keeps u id chunk known t h =
    leaves_uploads (with_new_chunk id chunk) (new_leave id chunk) known (with_upload_at (restored_upload u id) t) (object_known known (restored_upload u id) t.uploads refl h)
