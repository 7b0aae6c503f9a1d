-- Which places, and which staged uploads whose contents are being received, a step on the tables leaves.
use Rattle.placed.proofs.Prelude.{AreBeside, IsBeside, ◌≡◌, ◌≢◌, inl, inr, ℕ, ℤ, pos, Bool, true, false, not, cond, List, [], ◌∷◌, ◌++◌, filter, find, Option, Some, None, is_some, refl, sym, ap, ◌∙◌, subst, true≢false, arith, AllByRecursion, option_or, int_eq, and_parts, ints, find-append, IsAscending, all_weaker, all-filter, filter_all, ascending-filter, int_eq_apart, Lock, Token, Upload, Chunk, Tables, is_upload, is_staged, is_staged_with, is_of, is_of_from, with_lock, with_token, with_upload, with_done, without_lock, without_expired, without_row, without_chunks, without_chunks_from, Outcome, held, used_up, created, outcome_of, after_outcome, after_create, with_new_lock, with_made, has_token, after_add, upload_number, staged_with, without_upload, without_found_from, without_staged_from, with_used, with_kept, is_of_staged, Remains, Staged, is_place, others_of, same_int, OfOthers, AreOfOthers}
use Rattle.sqlite_keyed.specs.Lists.{update_where, delete_where}
use Rattle.sqlite_keyed.proofs.ListLemmas.{all_both}
use Rattle.placed.proofs.Lists.{filter_swap, filter_every, find_kept}

-- ---- places

-- these tables have some of the places of the others, in their order
abbrev pub HasSomePlaces : Tables → Tables → Type 0
HasSomePlaces t left = (q : Chunk → Bool) × (filter is_place left.chunks ≡ filter q (filter is_place t.chunks))

pub places-kept : (P : Chunk → Type 0) (t left : Tables) → HasSomePlaces t left
    → AllByRecursion P (filter is_place t.chunks) → AllByRecursion P (filter is_place left.chunks)
places-kept P t left some all =
    subst (AllByRecursion P) (sym some.1) (all-filter P some.0 (filter is_place t.chunks) all)

pub apart-kept : (R : Chunk → Chunk → Type 0) (t left : Tables) → HasSomePlaces t left
    → IsAscending R (filter is_place t.chunks) → IsAscending R (filter is_place left.chunks)
apart-kept R t left some apart =
    subst (IsAscending R) (sym some.1) (ascending-filter R some.0 (filter is_place t.chunks) apart)

-- what is received is beside these places too
pub beside-kept : (t left : Tables) → HasSomePlaces t left → (staged : List Staged)
    → AreBeside staged (filter is_place t.chunks) → AreBeside staged (filter is_place left.chunks)
beside-kept t left some = all_weaker (λ (s : Staged). AllByRecursion (IsBeside s) (filter is_place t.chunks))
    (λ s. AllByRecursion (IsBeside s) (filter is_place left.chunks)) (λ s. places-kept (IsBeside s) t left some)

-- these tables have all places of the others
pub every_place : (t left : Tables) → filter is_place left.chunks ≡ filter is_place t.chunks → HasSomePlaces t left
every_place t left same = ((λ c. true), same ∙ filter_every (filter is_place t.chunks))

-- these tables have some of the chunks of the others, in their order
abbrev pub HasSomeChunks : Tables → Tables → Type 0
HasSomeChunks t left = (q : Chunk → Bool) × (left.chunks ≡ filter q t.chunks)

-- so they have some of the places
pub places-of-chunks : (t left : Tables) → HasSomeChunks t left → HasSomePlaces t left
places-of-chunks t left some = (some.0, ap (filter is_place) some.1 ∙ filter_swap is_place some.0 t.chunks)

pub places-left : (P : Chunk → Type 0) (t left : Tables) → HasSomeChunks t left
    → AllByRecursion P (filter is_place t.chunks) → AllByRecursion P (filter is_place left.chunks)
places-left P t left some = places-kept P t left (places-of-chunks t left some)

pub every_chunk : (t : Tables) → HasSomeChunks t t
every_chunk t = ((λ c. true), filter_every t.chunks)

pub chunks-of-without-upload : (id : ℤ) (t : Tables) → HasSomeChunks t (without_upload id t)
unfolding without_upload without_row without_chunks
chunks-of-without-upload id t = ((λ c. not (is_of id c)), refl)

pub chunks-of-shortened : (id n : ℤ) (t : Tables) → HasSomeChunks t (without_staged_from id n t)
unfolding without_staged_from without_chunks_from
chunks-of-shortened id n t = at (staged_with id t)
  where
    at : (o : Option Upload) → HasSomeChunks t (without_found_from o n t)
    at None = every_chunk t
    at (Some u) = ((λ c. not (is_of_from u.id n c)), refl)

pub chunks-of-remains : (t left : Tables) → Remains t left → HasSomeChunks t left
chunks-of-remains t left (inl same) = ((λ c. true), ap (λ (u : Tables). u.chunks) same ∙ filter_every t.chunks)
chunks-of-remains t left (inr same) = ((λ c. not (is_of_staged t.uploads c)), ap (λ (u : Tables). u.chunks) same)

pub places-remain : (P : Chunk → Type 0) (u u' : Tables) → Remains u u' → AllByRecursion P (filter is_place u.chunks)
    → AllByRecursion P (filter is_place u'.chunks)
places-remain P u u' remains = places-left P u u' (chunks-of-remains u u' remains)

-- ---- steps on locks and tokens

-- the step leaves the uploads and the chunks
abbrev pub LeavesUploads : (Tables → Tables) → Type 0
LeavesUploads step = (t : Tables) → ((step t).uploads ≡ t.uploads) × ((step t).chunks ≡ t.chunks)

pub leaves-created : (l : Lock) → LeavesUploads (after_create l)
unfolding after_create with_new_lock with_made with_lock
leaves-created l t = at (outcome_of l t)
  where
    at : (o : Outcome) → ((after_outcome l o t).uploads ≡ t.uploads) × ((after_outcome l o t).chunks ≡ t.chunks)
    at (held other) = (refl, refl)
    at used_up = (refl, refl)
    at (created id) = (refl, refl)

pub leaves-added-token : (k : Token) → LeavesUploads (after_add k)
unfolding after_add with_token
leaves-added-token k t = at (has_token k.digest t)
  where
    at : (b : Bool)
        → ((cond b t (with_token k t)).uploads ≡ t.uploads) × ((cond b t (with_token k t)).chunks ≡ t.chunks)
    at true = (refl, refl)
    at false = (refl, refl)

pub leaves-unlocked : (repo : List ℕ) (id : ℤ) → LeavesUploads (without_lock repo id)
unfolding without_lock
leaves-unlocked repo id t = (refl, refl)

pub leaves-expired : (moment : ℤ) → LeavesUploads (without_expired moment)
unfolding without_expired
leaves-expired moment t = (refl, refl)

-- ---- contents that are being received

not_itself : (a b : ℤ) → not (int_eq a b) ≡ true → a ≢ b
not_itself a b other same = grind (arith, ints)

pub others-apart : (id : ℤ) (staged : List Staged) → AreOfOthers id (others_of id staged)
others-apart id [] = tt
others-apart id (s ∷ staged) = at (int_eq (upload_number s.id) id) refl (others-apart id staged)
  where
    at : (b : Bool) → int_eq (upload_number s.id) id ≡ b → AreOfOthers id (others_of id staged)
        → AreOfOthers id (cond (not b) (s ∷ others_of id staged) (others_of id staged))
    at true e rest = rest
    at false e rest = (not_itself (upload_number s.id) id (ap not e), rest)

-- those after a content are of other uploads than its own
pub others_turned : (e : Staged) (post : List Staged) → AllByRecursion (OfOthers e) post
    → AreOfOthers (upload_number e.id) post
others_turned e = all_weaker (OfOthers e) (λ (s : Staged). upload_number s.id ≢ upload_number e.id) (λ s other same. other (sym same))

pub others-all : (P : Staged → Type 0) (id : ℤ) (staged : List Staged) → AllByRecursion P staged
    → AllByRecursion P (others_of id staged)
others-all P id = all-filter P (λ s. not (int_eq (upload_number s.id) id))

pub others-same : (id : ℤ) (staged : List Staged) → AreOfOthers id staged → others_of id staged ≡ staged
others-same id staged other =
    filter_all (λ s. not (int_eq (upload_number s.id) id)) staged
    (all_weaker (λ (s : Staged). upload_number s.id ≢ id) (λ s. not (int_eq (upload_number s.id) id) ≡ true)
    (λ s apart. ap not (int_eq_apart (upload_number s.id) id apart)) staged other)

-- ---- uploads that are staged still

-- the upload of the content is a staged one of the tables
abbrev pub IsStagedIn : Tables → Staged → Type 0
IsStagedIn t s = is_some (find (is_staged_with (upload_number s.id)) t.uploads) ≡ true

staged_still : (id k : ℤ) (us : List Upload) → k ≢ id
    → find (is_staged_with k) (delete_where (is_upload id) us) ≡ find (is_staged_with k) us
staged_still id k us apart =
    find_kept (is_staged_with k) (λ u. not (is_upload id u))
    (λ u is.
    let own : u.id ≡ k = same_int u.id k (and_parts (is_upload k u) (is_staged u) is).0 in
    ap not (int_eq_apart u.id id (λ same. apart (sym own ∙ same)))) us

-- the others are staged in tables if each upload that is staged with another number is
others_staged : (id : ℤ) (t left : Tables) (staged : List Staged) → ((k : ℤ) → k ≢ id
    → is_some (find (is_staged_with k) t.uploads) ≡ true → is_some (find (is_staged_with k) left.uploads) ≡ true)
    → AllByRecursion (IsStagedIn t) staged → AllByRecursion (IsStagedIn left) (others_of id staged)
others_staged id t left staged still all =
    all_both (IsStagedIn t) (λ (s : Staged). upload_number s.id ≢ id) (IsStagedIn left)
    (λ s there apart. still (upload_number s.id) apart there)
    (others_of id staged) (others-all (IsStagedIn t) id staged all) (others-apart id staged)

pub staged-without-upload : (id : ℤ) (t : Tables) (staged : List Staged) → AllByRecursion (IsStagedIn t) staged
    → AllByRecursion (IsStagedIn (without_upload id t)) (others_of id staged)
unfolding without_upload without_row without_chunks
staged-without-upload id t staged =
    others_staged id t (without_upload id t) staged
    (λ k apart there. ap is_some (staged_still id k t.uploads apart) ∙ there)

staged_first : (k : ℤ) (u : Upload) (us : List Upload) → is_some (find (is_staged_with k) us) ≡ true
    → is_some (find (is_staged_with k) (us ++ u ∷ [])) ≡ true
staged_first k u us there =
    ap is_some (find-append (is_staged_with k) us (u ∷ [])) ∙ at (find (is_staged_with k) us) there
  where
    at : (o : Option Upload) → is_some o ≡ true → is_some (option_or o (find (is_staged_with k) (u ∷ []))) ≡ true
    at None e = absurd (true≢false (sym e))
    at (Some v) e = refl

pub staged_more : (u : Upload) (t : Tables) (staged : List Staged) → AllByRecursion (IsStagedIn t) staged
    → AllByRecursion (IsStagedIn (with_upload u t)) staged
unfolding with_upload
staged_more u t staged =
    all_weaker (IsStagedIn t) (IsStagedIn (with_upload u t)) (λ s. staged_first (upload_number s.id) u t.uploads) staged

-- ---- an upload that is completed

-- the row of an upload that is complete
abbrev completed : Upload → Upload
completed u = record u { done = pos 1 }

-- a staged upload with this number is there
abbrev has_staged : ℤ → List Upload → Bool
has_staged k us = is_some (find (is_staged_with k) us)

same_rest : (b : Bool) (u : Upload) (p q : Option Upload) → is_some p ≡ is_some q
    → is_some (cond b (Some u) p) ≡ is_some (cond b (Some u) q)
same_rest true u p q rest = refl
same_rest false u p q rest = rest

staged_unmarked : (id k : ℤ) (us : List Upload) → k ≢ id
    → has_staged k (update_where (is_upload id) completed us) ≡ has_staged k us
staged_unmarked id k [] apart = refl
staged_unmarked id k (u ∷ us) apart = at (is_upload id u) refl (staged_unmarked id k us apart)
  where
    other : is_upload id u ≡ true → is_upload k u ≡ false
    other is = int_eq_apart u.id k (λ same. apart (sym same ∙ same_int u.id id is))

    at : (b : Bool) → is_upload id u ≡ b → has_staged k (update_where (is_upload id) completed us) ≡ has_staged k us
        → has_staged k (cond b (completed u) u ∷ update_where (is_upload id) completed us) ≡ has_staged k (u ∷ us)
    at true is rest = rw (other is) rest
    at false is rest = same_rest (is_staged_with k u) u _ _ rest

pub staged-done : (u : Upload) (t : Tables) (staged : List Staged) → AllByRecursion (IsStagedIn t) staged
    → AreOfOthers u.id staged → AllByRecursion (IsStagedIn (with_kept u t)) staged
unfolding with_kept with_used with_done
staged-done u t staged all others =
    all_both (IsStagedIn t) (λ (s : Staged). upload_number s.id ≢ u.id) (IsStagedIn (with_kept u t))
    (λ s there apart. staged_unmarked u.id (upload_number s.id) t.uploads apart ∙ there) staged all others
