-- An upload whose content is in the file is completed: a row that says where it is takes the place of what was received.
use Rattle.placed.proofs.Prelude.{AreBeside, IsBeside, not, suc, take, drop, ◌≡◌, ◌≢◌, ◌≤◌, ◌*◌, ◌<◌, ◌^◌, inl, inr, ℕ, ℤ, pos, Bool, true, false, cond, List, [], ◌∷◌, ◌++◌, length, find, Option, Some, None, option_map, is_some, refl, sym, ap, subst, ◌∙◌, arith, append-nil, true≢false, AllByRecursion, filter-append, none-some, same_Some, ints, int_eq, next_key, all_weaker, all-append, ascending-append, IsAscending, HasContent, HasWritten, Chunk, Upload, Tables, is_object, is_staged_with, with_chunk, with_done, upload_number, asked_chunk, staged_with, with_used, with_bytes, with_last, with_kept, completion_by, completion_of, after_completion, after_found, after_complete, LastChunk, Completion, Ghosts, placeless, arranged, normal, Placed, Staged, piece_size, pieces, place_number, is_place, place_of, region_in, view, others_of, pieces_in, pieces_at, received_pieces, AreSeparate, AreStagedApart, IsStagedIn, IsPlace, HasSinglePlaces, ArePlacesApart, places_in, staged_of, IsPlaced, AreOfOthers}
use Rattle.std.proofs.Common.{if◌then◌else◌, ◌⊎◌}
use Rattle.sqlite_disk.specs.declared.Disk as disk
use Rattle.tables.specs.Staging.{is_as_begun}
use Rattle.tables.specs.declared.rows.Completion.TheVariants as completion
use Rattle.sqlite_keyed.proofs.ListLemmas.{all_both}
use Rattle.placed.proofs.Arranged.{arranged-filter}
use Rattle.placed.proofs.Bytes.{content_is, written_is, place_means}
use Rattle.placed.proofs.Cutting.{pieces_push}
use Rattle.placed.proofs.Ordered.{all_arranged, related_arranged}
use Rattle.placed.proofs.Tracked.{staged-done, others-same, others_turned}
use Rattle.placed.proofs.Written.{WritesPast, unchanged, received_at, still_received, turned_around, still_placed, once_here, same_places, same_before, same_after}
use Rattle.placed.proofs.Views.{view-of-normal, view-completed, last_of, found_id}
use Rattle.placed.proofs.Lists.{ascending_middle}
use Rattle.placed.proofs.Keeping.{AreAway}

-- ---- the step

places_turned : (a b : Chunk) → ArePlacesApart a b → ArePlacesApart b a
places_turned a b apart r q means other = turned_around q r (apart q r other means)

module _ (t : Tables) (u : Upload) (bytes : List ℕ) where
  -- the row of the place, with a rowid
  abbrev row : ℤ → Chunk
  row rowid = record (asked_chunk u.id place_number bytes) { rowid = rowid }

  abbrev next : ℤ
  next = next_key (λ (x : Chunk). x.rowid) t.chunks

  -- the tables with the place, and the upload complete
  abbrev pub with_place : Tables
  with_place = normal (with_kept u (with_chunk (asked_chunk u.id place_number bytes) t))

  places_are : places_in with_place ≡ arranged (places_in t ++ row next ∷ [])
  unfolding with_kept with_used with_done with_chunk
  places_are = sym (arranged-filter is_place refl (t.chunks ++ row next ∷ [])) ∙ ap arranged (filter-append is_place t.chunks (row next ∷ []))

  -- the places are those of before and the new one
  pub places_and : (P : Chunk → Type 0) → ((c : Chunk) → P c → P (placeless c)) → P (row (pos 0))
      → AllByRecursion P (places_in t) → AllByRecursion P (places_in with_place)
  places_and P aside here all =
      subst (AllByRecursion P) (sym places_are)
      (all_arranged P (places_in t ++ row next ∷ [])
      (all-append (λ c. P (placeless c)) (places_in t) (row next ∷ []) (all_weaker P (λ c. P (placeless c)) aside (places_in t) all) (here, tt)))

  pub single_and : AllByRecursion (λ (c : Chunk). c.upload ≢ u.id) (places_in t) → HasSinglePlaces t
      → HasSinglePlaces with_place
  single_and others single =
      subst (IsAscending (λ (a b : Chunk). a.upload ≢ b.upload)) (sym places_are)
      (related_arranged (λ (a b : Chunk). a.upload ≢ b.upload) (λ a b other same. other (sym same)) (λ a b other. other)
      (places_in t ++ row next ∷ [])
      (ascending-append (λ (a b : Chunk). a.upload ≢ b.upload) (places_in t) (row next ∷ []) single (tt, tt)
      (all_weaker (λ (c : Chunk). c.upload ≢ u.id) (λ c. AllByRecursion (λ (b : Chunk). c.upload ≢ b.upload) (row next ∷ []))
      (λ c other. (other, tt)) (places_in t) others)))

  pub separate_and : AllByRecursion (λ (c : Chunk). ArePlacesApart c (row next)) (places_in t)
      → IsAscending ArePlacesApart (places_in t) → IsAscending ArePlacesApart (places_in with_place)
  separate_and others separate =
      subst (IsAscending ArePlacesApart) (sym places_are)
      (related_arranged ArePlacesApart places_turned (λ a b apart. apart) (places_in t ++ row next ∷ [])
      (ascending-append ArePlacesApart (places_in t) (row next ∷ []) separate (tt, tt)
      (all_weaker (λ (c : Chunk). ArePlacesApart c (row next)) (λ c. AllByRecursion (ArePlacesApart c) (row next ∷ []))
      (λ c apart. (apart, tt)) (places_in t) others)))

  pub staged_and : (staged : List Staged) → AllByRecursion (IsStagedIn t) staged → AreOfOthers u.id staged
      → AllByRecursion (IsStagedIn with_place) staged
  unfolding with_chunk
  staged_and staged all others = staged-done u (with_chunk (asked_chunk u.id place_number bytes) t) staged all others

-- ---- which step was made

-- the upload that is completed
pub record IsNew (id : ℤ) (oid : List ℕ) (size : ℤ) (t : Tables) : Type 0 where
  pub upload : Upload
  pub found : staged_with id t ≡ Some upload
  pub is : completion_by oid size upload t ≡ completion.New

-- the upload is complete
abbrev pub is_kept : Completion → Bool
is_kept completion.New = true
is_kept completion.Differs = false
is_kept completion.Already = false

module _ (id : ℤ) (last : LastChunk) (oid : List ℕ) (size : ℤ) (t : Tables) where
  unchanged_in : (l : LastChunk) (u : Upload) (v : Tables) (c : Completion) → (c ≡ completion.New → ⊥)
      → after_completion c l u v ≡ v
  unchanged_in l u v completion.Differs other = refl
  unchanged_in l u v completion.Already other = refl
  unchanged_in l u v completion.New other = absurd (other refl)

  is_new : (c : Completion) → (c ≡ completion.New) ⊎ (c ≡ completion.New → ⊥)
  is_new completion.New = inl refl
  is_new completion.Differs = inr (λ same. true≢false (sym (ap is_kept same)))
  is_new completion.Already = inr (λ same. true≢false (sym (ap is_kept same)))

  -- what completing it would say, if the repositories have these uploads
  abbrev by_uploads : Upload → List Upload → Completion
  by_uploads u us =
      if is_as_begun oid size u then if is_some
      (find (is_object u.repo u.oid) us) then completion.Already else completion.New else completion.Differs

  -- tables with the same uploads do not change, whatever the last chunk is
  abbrev pub StaysAll : Type 0
  StaysAll = (l : LastChunk) (v : Tables) → v.uploads ≡ t.uploads → after_complete id l oid size v ≡ v

  -- the upload is completed, or nothing changes
  pub cases : IsNew id oid size t ⊎ StaysAll
  unfolding after_complete
  cases = at (staged_with id t) refl
    where
      at : (o : Option Upload) → staged_with id t ≡ o → IsNew id oid size t ⊎ StaysAll
      at None is = inr (λ l v same. ap (λ us. after_found (find (is_staged_with id) us) l oid size v) same ∙ ap (λ o. after_found o l oid size v) is)
      at (Some u) is = elim (is_new (completion_by oid size u t)) [
        | inl new ↦ inl (record { upload = u; found = is; is = new })
        | inr other ↦ inr (λ l v same.
            ap (λ us. after_found (find (is_staged_with id) us) l oid size v) same ∙ ap (λ o. after_found o l oid size v) is
            ∙ ap (λ us. after_completion (by_uploads u us) l u v) same ∙ unchanged_in l u v (completion_by oid size u t) other)
      ]

  -- the tables in which it is complete
  pub new_tables : (new : IsNew id oid size t)
      → after_complete id last oid size t ≡ with_kept new.upload (with_bytes new.upload.id last.n last.bytes.items t)
  unfolding after_complete with_last
  new_tables new = ap (λ o. after_found o last oid size t) new.found ∙ ap (λ c. after_completion c last new.upload t) new.is

  -- what the call said
  pub said : (c : Completion) → completion_of id oid size t ≡ Some c → (c ≡ completion.New) → IsNew id oid size t
  said c is new = at (staged_with id t) refl is
    where
      at : (o : Option Upload) → staged_with id t ≡ o → option_map (λ u. completion_by oid size u t) o ≡ Some c
          → IsNew id oid size t
      at None found is = absurd (none-some c is)
      at (Some u) found is = record { upload = u; found = found; is = same_Some (completion_by oid size u t) c is ∙ new }

  pub said_other : (c : Completion) → completion_of id oid size t ≡ Some c → (c ≡ completion.New → ⊥)
      → after_complete id last oid size t ≡ t
  unfolding after_complete
  said_other c is other = at (staged_with id t) is
    where
      at : (o : Option Upload) → option_map (λ u. completion_by oid size u t) o ≡ Some c
          → after_found o last oid size t ≡ t
      at None is = refl
      at (Some u) is = unchanged_in last u t (completion_by oid size u t) (λ new. other (sym (same_Some (completion_by oid size u t) c is) ∙ new))

-- the list without the content of an upload
pub without_one : (id : ℤ) (pre post : List Staged) (e : Staged) → upload_number e.id ≡ id → AreOfOthers id pre
    → AreOfOthers id post → others_of id (pre ++ e ∷ post) ≡ pre ++ post
without_one id pre post e own before after =
    filter-append (λ s. not (int_eq (upload_number s.id) id)) pre (e ∷ post)
    ∙ ap (λ l. l ++ others_of id (e ∷ post)) (others-same id pre before)
    ∙ ap (λ b. pre ++ cond (not b) (e ∷ others_of id post) (others_of id post)) (same_eq (upload_number e.id) id own)
    ∙ ap (λ l. pre ++ l) (others-same id post after)
  where
    same_eq : (a b : ℤ) → a ≡ b → int_eq a b ≡ true
    same_eq a b same = grind (arith, ints)

-- ---- the content at its place

-- the last bytes of a content complete it in its region, and this is the row of its place
pub record Completes {D : Type 0} (d : disk.Ghosts D) (disk file : D) (e : Staged) (id : ℤ) (last place : LastChunk) : Type 0 where
  pub own : upload_number e.id ≡ id
  pub number : place.n ≡ place_number
  pub means : place.bytes.items ≡ place_of e.draft.region
  pub small : e.draft.region.start < 2 ^ 64
  pub small_size : e.draft.region.size < 2 ^ 64
  pub counted : e.draft.written ≡ last.n * piece_size
  pub short : length last.bytes.items ≤ piece_size
  pub content : (bytes : List ℕ) → HasWritten (d.seen disk) e.draft bytes
      → HasContent (d.seen file) e.draft.region (bytes ++ last.bytes.items)
  pub stop : (bytes : List ℕ) → HasWritten (d.seen disk) e.draft bytes → (left : List ℕ) → d.may_leave file left
      → HasContent left e.draft.region (bytes ++ last.bytes.items)

pub completes : {D : Type 0} (d : disk.Ghosts D) (disk file : D) (e : Staged) (id : ℤ) (last place : LastChunk)
    → upload_number e.id ≡ id → place.n ≡ place_number → place.bytes.items ≡ place_of e.draft.region
    → e.draft.region.start < 2 ^ 64 → e.draft.region.size < 2 ^ 64 → e.draft.written ≡ last.n * piece_size
    → length last.bytes.items ≤ piece_size
    → ((bytes : List ℕ) → HasWritten (d.seen disk) e.draft bytes
    → HasContent (d.seen file) e.draft.region (bytes ++ last.bytes.items))
    → ((bytes : List ℕ) → HasWritten (d.seen disk) e.draft bytes → (left : List ℕ) → d.may_leave file left
    → HasContent left e.draft.region (bytes ++ last.bytes.items))
    → Completes d disk file e id last place
completes d disk file e id last place own number means small small_size counted short content stop =
    record {
      own = own;
      number = number;
      means = means;
      small = small;
      small_size = small_size;
      counted = counted;
      short = short;
      content = content;
      stop = stop;
    }

module _ {T D : Type 0} (g : Ghosts T) (d : disk.Ghosts D) (old : Placed T D) {file : D} {index : ℕ} {e : Staged}
    (w : WritesPast d (staged_of old) old.disk file index e) where
  abbrev pre : List Staged
  pre = take index (staged_of old)

  abbrev post : List Staged
  post = drop (suc index) (staged_of old)

  -- the store with the file that was written, and all else as before
  pub beside_file : IsPlaced g d old → IsPlaced g d (record old { disk = file })
  beside_file before = still_placed g d old old.staged (unchanged g d old w) before (still_received g d old w before)

  pub others_around : IsPlaced g d old → AreOfOthers (upload_number e.id) pre × AreOfOthers (upload_number e.id) post
  others_around before = let it = once_here g d old old.staged (unchanged g d old w) before in (it.0, others_turned e post it.1)

  pub separate_around : IsPlaced g d old → AllByRecursion
      (λ (x : Staged). AreSeparate x.draft.region e.draft.region) pre × AllByRecursion
      (λ (x : Staged). AreSeparate x.draft.region e.draft.region) post
  separate_around before =
      let it = ascending_middle AreStagedApart pre post e (subst (IsAscending AreStagedApart) (unchanged g d old w).was before.received.apart) in (
        it.0,
        all_weaker (AreStagedApart e) (λ x. AreSeparate x.draft.region e.draft.region)
            (λ x apart. turned_around e.draft.region x.draft.region apart) post it.1,
      )

  module _ {id : ℤ} {last place : LastChunk} (ends : Completes d old.disk file e id last place) (oid : List ℕ)
      (size : ℤ) where
    -- the row of the place
    abbrev new_row : ℤ → Chunk
    new_row upload = asked_chunk upload place_number place.bytes.items

    region_is : region_in place.bytes.items ≡ Some e.draft.region
    region_is = ap region_in ends.means ∙ place_means e.draft.region ends.small ends.small_size

    -- it is a place beside contents that are apart from it
    pub place_there : IsPlaced g d old → (staged : List Staged) → AreAway e.draft.region staged → (upload : ℤ)
        → IsPlace d file old.regions staged (new_row upload)
    place_there before staged apart upload = let r = received_at g d old w before in record {
      region = e.draft.region;
      means = region_is;
      kept = record { content = r.bytes ++ last.bytes.items; seen = ends.content r.bytes r.written; left = ends.stop r.bytes r.written };
      used = r.used;
      apart = apart;
      some = r.some;
    }

    -- it is apart from each place from which the content was
    pub place_separate : (t : Tables) (u : Upload) → AllByRecursion (IsBeside e) (places_in t)
        → IsAscending ArePlacesApart (places_in t)
        → IsAscending ArePlacesApart (places_in (with_place t u place.bytes.items))
    place_separate t u near = separate_and t u place.bytes.items
        (all_weaker (IsBeside e) (λ (c : Chunk). ArePlacesApart c (row t u place.bytes.items (next t u place.bytes.items)))
        (λ c apart r q means other.
        subst (AreSeparate r) (same_Some e.draft.region q (sym region_is ∙ other)) (turned_around e.draft.region r (apart r means)))
        (places_in t) near)

    -- contents that are apart from it, beside it and the other places
    pub contents_beside : (t : Tables) (u : Upload) (xs : List Staged)
        → AllByRecursion (λ (x : Staged). AreSeparate x.draft.region e.draft.region) xs → AreBeside xs (places_in t)
        → AreBeside xs (places_in (with_place t u place.bytes.items))
    contents_beside t u = all_both (λ (x : Staged). AreSeparate x.draft.region e.draft.region)
        (λ (x : Staged). AllByRecursion (IsBeside x) (places_in t))
        (λ (x : Staged). AllByRecursion (IsBeside x) (places_in (with_place t u place.bytes.items)))
        (λ x apart all. places_and t u place.bytes.items (IsBeside x) (λ c near. near)
        (λ r means. subst (AreSeparate x.draft.region) (same_Some e.draft.region r (sym region_is ∙ means)) apart) all)

    -- what it shows
    whole : IsPlaced g d old → (upload : ℤ) → upload ≡ id → pieces_at (d.seen file) (new_row upload)
        ≡ received_pieces (d.seen old.disk) e ++ last_of upload last.n last.bytes.items
    whole before upload same =
        let r = received_at g d old w before in
        ap (pieces_in (d.seen file) (new_row upload)) region_is
        ∙ ap (pieces upload) (content_is (d.seen file) e.draft.region (r.bytes ++ last.bytes.items) (ends.content r.bytes r.written))
        ∙ joined upload r.bytes last.bytes.items (r.written.size ∙ ends.counted) ends.short
        ∙ ap (λ l. l ++ last_of upload last.n last.bytes.items)
        (ap (λ k. pieces k r.bytes) (same ∙ sym ends.own)
        ∙ sym (ap (pieces (upload_number e.id)) (written_is (d.seen old.disk) e.draft r.bytes r.written)))
      where
        joined : (k : ℤ) (bytes more : List ℕ) → length bytes ≡ last.n * piece_size → length more ≤ piece_size
            → pieces k (bytes ++ more) ≡ pieces k bytes ++ last_of k last.n more
        joined k bytes [] is less = ap (pieces k) (append-nil bytes) ∙ sym (append-nil (pieces k bytes))
        joined k bytes (byte ∷ more) is less = pieces_push k last.n bytes (byte ∷ more) is (omega arith) less

    -- the step of the database, and of both
    abbrev step : Tables → Tables
    step t = normal (after_complete id place oid size t)

    abbrev after : Tables → Tables
    after t = normal (after_complete id last oid size t)

    -- the tables of the database are those with the place
    pub step_new : (t : Tables) (new : IsNew id oid size t) → step t ≡ with_place t new.upload place.bytes.items
    step_new t new =
        ap normal
        (new_tables id place oid size t new ∙ ap
        (λ n. with_kept new.upload (with_bytes new.upload.id n place.bytes.items t)) ends.number
        ∙ some place.bytes.items (ap length ends.means))
      where
        some : (bytes : List ℕ) → length bytes ≡ 16
            → with_kept new.upload (with_bytes new.upload.id place_number bytes t)
            ≡ with_kept new.upload (with_chunk (asked_chunk new.upload.id place_number bytes) t)
        some [] none = absurd (omega (arith, none))
        some (byte ∷ bytes) is = refl

    -- both show the content in place of what was received
    pub shows_new : IsPlaced g d old → (t : Tables)
        → AllByRecursion (IsPlace d old.disk old.regions (staged_of old)) (places_in t) → (new : IsNew id oid size t)
        → view (d.seen file) (pre ++ post) (step t) ≡ after (view (d.seen old.disk) (staged_of old) t)
    unfolding view
    shows_new before t places new =
        let u = new.upload in
        let same = found_id id t u new.found in
        let seen_new : IsNew id oid size (view (d.seen old.disk) (staged_of old) t) = record { upload = u; found = new.found; is = new.is } in
        let around = others_around before in
        ap (view (d.seen file) (pre ++ post)) (step_new t new)
        ∙ view-of-normal (d.seen file) (pre ++ post) (with_kept u (with_chunk (asked_chunk u.id place_number place.bytes.items) t))
        ∙ view-completed (d.seen old.disk) (d.seen file) pre post t e u last.n last.bytes.items place.bytes.items (same ∙ sym ends.own)
        (same_places g d old old.staged (unchanged g d old w) before _ places)
        (same_before g d old old.staged (unchanged g d old w) before) (same_after g d old old.staged (unchanged g d old w) before)
        (whole before u.id same) around.0 around.1
        ∙ ap (λ xs. normal (with_kept u (with_bytes u.id last.n last.bytes.items (view (d.seen old.disk) xs t)))) (sym (unchanged g d old w).was)
        ∙ sym (ap normal (new_tables id last oid size (view (d.seen old.disk) (staged_of old) t) seen_new))
