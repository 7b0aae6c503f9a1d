-- The staged uploads whose chunks are in rows are removed, one after another; and what is shown then, for proofs in other crates.
use Rattle.placed.proofs.Prelude.{◌≡◌, inl, inr, ℕ, ℤ, Bool, List, [], ◌∷◌, ◌++◌, ◌+◌, ◌<◌, length, take, slice_index_or, map, filter, Option, Some, None, refl, sym, ap, subst, ◌∙◌, AllByRecursion, IsAscending, moves_none, Upload, Chunk, Tables, is_place, is_staged, staged_with, settled, Remains, Ghosts, IsHonest, IsOpen, HasTables, Leaves, shown, Moves, AddsNothing, Makes, Reads, Ok, upload_number, int_eq, UploadId, UploadRow, Vec, view, without_found, without_staged}
use Rattle.std.specs.Prelude.{◌⊎◌, ◌||◌}
use Rattle.std.specs.List.{list_any}
use Rattle.sqlite_keyed.proofs.ListLemmas.{filter_same, map-map}
use Rattle.std.proofs.lemmas.List.{map_more}
use Rattle.std.proofs.lemmas.List.Sorted.{list_any-IsPermutation}
use Rattle.tables.specs.Listing.{KeyFields, key_fields, read_key}
use Rattle.tables.specs.declared.rows.ChunkKey.{ChunkKey}
use Rattle.tables.specs.Staging.{AreUploadsOf, UploadFields, read_upload, upload_fields}
use Rattle.store.specs.Content.{AreAllKeys}
use Rattle.store.specs.Shown.{Fails}
use Rattle.store.proofs.Moved.{nothing_none}
use Rattle.placed.specs.Opening.{ClearsSome, LacksStaged, LeavesCleared, ShowsCleared, chunked_ids, cleared, has_chunk, has_key, staged_ids, without_all}
use Rattle.placed.proofs.Tracked.{HasSomeChunks, apart-kept, chunks-of-without-upload, every_chunk, places-left, places-of-chunks}
use Rattle.placed.proofs.Settled.{settled_viewed}
use Rattle.placed.proofs.Unstaged.{settled_cleared}
use Rattle.placed.proofs.Views.{view-without}

-- ---- tables that lack staged uploads

without_append : (ids more : List ℤ) (t : Tables) → without_all (ids ++ more) t ≡ without_all more (without_all ids t)
without_append [] more t = refl
without_append (id ∷ ids) more t = without_append ids more (without_staged id t)

lacks_nothing : (t : Tables) → LacksStaged t t
lacks_nothing t = ([], refl)

lacks_step : (id : ℤ) (t : Tables) → LacksStaged t (without_staged id t)
lacks_step id t = (id ∷ [], refl)

lacks_then : (t u v : Tables) → LacksStaged t u → LacksStaged u v → LacksStaged t v
lacks_then t u v one two =
    (one.0 ++ two.0, two.1 ∙ ap (without_all two.0) one.1 ∙ sym (without_append one.0 two.0 t))

-- ---- their places

some_chunks : (id : ℤ) (t : Tables) → HasSomeChunks t (without_staged id t)
unfolding without_staged
some_chunks id t = at (staged_with id t)
  where
    at : (o : Option Upload) → HasSomeChunks t (without_found o t)
    at None = every_chunk t
    at (Some u) = chunks-of-without-upload u.id t

pub places_without : (P : Chunk → Type 0) (ids : List ℤ) (t : Tables) → AllByRecursion P (filter is_place t.chunks)
    → AllByRecursion P (filter is_place (without_all ids t).chunks)
places_without P [] t all = all
places_without P (id ∷ ids) t all =
    places_without P ids (without_staged id t) (places-left P t (without_staged id t) (some_chunks id t) all)

pub apart_without : (R : Chunk → Chunk → Type 0) (ids : List ℤ) (t : Tables) → IsAscending R (filter is_place t.chunks)
    → IsAscending R (filter is_place (without_all ids t).chunks)
apart_without R [] t apart = apart
apart_without R (id ∷ ids) t apart =
    apart_without R ids (without_staged id t)
    (apart-kept R t (without_staged id t) (places-of-chunks t (without_staged id t) (some_chunks id t)) apart)

-- ---- what they show with a file

view_step : (file : List ℕ) (id : ℤ) (t : Tables)
    → view file [] (without_staged id t) ≡ without_staged id (view file [] t)
unfolding view without_staged
view_step file id t = at (staged_with id t)
  where
    at : (o : Option Upload) → view file [] (without_found o t) ≡ without_found o (view file [] t)
    at None = refl
    at (Some u) = view-without file [] t u.id

pub view_all : (file : List ℕ) (ids : List ℤ) (t : Tables)
    → view file [] (without_all ids t) ≡ without_all ids (view file [] t)
view_all file [] t = refl
view_all file (id ∷ ids) t = view_all file ids (without_staged id t) ∙ ap (without_all ids) (view_step file id t)

-- tables without the staged uploads whose chunks are in rows show no chunks of staged uploads
pub cleared_settled : (file : List ℕ) (t : Tables) → settled (view file [] (cleared t)) ≡ view file [] (cleared t)
cleared_settled file t = settled_viewed file (cleared t) (settled_cleared t)

-- ---- the uploads that a call read

pub read_staged : (rows : List UploadRow) (us : List Upload) → AreUploadsOf rows (filter is_staged us)
    → map (λ (row : UploadRow). upload_number row.id) rows ≡ staged_ids us
read_staged rows us is =
    sym (map-map (λ (f : UploadFields). f.id) read_upload rows)
    ∙ ap (map (λ (f : UploadFields). f.id)) is
    ∙ map-map (λ (f : UploadFields). f.id) upload_fields (filter is_staged us)

any_mapped : {A B : Type 0} (p : B → Bool) (f : A → B) (xs : List A) → list_any p (map f xs) ≡ list_any (λ x. p (f x)) xs
any_mapped p f [] = refl
any_mapped p f (x ∷ xs) = ap (λ b. p (f x) || b) (any_mapped p f xs)

-- an upload has one of the keys exactly if one of the chunks is of it
same_chunked : (keys : List ChunkKey) (t : Tables) → AreAllKeys keys t → (id : ℤ)
    → has_key keys id ≡ has_chunk t.chunks id
same_chunked keys t are id =
    let of : KeyFields → Bool = λ f. int_eq f.upload id in
    sym (any_mapped of read_key keys)
    ∙ list_any-IsPermutation of (map read_key keys) (map key_fields t.chunks) are
    ∙ any_mapped of key_fields t.chunks

-- the ids of the uploads that have a key are those of the staged uploads whose chunks are in rows
chunked : (rows : List UploadRow) (keys : List ChunkKey) (ids : List ℤ) (t : Tables)
    → AreUploadsOf rows (filter is_staged t.uploads) → AreAllKeys keys t
    → ids ≡ filter (has_key keys) (map (λ (row : UploadRow). upload_number row.id) rows) → ids ≡ chunked_ids t
chunked rows keys ids t are all is =
    is
    ∙ filter_same (has_key keys) (has_chunk t.chunks) (same_chunked keys t all) _
    ∙ ap (filter (has_chunk t.chunks)) (read_staged rows t.uploads are)

-- ---- the calls

module _ {S : Type 0} (g : Ghosts S) where
  -- a call that reads
  pub clears_none : (old new : S) → Moves g (λ t. t) old new → AddsNothing g old new → ClearsSome g old new
  clears_none old new m a = record {
    was_honest = m.was_honest;
    was_open = m.was_open;
    ready = m.ready;
    shows = λ k h o. subst (LacksStaged (shown g old)) (sym (m.shows k h o)) (lacks_nothing (shown g old));
    adds = λ h. record { was_honest = a.was_honest; outcomes = λ k t leaves. inl (a.outcomes k t leaves); safe = a.safe };
  }

  pub clears_then : (old mid new : S) → ClearsSome g old mid → ClearsSome g mid new → ClearsSome g old new
  clears_then old mid new p q = record {
    was_honest = λ k. p.was_honest (q.was_honest k);
    was_open = λ k o. p.was_open (q.was_honest k) (q.was_open k o);
    ready = λ h. q.ready (p.ready h);
    shows = λ k h o. lacks_then (shown g old) (shown g mid) (shown g new) (p.shows (q.was_honest k) h (q.was_open k o))
        (q.shows k (p.ready h) o);
    adds = λ h. let a = p.adds h in let b = q.adds (p.ready h) in record {
      was_honest = λ k. a.was_honest (b.was_honest k);
      outcomes = λ k t leaves. elim (b.outcomes k t leaves) [
        | inl before ↦ a.outcomes (b.was_honest k) t before
        | inr made ↦ inr (
          p.was_open (b.was_honest k) made.0,
          made.1,
          lacks_then (shown g old) (shown g mid) made.1 (p.shows (b.was_honest k) h made.0) made.2,
          made.3,
        )
      ];
      safe = λ k safe. b.safe k (a.safe (b.was_honest k) safe);
    };
  }

  -- a call that was to remove one, and failed
  clears_not : (id : ℤ) (old new : S) → Fails g (without_staged id) old new → ClearsSome g old new
  clears_not id old new f = record {
    was_honest = f.moves.was_honest;
    was_open = f.moves.was_open;
    ready = f.moves.ready;
    shows = λ k h o. subst (LacksStaged (shown g old)) (sym (f.moves.shows k h o)) (lacks_nothing (shown g old));
    adds = λ h. let a = f.adds h in record {
      was_honest = a.was_honest;
      outcomes = λ k t leaves. elim (a.outcomes k t leaves) [
        | inl before ↦ inl before
        | inr made ↦ inr (made.0, made.1, subst (LacksStaged (shown g old)) (sym made.2) (lacks_step id (shown g old)), made.3)
      ];
      safe = a.safe;
    };
  }

  -- a call that removed one: a stop leaves what is shown
  clears_one : (id : ℤ) (old new : S) → Makes g (without_staged id) old new → ClearsSome g old new
  clears_one id old new p = record {
    was_honest = p.moves.was_honest;
    was_open = p.moves.was_open;
    ready = p.moves.ready;
    shows = λ k h o. lacked k h o;
    adds = λ h. let d = p.durable h in record {
      was_honest = p.moves.was_honest;
      outcomes = λ k t leaves. inr (p.was_open k, shown g new, lacked k h (p.is_open k), d.only k t leaves);
      safe = λ k safe. d.safe k;
    };
  }
    where
      lacked : IsHonest g new → HasTables g old → IsOpen g new → LacksStaged (shown g old) (shown g new)
      lacked k h o = subst (LacksStaged (shown g old)) (sym (p.moves.shows k h o)) (lacks_step id (shown g old))

  -- these uploads were removed: if there are any, a stop leaves the tables without them
  pub record Removes (ids : List ℤ) (old new : S) : Type 0 where
    pub some : ClearsSome g old new
    pub shows : IsHonest g new → HasTables g old → IsOpen g new → shown g new ≡ without_all ids (shown g old)
    pub left : HasTables g old → IsHonest g new → (t : Tables) → Leaves g new t
        → ((ids ≡ []) × Leaves g old t) ⊎ (IsOpen g old × Remains (without_all ids (shown g old)) t)

  pub removes_none : (s : S) → Removes [] s s
  removes_none s = record {
    some = clears_none s s (moves_none g s) (nothing_none g s);
    shows = λ k h o. refl;
    left = λ h k t leaves. inl (refl, leaves);
  }

  removes_then : (ids : List ℤ) (id : ℤ) (old mid new : S) → Removes ids old mid → Makes g (without_staged id) mid new
      → Removes (ids ++ id ∷ []) old new
  removes_then ids id old mid new r p = record {
    some = clears_then old mid new r.some (clears_one id mid new p);
    shows = shows;
    left = λ h k t leaves. inr (
      r.some.was_open (p.moves.was_honest k) (p.was_open k),
      subst (λ (u : Tables). Remains u t) (shows k h (p.is_open k)) ((p.durable (r.some.ready h)).only k t leaves),
    );
  }
    where
      shows : IsHonest g new → HasTables g old → IsOpen g new → shown g new ≡ without_all (ids ++ id ∷ []) (shown g old)
      shows k h o =
          p.moves.shows k (r.some.ready h) o
          ∙ ap (without_staged id) (r.shows (p.moves.was_honest k) h (p.moves.was_open k o))
          ∙ sym (without_append ids (id ∷ []) (shown g old))

  -- one more id that a call found
  pub removes_next : (found : List UploadId) (index : ℕ) (id : UploadId) (old mid new : S) → index < length found
      → id ≡ slice_index_or found index id → Removes (map upload_number (take index found)) old mid
      → Makes g (without_staged (upload_number id)) mid new → Removes (map upload_number (take (index + 1) found)) old new
  removes_next found index id old mid new less is r p =
      let ids = map upload_number (take index found) in
      subst (λ (l : List ℤ). Removes l old new)
      (sym (map_more upload_number found index id less ∙ ap (λ (k : UploadId). ids ++ upload_number k ∷ []) (sym is)))
      (removes_then ids (upload_number id) old mid new r p)

  -- a call that failed to remove one more
  pub removes_not : (ids : List ℤ) (id : ℤ) (old mid new : S) → Removes ids old mid
      → Fails g (without_staged id) mid new → ClearsSome g old new
  removes_not ids id old mid new r f = clears_then old mid new r.some (clears_not id mid new f)

  -- the ids of the staged uploads whose chunks are in rows, which two calls read
  module _ (rows : Vec UploadRow) (keys : Vec ChunkKey) (old mid new : S)
      (found : Reads g old mid (Ok rows) (λ t found. AreUploadsOf found.items (filter is_staged t.uploads)))
      (all : Reads g mid new (Ok keys) (λ t found. AreAllKeys found.items t)) (seen : List UploadRow) (some : List ChunkKey)
      (rows_are : seen ≡ rows.items) (keys_are : some ≡ keys.items) (ids : List ℤ)
      (is : ids ≡ filter (has_key some) (map (λ (row : UploadRow). upload_number row.id) seen)) where
    pub chunked_read : IsHonest g new → HasTables g old → IsOpen g old × (ids ≡ chunked_ids (shown g old))
    chunked_read k h =
        let k' = all.same.was_honest k in
        let first = found.answers k' h in
        let second = all.answers k (found.same.ready h) in (
          first.0,
          chunked seen some ids (shown g old)
              (subst (λ (l : List UploadRow). AreUploadsOf l (filter is_staged (shown g old).uploads)) (sym rows_are) first.1)
              (subst (λ (l : List ChunkKey). AreAllKeys l (shown g old)) (sym keys_are)
              (subst (AreAllKeys keys.items) (found.same.shows k' h second.0) second.1)) is,
        )

  -- those that a call found were removed
  module _ (ids : Vec UploadId) (old mid new : S)
      (found : Reads g old mid (Ok ids) (λ t found. map upload_number found.items ≡ chunked_ids t))
      (r : Removes (map upload_number ids.items) mid new) where
    pub removes_all : ShowsCleared g old new
    removes_all k h o =
        let k' = r.some.was_honest k in
        r.shows k (found.same.ready h) o
        ∙ ap (without_all (map upload_number ids.items)) (found.same.shows k' h (r.some.was_open k o))
        ∙ ap (λ l. without_all l (shown g old)) (found.answers k' h).1

    pub leaves_all : LeavesCleared g old new
    leaves_all h k =
        let k' = r.some.was_honest k in
        let by_ids = ap (λ l. without_all l (shown g old)) (found.answers k' h).1 in (
          (found.answers k' h).0,
          λ d t leaves. elim (r.left (found.same.ready h) k t leaves) [
            | inl none ↦ subst (λ (u : Tables). Remains u t)
                (ap (λ l. without_all l (shown g old)) (sym none.0) ∙ by_ids)
                (d.only (found.same.was_honest k') t (found.adds.outcomes k' t none.1))
            | inr some ↦ subst (λ (u : Tables). Remains u t)
                (ap (without_all (map upload_number ids.items)) (found.same.shows k' h some.0) ∙ by_ids) some.1
          ],
        )
