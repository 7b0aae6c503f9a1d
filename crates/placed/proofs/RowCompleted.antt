-- An upload whose content is rows of the database is completed.
use Rattle.placed.proofs.Prelude.{◌≡◌, ◌≢◌, ℕ, ℤ, pos, Bool, true, false, not, cond, List, [], ◌∷◌, ◌++◌, filter, find, Option, Some, None, Result, Ok, is_some, refl, sym, ap, subst, ◌∙◌, true≢false, append-nil, filter-append, none-some, AllByRecursion, int_eq_apart, Chunk, Upload, Tables, is_chunk, with_chunk, with_done, asked_chunk, staged_with, with_used, with_bytes, with_last, with_kept, completion_by, completion_of, after_completion, after_found, after_complete, StoreFault, LastChunk, Completion, IsContentOf, arranged, normal, ChunkContent, Ghosts, shown, Reads, Changes, Placed, Staged, place_number, is_place, is_piece, view, IsStagedIn, staged_of, beside, place_in, AreOfOthers}
use Rattle.sqlite_disk.specs.declared.Disk as disk
use Rattle.tables.specs.declared.rows.Completion.TheVariants as completion
use Rattle.placed.proofs.Arranged.{arranged-filter}
use Rattle.placed.proofs.Views.{view-normal, view-of-normal, view-kept-row, found_id}
use Rattle.placed.proofs.Seeking.{no-places-of}
use Rattle.placed.proofs.Tracked.{every_place, staged-done}
use Rattle.placed.proofs.Leading.{Leads, leads_same}
use Rattle.placed.proofs.Forward.{forwards_known}
use Rattle.placed.proofs.After.{changes_after, was_honest}

-- a row with another number than that of a place has bytes of a content
row_is_piece : (upload : ℤ) (n : ℕ) (bytes : List ℕ) → n ≢ place_number → is_piece (asked_chunk upload n bytes) ≡ true
row_is_piece upload n bytes apart = ap not (int_eq_apart (pos n) (pos place_number) (λ same. apart (cc)))

module _ (file : List ℕ) (staged : List Staged) (t : Tables) (ordered : normal t ≡ t) where
  -- nothing changes
  leads_still : Leads file staged staged t (normal t) (normal (view file staged t))
  leads_still =
      leads_same file staged t (normal t) (normal (view file staged t))
      (view-of-normal file staged t ∙ sym (view-normal file staged t)) refl (ap (λ (u : Tables). u.chunks) ordered)

  -- the places are the same with one more row that has bytes of a content
  places_with : (c : Chunk) → is_piece c ≡ true
      → filter is_place (arranged (t.chunks ++ c ∷ [])) ≡ filter is_place t.chunks
  places_with c piece =
      sym (arranged-filter is_place refl (t.chunks ++ c ∷ []))
      ∙ ap arranged (filter-append is_place t.chunks (c ∷ []) ∙ at (is_place c) piece)
      ∙ arranged-filter is_place refl t.chunks
      ∙ ap (λ (u : Tables). filter is_place u.chunks) ordered
    where
      at : (b : Bool) → not b ≡ true → filter is_place t.chunks ++ cond b (c ∷ []) [] ≡ filter is_place t.chunks
      at true e = absurd (true≢false (sym e))
      at false e = append-nil (filter is_place t.chunks)

  module _ (u : Upload) (n : ℕ) (apart : n ≢ place_number) where
    places_kept : (bytes : List ℕ)
        → filter is_place (normal (with_kept u (with_bytes u.id n bytes t))).chunks ≡ filter is_place t.chunks
    unfolding with_kept with_used with_done with_chunk
    places_kept [] = ap (λ (v : Tables). filter is_place v.chunks) ordered
    places_kept (byte ∷ bytes) = places_with _ (row_is_piece u.id n (byte ∷ bytes) apart)

    staged_with_bytes : (bytes : List ℕ) → AllByRecursion (IsStagedIn t) staged
        → AllByRecursion (IsStagedIn (with_bytes u.id n bytes t)) staged
    unfolding with_chunk
    staged_with_bytes [] all = all
    staged_with_bytes (byte ∷ bytes) all = all

    -- the upload is complete
    leads_kept : (bytes : List ℕ) → find (is_chunk u.id (pos place_number)) t.chunks ≡ None → AreOfOthers u.id staged
        → Leads file staged staged t (normal (with_kept u (with_bytes u.id n bytes t)))
        (normal (with_kept u (with_bytes u.id n bytes (view file staged t))))
    leads_kept bytes none others = record {
      shown = view-of-normal file staged (with_kept u (with_bytes u.id n bytes t))
          ∙ view-kept-row file staged t u n bytes (row_is_piece u.id n bytes apart) (no-places-of u.id t.chunks none) others;
      some = every_place t (normal (with_kept u (with_bytes u.id n bytes t))) (places_kept bytes);
      uploads = λ all. staged-done u (with_bytes u.id n bytes t) staged (staged_with_bytes bytes all) others;
    }

  pub leads_completed : (id : ℤ) (last : LastChunk) (oid : List ℕ) (size : ℤ)
      → last.n ≢ place_number → place_in id t ≡ None → AreOfOthers id staged
      → Leads file staged staged t (normal (after_complete id last oid size t))
      (normal (after_complete id last oid size (view file staged t)))
  unfolding view after_complete with_last
  leads_completed id last oid size apart none others = at (staged_with id t) refl
    where
      done : (u : Upload) → u.id ≡ id → (c : Completion)
          → Leads file staged staged t (normal (after_completion c last u t)) (normal (after_completion c last u (view file staged t)))
      done u same completion.Differs = leads_still
      done u same completion.Already = leads_still
      done u same completion.New =
          leads_kept u last.n apart last.bytes.items
          (subst (λ (k : ℤ). place_in k t ≡ None) (sym same) none) (subst (λ (k : ℤ). AreOfOthers k staged) (sym same) others)

      at : (o : Option Upload) → staged_with id t ≡ o
          → Leads file staged staged t (normal (after_found o last oid size t)) (normal (after_found o last oid size (view file staged t)))
      at None is = leads_still
      at (Some u) is = done u (found_id id t u is) (completion_by oid size u t)

-- nothing was read
pub none_read : (found : Option ChunkContent) (c : Option Chunk) → false ≡ is_some found → IsContentOf found c
    → c ≡ None
none_read None None none is = refl
none_read None (Some c) none is = absurd (none-some c.bytes is)
none_read (Some x) c none is = absurd (true≢false (sym none))

module _ {T D : Type 0} (g : Ghosts T) (d : disk.Ghosts D) (s : Placed T D) (rows : T) (id : ℤ) (last : LastChunk)
    (oid : List ℕ) (size : ℤ) where
  -- the step
  abbrev completed : Tables → Tables
  completed t = normal (after_complete id last oid size t)

  -- its result
  abbrev Says : Tables → Completion → Type 0
  Says t completion = completion_of id oid size t ≡ Some completion

  says_seen : (t : Tables) (x : Completion) → Says t x → Says (view (d.seen s.disk) (staged_of s) t) x
  unfolding view
  says_seen t x is = is

  module _ (mid : T) (found : Option ChunkContent)
      (asked : Reads g s.rows mid (Ok found) (λ t c. IsContentOf c (place_in id t))) (none : false ≡ is_some found)
      (apart : last.n ≢ place_number) (others : AreOfOthers id (staged_of s)) where
    pub row_completed : (r : Result Completion StoreFault) → Changes g mid rows r completed Says
        → Changes (beside g d) s (record s { rows = rows }) r completed Says
    row_completed r e =
        forwards_known g d s rows completed completed Says Says r
        (changes_after g s.rows mid rows asked.same asked.adds Says completed r e) says_seen
        (λ it. leads_completed (d.seen s.disk) (staged_of s) (shown g s.rows) it.ordered id last oid size apart
        (none_read found (place_in id (shown g s.rows)) none (asked.answers (was_honest g mid rows completed r Says e it.honest) it.tables).1) others)
