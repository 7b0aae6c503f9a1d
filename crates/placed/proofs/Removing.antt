-- A call that removes an upload, whose content is then not received any more.
use Rattle.placed.proofs.Prelude.{inl, IsErr, IfOk, IsHonest, HasTables, Moves, AddsNothing, nothing_then, AllByRecursion, Chunk, filter, not, all-filter, all_weaker, arith, ints, int_eq, is_of, is_place, ◌≢◌, Region, Regions, regions_of, IsAlteredBy, UploadId, ◌≡◌, ℕ, ℤ, Bool, true, false, List, find, Option, Some, None, Result, Ok, Err, is_some, option_map, refl, sym, ap, subst, ◌∙◌, true≢false, Vec, Upload, Tables, is_object, upload_number, staged_with, without_found, without_staged, after_retire, after_discard, StoreFault, ObjectRow, Ghosts, shown, Reads, Changes, Placed, Staged, others_of, others_of_found, view, staged_of, beside, without_object, with_retired, with_used, without_found_object, recounted, without_discarded, without_upload, without_row, without_chunks}
use Rattle.sqlite_disk.specs.declared.Disk as disk
use Rattle.tables.specs.Staging.{Sized, read_object, upload_sized, IsObjectOf}
use Rattle.placed.proofs.Tracked.{every_place, places-of-chunks, chunks-of-without-upload, staged-without-upload}
use Rattle.placed.proofs.Views.{view-without, found_id}
use Rattle.placed.proofs.Leading.{Leads, Follows, ArePart, Known, part_of_found}
use Rattle.placed.proofs.Forward.{changes_err_known, continues, still, nothing}
use Rattle.placed.proofs.Freeing.{HasNoPlacesOf, IsApartFrom, IsUnused, made_freed, unaltered, unused_left, unused_places}
use Rattle.placed.proofs.After.{changes_after, changes_none}
use Rattle.std.proofs.Common.{◌-ℤ◌, lit<}
use Rattle.std.proofs.lemmas.List.Elements.{filter_passes, recursion_from_All}
use Rattle.store.proofs.Moved.{moves_then}
use Rattle.contents.specs.Files.{KeepsRegions}
use Rattle.placed.specs.Freed.{FindsRegion, Frees, IsFreed, IsHeldBy, id_in}
use Rattle.tables.specs.Steps.{used_of}

-- ---- the steps

module _ (file : List ℕ) (staged : List Staged) where
  -- each content that is still being received is one of a staged upload after this step, which removes this upload
  abbrev pub LeadsWithout : (Tables → Tables) → (Tables → Option Upload) → Type 0
  LeadsWithout step removed =
      (t : Tables) → Leads file staged (others_of_found (id_in (removed t)) staged) t (step t) (step (view file staged t))

  pub leads_found : (o : Option Upload) (t : Tables)
      → Leads file staged (others_of_found (id_in o) staged) t (without_found o t) (without_found o (view file staged t))
  leads_found None t = record { shown = refl; some = every_place t t refl; uploads = λ all. all }
  leads_found (Some u) t = record {
    shown = view-without file staged t u.id;
    some = places-of-chunks t (without_found (Some u) t) (chunks-of-without-upload u.id t);
    uploads = staged-without-upload u.id t staged;
  }

  pub leads_removed : (id : ℤ) → LeadsWithout (without_staged id) (staged_with id)
  unfolding view without_staged
  leads_removed id t = leads_found (staged_with id t) t

  pub leads_retired : (repo oid : List ℕ)
      → LeadsWithout (after_retire repo oid) (λ t. find (is_object repo oid) t.uploads)
  unfolding view after_retire without_object with_retired with_used without_upload without_row without_chunks
  leads_retired repo oid t = at (find (is_object repo oid) t.uploads)
    where
      at : (o : Option Upload) → Leads file staged (others_of_found (id_in o) staged) t (without_found_object repo oid o t)
          (without_found_object repo oid o (view file staged t))
      at None = leads_found None t
      at (Some u) = let l = leads_found (Some u) t in record {
        shown = ap (λ (s : Tables). with_retired repo oid (with_used repo (used_of repo s -ℤ u.size) s)) l.shown;
        some = l.some;
        uploads = l.uploads;
      }

  pub leads_discarded : (repo oid : List ℕ)
      → LeadsWithout (after_discard repo oid) (λ t. find (is_object repo oid) t.uploads)
  unfolding view after_discard recounted with_used
  leads_discarded repo oid t = at (find (is_object repo oid) t.uploads)
    where
      at : (o : Option Upload) → Leads file staged (others_of_found (id_in o) staged) t (without_discarded repo o t)
          (without_discarded repo o (view file staged t))
      at None = leads_found None t
      at (Some u) = let l = leads_found (Some u) t in
          record { shown = ap (recounted repo) l.shown; some = l.some; uploads = l.uploads }

-- ---- the places that are left

-- no place is of the upload that this step removes
abbrev pub LeavesNoPlace : (Tables → Tables) → (Tables → Option Upload) → Type 0
LeavesNoPlace step removed = (t : Tables) → HasNoPlacesOf (id_in (removed t)) (step t)

no_place_of : (id : ℤ) (cs : List Chunk)
    → AllByRecursion (λ (c : Chunk). c.upload ≢ id) (filter is_place (filter (λ c. not (is_of id c)) cs))
no_place_of id cs =
    all-filter (λ (c : Chunk). c.upload ≢ id) is_place (filter (λ c. not (is_of id c)) cs)
    (all_weaker (λ c. not (is_of id c) ≡ true) (λ c. c.upload ≢ id) (λ c. other_upload c.upload id) (filter (λ c. not (is_of id c)) cs)
    (recursion_from_All (λ c. not (is_of id c) ≡ true) (filter (λ c. not (is_of id c)) cs) (filter_passes (λ c. not (is_of id c)) cs)))
  where
    other_upload : (a b : ℤ) → not (int_eq a b) ≡ true → a ≢ b
    other_upload a b other same = grind (arith, ints)

pub found_leaves : (o : Option Upload) (t : Tables) → HasNoPlacesOf (id_in o) (without_found o t)
unfolding without_upload without_row without_chunks
found_leaves None t = tt
found_leaves (Some u) t = no_place_of u.id t.chunks

pub removed_leaves : (id : ℤ) → LeavesNoPlace (without_staged id) (staged_with id)
unfolding without_staged
removed_leaves id t = found_leaves (staged_with id t) t

pub retired_leaves : (repo oid : List ℕ) → LeavesNoPlace (after_retire repo oid) (λ t. find (is_object repo oid) t.uploads)
unfolding after_retire without_object with_retired with_used without_upload without_row without_chunks
retired_leaves repo oid t = at (find (is_object repo oid) t.uploads)
  where
    at : (o : Option Upload) → HasNoPlacesOf (id_in o) (without_found_object repo oid o t)
    at None = tt
    at (Some u) = no_place_of u.id t.chunks

pub discarded_leaves : (repo oid : List ℕ)
    → LeavesNoPlace (after_discard repo oid) (λ t. find (is_object repo oid) t.uploads)
unfolding after_discard recounted with_used without_upload without_row without_chunks
discarded_leaves repo oid t = at (find (is_object repo oid) t.uploads)
  where
    at : (o : Option Upload) → HasNoPlacesOf (id_in o) (without_discarded repo o t)
    at None = tt
    at (Some u) = no_place_of u.id t.chunks

-- ---- what was found

staged_number : (id : ℤ) (t : Tables) (removed : Bool) → removed ≡ true → removed ≡ is_some (staged_with id t)
    → Some id ≡ id_in (staged_with id t)
staged_number id t removed was is = at (staged_with id t) refl (sym is ∙ was)
  where
    at : (o : Option Upload) → staged_with id t ≡ o → is_some o ≡ true → Some id ≡ id_in o
    at None found none = absurd (true≢false (sym none))
    at (Some u) found some = ap Some (sym (found_id id t u found))

no_number : (o : Option Upload) (removed : Bool) → removed ≡ false → removed ≡ is_some o → None ≡ id_in o
no_number None removed was is = refl
no_number (Some u) removed was is = absurd (true≢false (sym is ∙ was))

-- the ids of an object that a call found are one
same_number : (found : Option ObjectRow) (ids : Option UploadId) (o : Option Upload)
    → ids ≡ option_map (λ (row : ObjectRow). row.id) found → IsObjectOf found o → option_map upload_number ids ≡ id_in o
same_number found ids o of_row is =
    ap (option_map upload_number) of_row ∙ read found ∙ ap (option_map (λ (z : Sized). z.id)) is ∙ sized o
  where
    read : (found : Option ObjectRow) → option_map upload_number (option_map (λ (row : ObjectRow). row.id) found)
        ≡ option_map (λ (z : Sized). z.id) (option_map read_object found)
    read None = refl
    read (Some row) = refl

    sized : (o : Option Upload) → option_map (λ (z : Sized). z.id) (option_map upload_sized o) ≡ id_in o
    sized None = refl
    sized (Some u) = refl

-- ---- the calls

-- the error itself does not matter
another_fault : {S X : Type 0} (g : Ghosts S) (a b : S) (step : Tables → Tables) (P : Tables → X → Type 0)
    → (fault other : StoreFault) → Changes g a b (Err fault) step P → Changes g a b (Err other) step P
another_fault g a b step P fault other e = record { answers = λ k h. tt; made = tt; failed = e.failed }

-- a region is found after a call that changes nothing as before it
pub finds_after : {S : Type 0} (g : Ghosts S) (a b c : S) → Moves g (λ t. t) a b → AddsNothing g a b
    → (staged : List Staged) (k : Option ℤ) (r : Result (Option Region) StoreFault) → FindsRegion g b c staged k r
    → FindsRegion g a c staged k r
finds_after g a b c m n staged k r e = record {
  answers = λ honest h opened.
      let was = e.same.was_honest honest in
      subst (λ t. IfOk r (IsHeldBy k staged t)) (m.shows was h (e.same.was_open honest opened))
      (e.answers honest (m.ready h) opened);
  same = moves_then g a b c m e.same;
  adds = nothing_then g a b c n e.adds;
}

module _ {T D : Type 0} (g : Ghosts T) (d : disk.Ghosts D) (s : Placed T D) (rows : T) where
  module _ {X : Type 0} (step : Tables → Tables) (P : Tables → X → Type 0) (removed : Tables → Option Upload)
      (leads : LeadsWithout (d.seen s.disk) (staged_of s) step removed) where
    removes_err : (fault other : StoreFault) → Changes g s.rows rows (Err fault) step P
        → Changes (beside g d) s (record s { rows = rows }) (Err other) step P
    removes_err fault other e =
        changes_err_known g d s rows step step P P other (another_fault g s.rows rows step P fault other e)
        (others_of_found (id_in (removed (shown g s.rows))) (staged_of s))
        (λ it. leads (shown g s.rows))

    -- the upload with this number was removed, and its region went out of use
    module _ (leaves : LeavesNoPlace step removed) (x : X) (e : Changes g s.rows rows (Ok x) step P) (k : Option ℤ)
        (ls : Vec Staged) (left : ls.items ≡ others_of_found k (staged_of s)) (regions : Regions) (file : D)
        (found : Option Region) (freed : IsFreed (regions_of s.regions) (regions_of regions) found)
        (altered : IsAlteredBy d (KeepsRegions (regions_of regions)) s.disk file)
        (is : IsHonest g rows → HasTables g s.rows → k ≡ id_in (removed (shown g s.rows)))
        (held : IsHonest g rows → HasTables g s.rows → IsHeldBy k (staged_of s) (shown g s.rows) found) where
      abbrev next : Placed T D
      next = record s { rows = rows; disk = file; regions = regions; staged = ls }

      part : ArePart (staged_of s) ls.items
      part = subst (ArePart (staged_of s)) (sym left) (part_of_found k (staged_of s))

      follows : Known g d s rows → Follows g d s ls.items step step
      follows it =
          subst (λ (after : List Staged). Follows g d s after step step)
          (sym (left ∙ ap (λ (m : Option ℤ). others_of_found m (staged_of s)) (is it.honest it.tables))) (leads (shown g s.rows))

      unused : (it : Known g d s rows) → IsUnused g d s rows s.regions regions ls file found freed altered (step (shown g s.rows))
      unused it = let here = held it.honest it.tables in record {
        received = subst (AllByRecursion (λ (x : Staged). IsApartFrom found x.draft.region)) (sym left)
            (unused_left d s.disk s.regions (staged_of s) (shown g s.rows) it.received it.served k found here);
        places = unused_places d s.disk s.regions (staged_of s) (shown g s.rows) it.received it.served k found here
            (step (shown g s.rows)) (leads (shown g s.rows)).some
            (subst (λ (m : Option ℤ). HasNoPlacesOf m (step (shown g s.rows))) (sym (is it.honest it.tables)) (leaves (shown g s.rows)));
      }

      removes : ((t : Tables) → P t x → P (view (d.seen s.disk) (staged_of s) t) x)
          → Changes (beside g d) s next (Ok x) step P × Frees g d s next 0 (λ t. id_in (removed t)) (Ok x)
      removes says = (
        record {
          answers = λ k h. let it = e.answers k.0 h.kept.rows in (it.0, says (shown g s.rows) it.1);
          made = made_freed g d s rows s.regions regions ls file found freed altered step step e.made
              (λ it. continues g d s rows ls part step step it (follows it)) unused;
          failed = tt;
        },
        record {
          freed = λ k h. (
            regions_of s.regions,
            inl (lit< tt, refl),
            found,
            subst (λ (m : Option ℤ). IsHeldBy m (staged_of s) (shown g s.rows) found) (is k.0 h.rows) (held k.0 h.rows),
            freed,
          );
          kept = tt;
        },
      )

  -- a call that was to remove something ends after it has read, with an error
  pub not_asked : {X : Type 0} (r : Result X StoreFault) → IsErr r → (step : Tables → Tables) (P : Tables → X → Type 0)
      → Moves g (λ t. t) s.rows rows → AddsNothing g s.rows rows → Changes (beside g d) s (record s { rows = rows }) r step P
  not_asked (Ok x) bad step P m a = absurd (true≢false (sym bad))
  not_asked (Err fault) bad step P m a =
      let next : Placed T D = record s { rows = rows } in
      changes_none (beside g d) s next next (still g d s rows m a) (nothing g d s rows a) P step fault

  -- a call that removes a staged upload, after its region was found
  module _ (id : ℤ) (mid : T) (found : Option Region)
      (finds : FindsRegion g s.rows mid (staged_of s) (Some id) (Ok found)) where
    -- it returns whether the upload was there
    abbrev pub SaysRemoved : Tables → Bool → Type 0
    SaysRemoved t removed = removed ≡ is_some (staged_with id t)

    removed_seen : (x : Bool) (t : Tables) → SaysRemoved t x → SaysRemoved (view (d.seen s.disk) (staged_of s) t) x
    unfolding view
    removed_seen x t is = is

    whole : (r : Result Bool StoreFault) → Changes g mid rows r (without_staged id) SaysRemoved
        → Changes g s.rows rows r (without_staged id) SaysRemoved
    whole = changes_after g s.rows mid rows finds.same finds.adds SaysRemoved (without_staged id)

    pub remove_err : (fault other : StoreFault) → Changes g mid rows (Err fault) (without_staged id) SaysRemoved
        → Changes (beside g d) s (record s { rows = rows }) (Err other) (without_staged id) SaysRemoved
    remove_err fault other e =
        removes_err (without_staged id) SaysRemoved (staged_with id) (leads_removed (d.seen s.disk) (staged_of s) id) fault other
        (whole (Err fault) e)

    module _ (x : Bool) (e : Changes g mid rows (Ok x) (without_staged id) SaysRemoved) where
      says_so : IsHonest g rows → HasTables g s.rows → SaysRemoved (shown g s.rows) x
      says_so k h = ((whole (Ok x) e).answers k h).1

      pub remove_found : x ≡ true → (ls : Vec Staged) → ls.items ≡ others_of id (staged_of s) → (regions : Regions)
          (file : D) → IsFreed (regions_of s.regions) (regions_of regions) found
          → IsAlteredBy d (KeepsRegions (regions_of regions)) s.disk file
          → Changes (beside g d) s (record s { rows = rows; disk = file; regions = regions; staged = ls }) (Ok x) (without_staged id) SaysRemoved
          × Frees g d s (record s { rows = rows; disk = file; regions = regions; staged = ls }) 0 (λ t. id_in (staged_with id t)) (Ok x)
      remove_found was ls left regions file freed altered =
          removes (without_staged id) SaysRemoved (staged_with id) (leads_removed (d.seen s.disk) (staged_of s) id)
          (removed_leaves id) x (whole (Ok x) e) (Some id) ls left regions file found freed altered
          (λ k h. staged_number id (shown g s.rows) x was (says_so k h))
          (λ k h. finds.answers (e.made.moves.was_honest k) h (e.made.was_open k)) (removed_seen x)

      pub remove_none : x ≡ false
          → Changes (beside g d) s (record s { rows = rows }) (Ok x) (without_staged id) SaysRemoved
          × Frees g d s (record s { rows = rows }) 0 (λ t. id_in (staged_with id t)) (Ok x)
      remove_none was =
          removes (without_staged id) SaysRemoved (staged_with id) (leads_removed (d.seen s.disk) (staged_of s) id)
          (removed_leaves id) x (whole (Ok x) e) None s.staged refl s.regions s.disk None refl (unaltered d s.disk (regions_of s.regions))
          (λ k h. no_number (staged_with id (shown g s.rows)) x was (says_so k h)) (λ k h. refl) (removed_seen x)

  -- no region was found, after a call that looked for the object
  pub no_region : {X Y : Type 0} (asked_rows : T) (r : Result Y StoreFault) (P : Tables → Y → Type 0)
      → Reads g s.rows asked_rows r P → (staged : List Staged) (k : Option ℤ) (q : Result (Option Region) StoreFault)
      → FindsRegion g asked_rows rows staged k q → (bad : Result X StoreFault) → IsErr bad → (step : Tables → Tables)
      (Q : Tables → X → Type 0) → Changes (beside g d) s (record s { rows = rows }) bad step Q
  no_region asked_rows r P asked staged k q finds bad err step Q =
      not_asked bad err step Q (moves_then g s.rows asked_rows rows asked.same finds.same)
      (nothing_then g s.rows asked_rows rows asked.adds finds.adds)

  -- a call that removes an object, after one that looked for it and one that found its region
  module _ (repo oid : List ℕ) (asked_rows mid : T) (found : Option ObjectRow)
      (asked : Reads g s.rows asked_rows (Ok found) (λ t row. IsObjectOf row (find (is_object repo oid) t.uploads)))
      (ids : Option UploadId) (of_row : ids ≡ option_map (λ (row : ObjectRow). row.id) found) (region : Option Region)
      (finds : FindsRegion g asked_rows mid (staged_of s) (option_map upload_number ids) (Ok region)) where
    -- it returns whether the object was there
    abbrev pub SaysObject : Tables → Bool → Type 0
    SaysObject t removed = removed ≡ is_some (find (is_object repo oid) t.uploads)

    object_seen : (x : Bool) (t : Tables) → SaysObject t x → SaysObject (view (d.seen s.disk) (staged_of s) t) x
    unfolding view
    object_seen x t is = is

    -- the region was found of the tables before all calls
    found_first : FindsRegion g s.rows mid (staged_of s) (option_map upload_number ids) (Ok region)
    found_first = finds_after g s.rows asked_rows mid asked.same asked.adds (staged_of s) (option_map upload_number ids) (Ok region) finds

    module _ (step : Tables → Tables)
        (leads : LeadsWithout (d.seen s.disk) (staged_of s) step (λ t. find (is_object repo oid) t.uploads)) where
      after_asked : (r : Result Bool StoreFault) → Changes g mid rows r step SaysObject
          → Changes g s.rows rows r step SaysObject
      after_asked = changes_after g s.rows mid rows found_first.same found_first.adds SaysObject step

      pub object_err : (fault other : StoreFault) → Changes g mid rows (Err fault) step SaysObject
          → Changes (beside g d) s (record s { rows = rows }) (Err other) step SaysObject
      object_err fault other e =
          removes_err step SaysObject (λ t. find (is_object repo oid) t.uploads) leads fault other (after_asked (Err fault) e)

      pub object_ok : LeavesNoPlace step (λ t. find (is_object repo oid) t.uploads) → (x : Bool)
          → Changes g mid rows (Ok x) step SaysObject → (ls : Vec Staged)
          → ls.items ≡ others_of_found (option_map upload_number ids) (staged_of s) → (regions : Regions) (file : D)
          → IsFreed (regions_of s.regions) (regions_of regions) region
          → IsAlteredBy d (KeepsRegions (regions_of regions)) s.disk file
          → Changes (beside g d) s (record s { rows = rows; disk = file; regions = regions; staged = ls }) (Ok x) step SaysObject
          × Frees g d s (record s { rows = rows; disk = file; regions = regions; staged = ls }) 0
          (λ t. id_in (find (is_object repo oid) t.uploads)) (Ok x)
      object_ok leaves x e ls left regions file freed altered =
          removes step SaysObject (λ t. find (is_object repo oid) t.uploads) leads leaves x (after_asked (Ok x) e)
          (option_map upload_number ids) ls left regions file region freed altered
          (λ k h.
          same_number found ids (find (is_object repo oid) (shown g s.rows).uploads) of_row
          (asked.answers (finds.same.was_honest (e.made.moves.was_honest k)) h).1)
          (λ k h. found_first.answers (e.made.moves.was_honest k) h (e.made.was_open k)) (object_seen x)

      -- there was no such object
      pub object_none : LeavesNoPlace step (λ t. find (is_object repo oid) t.uploads) → (x : Bool) → x ≡ false
          → Changes g mid rows (Ok x) step SaysObject → Changes (beside g d) s (record s { rows = rows }) (Ok x) step SaysObject
          × Frees g d s (record s { rows = rows }) 0 (λ t. id_in (find (is_object repo oid) t.uploads)) (Ok x)
      object_none leaves x was e =
          removes step SaysObject (λ t. find (is_object repo oid) t.uploads) leads leaves x (after_asked (Ok x) e) None s.staged refl
          s.regions s.disk None refl (unaltered d s.disk (regions_of s.regions))
          (λ k h. no_number (find (is_object repo oid) (shown g s.rows).uploads) x was ((after_asked (Ok x) e).answers k h).1)
          (λ k h. refl) (object_seen x)
