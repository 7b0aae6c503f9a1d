-- An upload that begins takes the place of the staged one of its repository, and a large content of it gets a region.
use Rattle.placed.proofs.Prelude.{nothing_then, ◌≤◌, IsAlteredBy, Moves, AddsNothing, piece_size, places_in, AreBeside, IsBeside, ◌≡◌, ◌≢◌, inl, inr, ℕ, ◌<◌, suc, zero, ℤ, pos, Bool, true, false, cond, List, [], ◌∷◌, ◌++◌, take, drop, find, Option, Some, None, is_some, option_map, Ok, Err, refl, sym, ap, subst, ◌∙◌, Contains, arith, true≢false, Vec, AllByRecursion, option_or, int_eq, and_parts, ints, find-append, none-some, same_Some, all_weaker, all-append, ascending-append, Region, Regions, regions_of, IsReserved, Upload, Chunk, Tables, is_staged_in, is_staged_with, is_upload, is_staged, with_upload, upload_number, asked_upload, IsAbove, IsBegun, without_staged_in, after_begin, StoreFault, NewUpload, UploadId, UploadRow, Ghosts, IsHonest, HasTables, shown, Makes, Begins, Finds, Placed, Staged, view, received_pieces, others_of_found, AreSeparate, OfOthers, AreStagedApart, IsStagedIn, IsPlace, IsReceived, AreReceived, staged_of, shown_with, beside, pieces, without_found}
use Rattle.std.proofs.Common.{◌<ℤ◌, IsPermutation}
use Rattle.std.specs.Bool.{MatchBool}
use Rattle.std.proofs.lemmas.List.Elements.{All-contains, Contains-append_right}
use Rattle.std.proofs.lemmas.List.Sorted.{Contains-permutation}
use Rattle.sqlite_disk.specs.declared.Disk as disk
use Rattle.store.proofs.Moved.{moves_then}
use Rattle.contents.specs.Regions.{AreApart}
use Rattle.tables.specs.Staging.{UploadFields, IsUploadOf}
use Rattle.names.specs.Names.{repo_text}
use Rattle.placed.proofs.Cutting.{pieces_none}
use Rattle.placed.proofs.Views.{view-staged-empty}
use Rattle.placed.proofs.Tracked.{staged_more}
use Rattle.placed.proofs.Leading.{Leads, part_all, part_apart, part_received, part_of_found, ArePart, Known}
use Rattle.placed.proofs.After.{begins_after, begins_none}
use Rattle.placed.proofs.Restaged.{Continues, still_with, nothing_with, failed_with}
use Rattle.placed.proofs.Removing.{finds_after, found_leaves, leads_found}
use Rattle.placed.proofs.Freeing.{HasNoPlacesOf, IsApartFrom, IsElsewhere, IsUnused, apart_other, held_used, made_freed, unused_left, unused_places}
use Rattle.placed.specs.Freed.{FindsRegion, Frees, HasMadeRoom, IsFreed, IsHeldBy, id_in}
use Rattle.contents.specs.Files.{KeepsRegions}
use Rattle.placed.proofs.Keeping.{file_itself, IsAway}

-- ---- the upload that was found

-- the ids of an upload that was found are one
same_found : (found : Option UploadRow) (ids : Option UploadId) (o : Option Upload)
    → ids ≡ option_map (λ (row : UploadRow). row.id) found → IsUploadOf found o → option_map upload_number ids ≡ id_in o
same_found None ids None of_row is = ap (option_map upload_number) of_row
same_found None ids (Some u) of_row is = absurd (none-some _ is)
same_found (Some row) ids None of_row is = absurd (none-some _ (sym is))
same_found (Some row) ids (Some u) of_row is =
    ap (option_map upload_number) of_row ∙ ap (λ (f : UploadFields). Some f.id) (same_Some _ _ is)

-- the tables in which the upload is begun, beside the contents of the others
module _ (file : List ℕ) (staged : List Staged) (t : Tables) (u : Upload) where
  abbrev LeadsTo : List Staged → Type 0
  LeadsTo left = Leads file staged left t (after_begin u t) (after_begin u (view file staged t))

  leads_begun : LeadsTo (others_of_found (id_in (find (is_staged_in u.repo) t.uploads)) staged)
  unfolding view after_begin with_upload without_staged_in
  leads_begun =
      let o = find (is_staged_in u.repo) t.uploads in
      let l = leads_found file staged o t in
      record {
        shown = ap (with_upload u) l.shown;
        some = l.some;
        uploads = λ all. staged_more u (without_found o t) (others_of_found (id_in o) staged) (l.uploads all);
      }

-- no place is of the upload that is replaced
begun_leaves : (u : Upload) (t : Tables) → HasNoPlacesOf (id_in (find (is_staged_in u.repo) t.uploads)) (after_begin u t)
unfolding after_begin with_upload without_staged_in
begun_leaves u t = at (find (is_staged_in u.repo) t.uploads)
  where
    at : (o : Option Upload) → HasNoPlacesOf (id_in o) (with_upload u (without_found o t))
    at None = tt
    at (Some v) = found_leaves (Some v) t

-- the upload that is begun is staged
staged_last : (u : Upload) (t : Tables) → u.done ≡ pos 0
    → is_some (find (is_staged_with u.id) (after_begin u t).uploads) ≡ true
unfolding after_begin with_upload
staged_last u t done =
    ap is_some (find-append (is_staged_with u.id) (without_staged_in u.repo t).uploads (u ∷ []))
    ∙ at (find (is_staged_with u.id) (without_staged_in u.repo t).uploads)
  where
    itself : (k : ℤ) → int_eq k k ≡ true
    itself k = grind (arith, ints)

    is : is_staged_with u.id u ≡ true
    is = rw (itself u.id) (rw done refl)

    at : (o : Option Upload) → is_some (option_or o (find (is_staged_with u.id) (u ∷ []))) ≡ true
    at None = rw is refl
    at (Some v) = refl

-- the number of a staged upload is below one that is above all
below_above : (k id : ℤ) (us : List Upload) → AllByRecursion (λ (u : Upload). u.id <ℤ id) us
    → is_some (find (is_staged_with k) us) ≡ true → k ≢ id
below_above k id [] above there = absurd (true≢false (sym there))
below_above k id (u ∷ us) above there = at (is_staged_with k u) refl there (below_above k id us above.1)
  where
    other : (a b : ℤ) → int_eq a b ≡ true → a <ℤ id → b ≢ id
    other a b same less is = grind (arith, ints)

    at : (b : Bool) → is_staged_with k u ≡ b → is_some (cond b (Some u) (find (is_staged_with k) us)) ≡ true
        → (is_some (find (is_staged_with k) us) ≡ true → k ≢ id) → k ≢ id
    at true is there rest = other u.id k (and_parts (is_upload k u) (is_staged u) is).0 above.0
    at false is there rest = rest there

-- a number above those of the uploads is above them in a view
above_view : (file : List ℕ) (staged : List Staged) (t : Tables) (id : ℤ) → IsAbove t id
    → IsAbove (view file staged t) id
unfolding view
above_view file staged t id above = above

-- ---- the region that was reserved

module _ (old new : List Region) (size : ℕ) (region : Region) (reserved : IsReserved old new size region) where
  -- the regions in use before are still in use
  still_used : (r : Region) → Contains old r → Contains new r
  still_used r used =
      Contains-permutation (region ∷ old) new r reserved.used (Contains-append_right (region ∷ []) old r used)

  new_used : Contains new region
  new_used = Contains-permutation (region ∷ old) new region reserved.used (zero, omega arith, refl)

  -- the region meets none of them
  apart_from : (r : Region) → Contains old r → AreSeparate region r
  apart_from r used =
      subst (λ (n : ℕ). AreApart region.start n r.start r.size) (sym reserved.size_is)
      (All-contains (λ (other : Region). AreApart region.start size other.start other.size) old r reserved.free used)

  apart_to : (r : Region) → Contains old r → AreSeparate r region
  apart_to r used = elim (apart_from r used) [ inl before ↦ inr before | inr after ↦ inl after ]

  -- none of them is it
  not_among : 0 < size → (r : Region) → Contains old r → region ≢ r
  not_among some r used is =
      apart_other r region (let same = reserved.size_is in omega (arith, same, some)) (apart_to r used) (sym is)

  -- after it was released they are in use
  pub used_again : 0 < size → (released : Bool) (left : List Region)
      → MatchBool released (IsPermutation new (region ∷ left)) ((Contains new region → ⊥) × (left ≡ new)) → (r : Region)
      → Contains old r → Contains left r
  used_again some true left is r used = at (Contains-permutation new (region ∷ left) r is (still_used r used))
    where
      at : Contains (region ∷ left) r → Contains left r
      at (zero, less, same) = absurd (not_among some r used same)
      at (suc k, less, same) = (k, omega arith, same)
  used_again some false left is r used = subst (λ (l : List Region). Contains l r) (sym is.1) (still_used r used)

-- ---- the call

module _ {T D : Type 0} (g : Ghosts T) (d : disk.Ghosts D) (s : Placed T D) (mid between rows : T) (asked : NewUpload)
    (m : Moves g (λ t. t) s.rows mid) (a : AddsNothing g s.rows mid) (m' : Moves g (λ t. t) mid between)
    (a' : AddsNothing g mid between) where
  same : Moves g (λ t. t) s.rows between
  same = moves_then g s.rows mid between m m'

  added : AddsNothing g s.rows between
  added = nothing_then g s.rows mid between a a'

  -- ---- a call that failed

  module _ (regions : Regions) (ls : Vec Staged)
      (more : (r : Region) → Contains (regions_of s.regions) r → Contains (regions_of regions) r)
      (is : ls.items ≡ staged_of s) where
    leads : (staged : List Staged) (t v : Tables) → IsBegun asked t v → (w : Tables) × IsBegun asked
        (view (d.seen s.disk) staged t) w × (left : List Staged) × Leads (d.seen s.disk) staged left t v w
    leads staged t v begun =
        let u = asked_upload asked begun.0 in
        let o = find (is_staged_in u.repo) t.uploads in
        let after = others_of_found (id_in o) staged in
        let file = d.seen s.disk in (
          after_begin u (view file staged t),
          (begun.0, above_view file staged t begun.0 begun.1, refl),
          after,
          subst (λ (x : Tables). Leads file staged after t x (after_begin u (view file staged t))) (sym begun.2)
              (leads_begun file staged t u),
        )

    -- before the database was asked to begin it
    pub begun_none : (fault : StoreFault)
        → Begins (beside g d) s (record s { rows = between; regions = regions; staged = ls }) (Err fault) asked
    begun_none fault =
        let next : Placed T D = record s { rows = between; regions = regions; staged = ls } in
        begins_none (beside g d) s next next
        (still_with g d s between s.disk (file_itself d s.disk) regions ls s.unsynced more is same added)
        (nothing_with g d s between s.disk (file_itself d s.disk) regions ls s.unsynced more is added) asked fault

    -- the database did not begin it
    pub begun_failed : (fault other : StoreFault) → Begins g between rows (Err fault) asked
        → Begins (beside g d) s (record s { rows = rows; regions = regions; staged = ls }) (Err other) asked
    begun_failed fault other begins = record {
      answers = λ k h. tt;
      made = tt;
      failed = failed_with g d s rows regions ls more is (IsBegun asked) (IsBegun asked)
          (begins_after g s.rows between rows same added (Err fault) asked begins).failed leads;
    }

-- ---- a call that began it

module _ {T D : Type 0} (g : Ghosts T) (d : disk.Ghosts D) (s : Placed T D) (mid between rows : T) (asked : NewUpload)
    (found : Option UploadRow) (finds : Finds g s.rows mid (repo_text asked.repo.now) (Ok found))
    (ids : Option UploadId) (of_row : ids ≡ option_map (λ (row : UploadRow). row.id) found) (freed : Option Region)
    (holds : FindsRegion g mid between (staged_of s) (option_map upload_number ids) (Ok freed)) where
  -- the upload that is replaced
  abbrev replaced : Option ℤ
  replaced = option_map upload_number ids

  -- the contents of the others
  abbrev left_over : List Staged
  left_over = others_of_found replaced (staged_of s)

  some_left : ArePart (staged_of s) left_over
  some_left = part_of_found replaced (staged_of s)

  holds_first : FindsRegion g s.rows between (staged_of s) replaced (Ok freed)
  holds_first = finds_after g s.rows mid between finds.same finds.adds (staged_of s) replaced (Ok freed) holds

  module _ (id : UploadId) (begins : Begins g between rows (Ok id) asked) where
    -- the upload in the tables
    abbrev asked_one : Upload
    asked_one = asked_upload asked (upload_number id)

    abbrev step : Tables → Tables
    step = after_begin asked_one

    whole : Begins g s.rows rows (Ok id) asked
    whole = begins_after g s.rows between rows holds_first.same holds_first.adds (Ok id) asked begins

    -- the upload that was found is that of the tables before the call
    is_replaced : HasTables g s.rows → IsHonest g rows
        → replaced ≡ id_in (find (is_staged_in (repo_text asked.repo.now)) (shown g s.rows).uploads)
    is_replaced h k =
        let honest = holds.same.was_honest (begins.made.moves.was_honest k) in
        let opened = holds.same.was_open (begins.made.moves.was_honest k) (begins.made.was_open k) in
        same_found found ids _ of_row
        (subst (λ (t : Tables). IsUploadOf found (find (is_staged_in (repo_text asked.repo.now)) t.uploads))
        (finds.same.shows honest h opened) (finds.answers honest h opened))

    is_held : HasTables g s.rows → IsHonest g rows → IsHeldBy replaced (staged_of s) (shown g s.rows) freed
    is_held h k = holds_first.answers (begins.made.moves.was_honest k) h (begins.made.was_open k)

    leads_after : HasTables g s.rows → IsHonest g rows
        → Leads (d.seen s.disk) (staged_of s) left_over (shown g s.rows) (step (shown g s.rows)) (step (shown_with g d s))
    leads_after h k =
        subst (λ (o : Option ℤ). LeadsTo (d.seen s.disk) (staged_of s) (shown g s.rows) asked_one (others_of_found o (staged_of s)))
        (sym (is_replaced h k)) (leads_begun (d.seen s.disk) (staged_of s) (shown g s.rows) asked_one)

    no_place : HasTables g s.rows → IsHonest g rows → HasNoPlacesOf replaced (step (shown g s.rows))
    no_place h k =
        subst (λ (o : Option ℤ). HasNoPlacesOf o (step (shown g s.rows))) (sym (is_replaced h k)) (begun_leaves asked_one (shown g s.rows))

    -- what is left has no byte in the region
    elsewhere : (it : Known g d s rows) → AllByRecursion (IsElsewhere freed) (places_in (step (shown g s.rows)))
    elsewhere it =
        unused_places d s.disk s.regions (staged_of s) (shown g s.rows) it.received it.served replaced freed (is_held it.tables it.honest)
        (step (shown g s.rows)) (leads_after it.tables it.honest).some (no_place it.tables it.honest)

    apart_left : (it : Known g d s rows) → AllByRecursion (λ (x : Staged). IsApartFrom freed x.draft.region) left_over
    apart_left it =
        unused_left d s.disk s.regions (staged_of s) (shown g s.rows) it.received it.served replaced freed (is_held it.tables it.honest)

    -- these contents go with the step
    abbrev GoesTo : Regions → List Staged → Type 0
    GoesTo regions after = Continues g d s regions after (shown g s.rows) (step (shown g s.rows)) (step (shown_with g d s))

    -- a call that made the step, with these regions in use before one of them was freed
    module _ (mid_regions regions : Regions) (ls : Vec Staged) (file : D)
        (room : HasMadeRoom asked.size (regions_of s.regions) (regions_of mid_regions))
        (is_freed : IsFreed (regions_of mid_regions) (regions_of regions) freed) where
      abbrev next : Placed T D
      next = record s { rows = rows; disk = file; regions = regions; staged = ls }

      begun_by : Makes (beside g d) step s next → Begins (beside g d) s next (Ok id) asked
          × Frees g d s next asked.size (λ t. id_in (find (is_staged_in (repo_text asked.repo.now)) t.uploads)) (Ok id)
      begun_by made = (
        record {
          answers = λ k h. let it = whole.answers k.0 h.kept.rows in
              (it.0, above_view (d.seen s.disk) (staged_of s) (shown g s.rows) (upload_number id) it.1);
          made = made;
          failed = tt;
        },
        record {
          freed = λ k h. (
            regions_of mid_regions,
            room,
            freed,
            subst (λ (o : Option ℤ). IsHeldBy o (staged_of s) (shown g s.rows) freed) (is_replaced h.rows k.0) (is_held h.rows k.0),
            is_freed,
          );
          kept = tt;
        },
      )

    -- a small content has no region
    pub begun_small : asked.size < piece_size → (regions : Regions) (ls : Vec Staged) (file : D) → ls.items ≡ left_over
        → IsFreed (regions_of s.regions) (regions_of regions) freed
        → IsAlteredBy d (KeepsRegions (regions_of regions)) s.disk file
        → Begins (beside g d) s (record s { rows = rows; disk = file; regions = regions; staged = ls }) (Ok id) asked
        × Frees g d s (record s { rows = rows; disk = file; regions = regions; staged = ls }) asked.size
        (λ t. id_in (find (is_staged_in (repo_text asked.repo.now)) t.uploads)) (Ok id)
    begun_small small regions ls file is is_freed altered = begun_by s.regions regions ls file (inl (small, refl)) is_freed
        (made_freed g d s rows s.regions regions ls file freed is_freed altered step step whole.made goes unused)
      where
        unused : (it : Known g d s rows)
            → IsUnused g d s rows s.regions regions ls file freed is_freed altered (step (shown g s.rows))
        unused it = record {
          received = subst (AllByRecursion (λ (x : Staged). IsApartFrom freed x.draft.region)) (sym is) (apart_left it);
          places = elsewhere it;
        }

        goes : Known g d s rows → GoesTo s.regions ls.items
        goes it = subst (GoesTo s.regions) (sym is) (record {
          received = part_received d s.disk s.regions (staged_of s) left_over some_left it.received;
          places = λ c p. record {
            region = p.region;
            means = p.means;
            kept = p.kept;
            used = p.used;
            some = p.some;
            apart = part_all _ (staged_of s) left_over some_left p.apart;
          };
          leads = leads_after it.tables it.honest;
          beside = λ cs places. part_all _ (staged_of s) left_over some_left;
        })

    -- of a large content nothing is written yet
    pub begun_large : piece_size ≤ asked.size → (regions last : Regions) (ls : Vec Staged) (file : D) (others : List Staged)
        (content : Staged) → content.id ≡ id → content.draft.written ≡ 0
        → IsReserved (regions_of s.regions) (regions_of regions) asked.size content.draft.region → others ≡ left_over
        → ls.items ≡ others ++ content ∷ [] → IsFreed (regions_of regions) (regions_of last) freed
        → IsAlteredBy d (KeepsRegions (regions_of last)) s.disk file
        → Begins (beside g d) s (record s { rows = rows; disk = file; regions = last; staged = ls }) (Ok id) asked
        × Frees g d s (record s { rows = rows; disk = file; regions = last; staged = ls }) asked.size
        (λ t. id_in (find (is_staged_in (repo_text asked.repo.now)) t.uploads)) (Ok id)
    begun_large large regions last ls file others content own empty reserved rest is is_freed altered =
        begun_by regions last ls file (inr (large, content.draft.region, reserved)) is_freed
        (made_freed g d s rows regions last ls file freed is_freed altered step step whole.made goes unused)
      where
        size : ℕ
        size = asked.size

        old : List Region
        old = regions_of s.regions

        new : List Region
        new = regions_of regions

        region : Region
        region = content.draft.region

        used : (r : Region) → Contains (regions_of s.regions) r → Contains (regions_of regions) r
        used = still_used old new size region reserved

        in_use : (x : Staged) → IsReceived d s.disk s.regions x → IsReceived d s.disk regions x
        in_use x r = record {
          used = used x.draft.region r.used;
          bytes = r.bytes;
          written = r.written;
          within = r.within;
          some = r.some;
        }

        new_one : IsReceived d s.disk regions content
        new_one = record {
          used = new_used old new size region reserved;
          bytes = [];
          written = record { size = sym empty; there = λ some. absurd (omega arith) };
          within = omega arith;
          some = let same = reserved.size_is in omega (arith, same, large);
        }

        list_is : ls.items ≡ left_over ++ content ∷ []
        list_is = is ∙ ap (λ (l : List Staged). l ++ content ∷ []) rest

        number_is : upload_number content.id ≡ upload_number id
        number_is = ap upload_number own

        no_pieces : received_pieces (d.seen s.disk) content ≡ []
        no_pieces =
            ap (λ (n : ℕ). pieces (upload_number content.id) (take n (drop region.start (d.seen s.disk)))) empty
            ∙ pieces_none (upload_number content.id)

        WasReceived : Staged → Type 0
        WasReceived = IsReceived d s.disk s.regions

        NowReceived : Staged → Type 0
        NowReceived = IsReceived d s.disk regions

        -- each that is left is of an upload below the new one, and apart from its content
        all_others : IsAbove (shown g s.rows) (upload_number id)
            → AllByRecursion (IsStagedIn (shown g s.rows)) (staged_of s)
            → AllByRecursion (λ (x : Staged). AllByRecursion (OfOthers x) (content ∷ [])) (staged_of s)
        all_others above = all_weaker (IsStagedIn (shown g s.rows)) (λ (x : Staged). AllByRecursion (OfOthers x) (content ∷ []))
            (λ x there. (
              (λ same. below_above (upload_number x.id) (upload_number id) (shown g s.rows).uploads above there
                  (same ∙ number_is)),
              tt,
            )) (staged_of s)

        all_apart : AllByRecursion WasReceived (staged_of s)
            → AllByRecursion (λ (x : Staged). AllByRecursion (AreStagedApart x) (content ∷ [])) (staged_of s)
        all_apart = all_weaker WasReceived (λ (x : Staged). AllByRecursion (AreStagedApart x) (content ∷ []))
            (λ x r. (apart_to old new size region reserved x.draft.region r.used, tt)) (staged_of s)

        received_after : IsAbove (shown g s.rows) (upload_number id) → AreReceived d s.disk s.regions (staged_of s)
            → AllByRecursion (IsStagedIn (shown g s.rows)) (staged_of s)
            → AreReceived d s.disk regions (left_over ++ content ∷ [])
        received_after above was there = record {
          each = all-append NowReceived left_over (content ∷ [])
              (part_all NowReceived (staged_of s) left_over some_left
              (all_weaker WasReceived NowReceived in_use (staged_of s) was.each)) (new_one, tt);
          once = ascending-append OfOthers left_over (content ∷ [])
              (part_apart OfOthers (staged_of s) left_over some_left was.once) (tt, tt)
              (part_all _ (staged_of s) left_over some_left (all_others above there));
          apart = ascending-append AreStagedApart left_over (content ∷ [])
              (part_apart AreStagedApart (staged_of s) left_over some_left was.apart) (tt, tt)
              (part_all _ (staged_of s) left_over some_left (all_apart was.each));
        }

        -- the new content has no byte in the region that is freed
        apart_new : (found : Option Region) → ((r : Region) → found ≡ Some r → Contains old r) → IsApartFrom found region
        apart_new None used = tt
        apart_new (Some r) used = apart_to old new size region reserved r (used r refl)

        unused : (it : Known g d s rows)
            → IsUnused g d s rows regions last ls file freed is_freed altered (step (shown g s.rows))
        unused it = record {
          received = subst (AllByRecursion (λ (x : Staged). IsApartFrom freed x.draft.region)) (sym list_is)
              (all-append (λ (x : Staged). IsApartFrom freed x.draft.region) left_over (content ∷ []) (apart_left it) (
                apart_new freed (λ r same.
                    held_used d s.disk s.regions (staged_of s) (shown g s.rows) it.received it.served replaced r
                    (subst (IsHeldBy replaced (staged_of s) (shown g s.rows)) same (is_held it.tables it.honest))),
                tt,
              ));
          places = elsewhere it;
        }

        -- each place is apart from the region of the new content
        place_after : (c : Chunk) → IsPlace d s.disk s.regions (staged_of s) c
            → IsPlace d s.disk regions (left_over ++ content ∷ []) c
        place_after c p = record {
          region = p.region;
          means = p.means;
          kept = p.kept;
          used = used p.region p.used;
          some = p.some;
          apart = all-append (IsAway p.region) left_over
              (content ∷ []) (part_all _ (staged_of s) left_over some_left p.apart)
              ((λ not_sealed. apart_from old new size region reserved p.region p.used), tt);
        }

        beside_after : (cs : List Chunk) → AllByRecursion (IsPlace d s.disk s.regions (staged_of s)) cs
            → AreBeside (staged_of s) cs → AreBeside (left_over ++ content ∷ []) cs
        beside_after cs places all = all-append (λ (x : Staged). AllByRecursion (IsBeside x) cs) left_over (content ∷ [])
            (part_all _ (staged_of s) left_over some_left all) (
              all_weaker (IsPlace d s.disk s.regions (staged_of s)) (IsBeside content)
                  (λ c p r means.
                  subst (AreSeparate region) (same_Some p.region r (sym p.means ∙ means)) (apart_from old new size region reserved p.region p.used))
                  cs places,
              tt,
            )

        goes : Known g d s rows → GoesTo regions ls.items
        goes it =
            let t = shown g s.rows in
            let l = leads_after it.tables it.honest in
            subst (GoesTo regions) (sym list_is) (record {
              received = received_after (whole.answers it.honest it.tables).1 it.received it.served.uploads;
              places = place_after;
              beside = beside_after;
              leads = record {
                shown = view-staged-empty (d.seen s.disk) left_over (step t) content no_pieces ∙ l.shown;
                some = l.some;
                uploads = λ all. all-append (IsStagedIn (step t)) left_over (content ∷ []) (l.uploads all) (
                  subst (λ (n : ℤ). is_some (find (is_staged_with n) (step t).uploads) ≡ true) (sym number_is)
                      (staged_last asked_one t refl),
                  tt,
                );
              };
            })
