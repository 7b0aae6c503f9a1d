-- A region goes out of use, and the file may be cut: all other contents are still there.
use Rattle.placed.proofs.Prelude.{◌≡◌, ◌≢◌, ◌≤◌, true, none-some, same_Some, inl, inr, ℕ, suc, zero, ℤ, pos, List, ◌∷◌, Option, Some, None, arith, sym, ap, subst, ◌∙◌, Contains, Vec, AllByRecursion, IsAscending, all_weaker, all-append, same_int, and_parts, int_eq, Region, Regions, regions_of, HasContent, HasWritten, IsAlteredBy, Chunk, Tables, is_chunk, upload_number, Ghosts, shown, IsOpen, Makes, Placed, Staged, place_number, is_place, region_in, pieces, pieces_at, received_pieces, others_of, others_of_found, view, AreSeparate, AreStagedApart, ArePlacesApart, OfOthers, IsBeside, IsPlace, IsReceived, AreReceived, IsServed, AreOfOthers, places_in, shown_with, AreHonest, HasPlaces, IsPlaced, beside}
use Rattle.std.proofs.lemmas.List.Sorted.{Contains-permutation}
use Rattle.sqlite_keyed.proofs.ListLemmas.{all_of, all_both}
use Rattle.sqlite_disk.specs.declared.Disk as disk
use Rattle.contents.specs.Files.{KeepsRegions}
use Rattle.placed.specs.Freed.{IsFreed, IsHeldBy, IsReceivedIn}
use Rattle.placed.specs.Seeking.{IsAtPlace}
use Rattle.placed.proofs.Bytes.{written_is}
use Rattle.placed.proofs.Keeping.{pieces_alike}
use Rattle.placed.proofs.Lists.{all_middle, ascending_middle, find_kept, found_among, found_middle, found_passes}
use Rattle.placed.proofs.Tracked.{HasSomePlaces, places-kept, places-remain, others-same, others_turned}
use Rattle.placed.proofs.Views.{view-same}
use Rattle.placed.proofs.Written.{turned_around}
use Rattle.placed.proofs.Completed.{without_one}
use Rattle.placed.proofs.Both.{makes}
use Rattle.placed.proofs.Leading.{Known, known}
use Rattle.placed.proofs.Restaged.{GoesOn, placed_with}

-- ---- the regions in use

-- the region has no byte in common with the one that was found
abbrev pub IsApartFrom : Option Region → Region → Type 0
IsApartFrom None r = Unit {0}
IsApartFrom (Some region) r = AreSeparate region r

-- nor has the place of the row
abbrev pub IsElsewhere : Option Region → Chunk → Type 0
IsElsewhere found c = (r : Region) → region_in c.bytes ≡ Some r → IsApartFrom found r

-- a region with bytes is not one that has no byte in common with it
pub apart_other : (a b : Region) → 1 ≤ b.size → AreSeparate a b → a ≢ b
apart_other a b some apart same =
    let here : AreSeparate b b = subst (λ (r : Region). AreSeparate r b) same apart in
    elim here [ inl before ↦ omega arith | inr after ↦ omega arith ]

pub used_still : (old new : List Region) (found : Option Region) → IsFreed old new found → (r : Region) → 1 ≤ r.size
    → IsApartFrom found r → Contains old r → Contains new r
used_still old new None is r some apart used = subst (λ (l : List Region). Contains l r) (sym is) used
used_still old new (Some region) (inl is) r some apart used = at (Contains-permutation old (region ∷ new) r is used)
  where
    at : Contains (region ∷ new) r → Contains new r
    at (zero, less, same) = absurd (apart_other region r some apart same)
    at (suc k, less, same) = (k, omega arith, same)
used_still old new (Some region) (inr is) r some apart used = subst (λ (l : List Region). Contains l r) (sym is.1) used

-- a file that is not touched
pub unaltered : {D : Type 0} (d : disk.Ghosts D) (disk : D) (used : List Region) → IsAlteredBy d (KeepsRegions used) disk disk
unaltered d disk used = record {
  seen = λ r there at bytes from to has. has;
  stop = λ left may. (left, may, λ r there at bytes from to has. has);
  clean = λ k. k;
}

-- ---- the contents in the file

module _ {D : Type 0} (d : disk.Ghosts D) (disk file : D) (was now : Regions) (found : Option Region)
    (freed : IsFreed (regions_of was) (regions_of now) found)
    (altered : IsAlteredBy d (KeepsRegions (regions_of now)) disk file) where
  content_kept : (old new : List ℕ) → KeepsRegions (regions_of now) old new → (r : Region)
      → Contains (regions_of now) r → (content : List ℕ) → HasContent old r content → HasContent new r content
  content_kept old new keeps r used content has = record {
    size = has.size;
    there = keeps r used r.start content (omega arith) (omega (arith, has.size)) has.there;
  }

  pub place_kept : (staged : List Staged) (c : Chunk) → IsPlace d disk was staged c → IsElsewhere found c
      → IsPlace d file now staged c
  place_kept staged c p apart =
      let used = used_still (regions_of was) (regions_of now) found freed p.region p.some (apart p.region p.means) p.used in
      let k = p.kept in record {
        region = p.region;
        means = p.means;
        kept = record {
          content = k.content;
          seen = content_kept (d.seen disk) (d.seen file) altered.seen p.region used k.content k.seen;
          left = λ left may. let it = altered.stop left may in content_kept it.0 left it.2 p.region used k.content (k.left it.0 it.1);
        };
        used = used;
        apart = p.apart;
        some = p.some;
      }

  pub place_pieces : (staged : List Staged) (c : Chunk) → IsPlace d disk was staged c → IsElsewhere found c
      → pieces_at (d.seen file) c ≡ pieces_at (d.seen disk) c
  place_pieces staged c p apart =
      let used = used_still (regions_of was) (regions_of now) found freed p.region p.some (apart p.region p.means) p.used in
      pieces_alike (d.seen file) (d.seen disk) c p.region p.kept.content p.means
      (content_kept (d.seen disk) (d.seen file) altered.seen p.region used p.kept.content p.kept.seen) p.kept.seen

  -- what is written of another content
  still_written : (s : Staged) → (r : IsReceived d disk was s) → IsApartFrom found s.draft.region
      → HasWritten (d.seen file) s.draft r.bytes
  still_written s r apart = record {
    size = r.written.size;
    there = altered.seen s.draft.region
        (used_still (regions_of was) (regions_of now) found freed s.draft.region r.some apart r.used)
        s.draft.region.start r.bytes (omega arith) (omega (arith, r.written.size, r.within)) r.written.there;
  }

  pub received_kept : (s : Staged) → IsReceived d disk was s → IsApartFrom found s.draft.region
      → IsReceived d file now s
  received_kept s r apart = record {
    used = used_still (regions_of was) (regions_of now) found freed s.draft.region r.some apart r.used;
    bytes = r.bytes;
    written = still_written s r apart;
    within = r.within;
    some = r.some;
  }

  pub same_received : (s : Staged) → IsReceived d disk was s → IsApartFrom found s.draft.region
      → received_pieces (d.seen file) s ≡ received_pieces (d.seen disk) s
  same_received s r apart =
      ap (pieces (upload_number s.id))
      (written_is (d.seen file) s.draft r.bytes (still_written s r apart) ∙ sym (written_is (d.seen disk) s.draft r.bytes r.written))

-- ---- a call that is made durably, after which a region goes out of use

module _ {T D : Type 0} (g : Ghosts T) (d : disk.Ghosts D) (s : Placed T D) (rows : T) (mid regions : Regions)
    (ls : Vec Staged) (file : D) (found : Option Region)
    (freed : IsFreed (regions_of mid) (regions_of regions) found)
    (altered : IsAlteredBy d (KeepsRegions (regions_of regions)) s.disk file) where
  -- nothing that is left has a byte in the region
  pub record IsUnused (t : Tables) : Type 0 where
    pub received : AllByRecursion (λ (x : Staged). IsApartFrom found x.draft.region) ls.items
    pub places : AllByRecursion (IsElsewhere found) (places_in t)

  abbrev next : Placed T D
  next = record s { rows = rows; disk = file; regions = regions; staged = ls }

  -- a place before it, and after it
  abbrev WasPlace : Chunk → Type 0
  WasPlace = IsPlace d s.disk mid ls.items

  abbrev NowPlace : Chunk → Type 0
  NowPlace = IsPlace d file regions ls.items

  pub made_freed : (step after : Tables → Tables) → Makes g step s.rows rows → GoesOn g d s rows mid ls step after
      → (Known g d s rows → IsUnused (step (shown g s.rows))) → Makes (beside g d) after s next
  made_freed step after m go unused = makes g d s next (λ k. (altered.clean k.0, k.1)) placed step after m shows
    where
      t : Tables
      t = step (shown g s.rows)

      honest : AreHonest g d next → AreHonest g d (record s { rows = rows; regions = mid; staged = ls })
      honest k = (k.0, (altered.clean k.1.0, k.1.1))

      before : HasPlaces g d s → AreHonest g d next → Known g d s rows
      before h k = known g d s rows m.moves.was_honest h (honest k) (m.was_open k.0)

      is_shown : HasPlaces g d s → AreHonest g d next → shown g rows ≡ t
      is_shown h k = m.moves.shows k.0 h.rows (m.is_open k.0)

      was : HasPlaces g d s → AreHonest g d next → IsPlaced g d (record s { rows = rows; regions = mid; staged = ls })
      was h k = placed_with g d s rows mid ls step after m go h (honest k)

      served : HasPlaces g d s → AreHonest g d next → IsServed d s.disk mid ls.items t
      served h k = subst (IsServed d s.disk mid ls.items) (is_shown h k) ((was h k).served (m.is_open k.0))

      now : HasPlaces g d s → AreHonest g d next → IsServed d file regions ls.items (shown g rows)
      now h k =
          let e = served h k in
          subst (IsServed d file regions ls.items) (sym (is_shown h k)) (record {
            places = all_both WasPlace (IsElsewhere found) NowPlace (place_kept d s.disk file mid regions found freed altered ls.items)
                (places_in t) e.places (unused (before h k)).places;
            single = e.single;
            uploads = e.uploads;
            separate = e.separate;
            beside = e.beside;
          })

      placed : HasPlaces g d s → AreHonest g d next → IsPlaced g d next
      placed h k =
          let r = (was h k).received in
          let here = now h k in record {
            received = record {
              each = all_both (IsReceived d s.disk mid) (λ (x : Staged). IsApartFrom found x.draft.region) (IsReceived d file regions)
                  (received_kept d s.disk file mid regions found freed altered) ls.items r.each (unused (before h k)).received;
              once = r.once;
              apart = r.apart;
            };
            served = λ o. here;
            left = λ u leaves. places-remain NowPlace (shown g rows) u ((m.durable h.rows).only k.0 u leaves) here.places;
          }

      shows : HasPlaces g d s → AreHonest g d next → IsOpen g rows
          → view (d.seen file) ls.items t ≡ after (shown_with g d s)
      shows h k o =
          let free = unused (before h k) in
          view-same (d.seen s.disk) (d.seen file) ls.items t
          (all_both WasPlace (IsElsewhere found) (λ c. pieces_at (d.seen file) c ≡ pieces_at (d.seen s.disk) c)
          (place_pieces d s.disk file mid regions found freed altered ls.items) (places_in t) (served h k).places free.places)
          (all_both (IsReceived d s.disk mid) (λ (x : Staged). IsApartFrom found x.draft.region)
          (λ x. received_pieces (d.seen file) x ≡ received_pieces (d.seen s.disk) x)
          (same_received d s.disk file mid regions found freed altered) ls.items (was h k).received.each free.received)
          ∙ (go (before h k)).leads.shown

-- ---- the region of an upload

-- no place of these tables is of the upload
abbrev pub HasNoPlacesOf : Option ℤ → Tables → Type 0
HasNoPlacesOf None t = Unit {0}
HasNoPlacesOf (Some id) t = AllByRecursion (λ (c : Chunk). c.upload ≢ id) (places_in t)

module _ {D : Type 0} (d : disk.Ghosts D) (disk : D) (regions : Regions) (staged : List Staged) (t : Tables)
    (received : AreReceived d disk regions staged) (served : IsServed d disk regions staged t) where
  abbrev IsLeftOver : Option ℤ → Option Region → Type 0
  IsLeftOver k found = AllByRecursion (λ (x : Staged). IsApartFrom found x.draft.region) (others_of_found k staged)

  -- the region of a content that is being received
  module _ (id : ℤ) (region : Region) where
    received_left : IsReceivedIn id staged region → IsLeftOver (Some id) (Some region)
    received_left it =
        let once = ascending_middle OfOthers it.before it.after it.content (subst (IsAscending OfOthers) it.is received.once) in
        let apart = ascending_middle AreStagedApart it.before it.after it.content (subst (IsAscending AreStagedApart) it.is received.apart) in
        let near : (xs : List Staged) → AllByRecursion (λ (x : Staged). AreSeparate it.content.draft.region x.draft.region) xs
        → AllByRecursion (λ (x : Staged). AreSeparate region x.draft.region) xs =
        λ xs. subst (λ (r : Region). AllByRecursion (λ (x : Staged). AreSeparate r x.draft.region) xs) (sym it.region_is) in
        subst (AllByRecursion (λ (x : Staged). AreSeparate region x.draft.region))
        (sym
        (ap (others_of id) it.is ∙ without_one id it.before it.after it.content it.of_upload
        (all_weaker (λ (x : Staged). OfOthers x it.content) (λ x. upload_number x.id ≢ id)
        (λ x other same. other (same ∙ sym it.of_upload)) it.before once.0)
        (subst (λ k. AreOfOthers k it.after) it.of_upload (others_turned it.content it.after once.1))))
        (all-append (λ (x : Staged). AreSeparate region x.draft.region) it.before it.after
        (near it.before (all_weaker (λ (x : Staged). AreStagedApart x it.content) (λ x. AreSeparate it.content.draft.region x.draft.region)
        (λ x side. turned_around x.draft.region it.content.draft.region side) it.before apart.0))
        (near it.after apart.1))

    received_elsewhere : IsReceivedIn id staged region → AllByRecursion (IsElsewhere (Some region)) (places_in t)
    received_elsewhere it =
        subst (λ (r : Region). AllByRecursion (IsElsewhere (Some r)) (places_in t)) (sym it.region_is)
        (all_middle (λ (x : Staged). AllByRecursion (IsBeside x) (places_in t)) it.before it.after it.content
        (subst (AllByRecursion (λ (x : Staged). AllByRecursion (IsBeside x) (places_in t))) it.is served.beside)).1.0

    -- the region of a place
    is_a_place : (c : Chunk) → is_chunk id (pos place_number) c ≡ true → is_place c ≡ true
    is_a_place c is = (and_parts (int_eq c.upload id) (int_eq c.n (pos place_number)) is).1

    place_left : IsAtPlace id staged t region → IsLeftOver (Some id) (Some region)
    place_left it =
        subst (AllByRecursion (λ (x : Staged). AreSeparate region x.draft.region)) (sym (others-same id staged it.others))
        (all_weaker (λ (x : Staged). AllByRecursion (IsBeside x) (places_in t)) (λ x. AreSeparate region x.draft.region)
        (λ x near. turned_around x.draft.region region
        ((found_among (IsBeside x) (is_chunk id (pos place_number)) is_place is_a_place t.chunks it.place it.there near).0 region it.means))
        staged served.beside)

    place_elsewhere : IsAtPlace id staged t region
        → AllByRecursion (λ (c : Chunk). c.upload ≢ id → IsElsewhere (Some region) c) (places_in t)
    place_elsewhere it =
        let own = same_int it.place.upload id
        (and_parts (int_eq it.place.upload id) (int_eq it.place.n (pos place_number))
        (found_passes (is_chunk id (pos place_number)) t.chunks it.place it.there)).0 in
        let cut = found_middle (is_chunk id (pos place_number)) (places_in t) it.place
        (find_kept (is_chunk id (pos place_number)) is_place is_a_place t.chunks ∙ it.there) in
        let apart = ascending_middle ArePlacesApart cut.0 cut.1 it.place (subst (IsAscending ArePlacesApart) cut.2 served.separate) in
        let Far : Chunk → Type 0 = λ c. c.upload ≢ id → IsElsewhere (Some region) c in
        subst (AllByRecursion Far) (sym cut.2)
        (all-append Far cut.0 (it.place ∷ cut.1)
        (all_weaker (λ (c : Chunk). ArePlacesApart c it.place) Far
        (λ c sides other r means. turned_around r region (sides r region means it.means)) cut.0 apart.0) (
          (λ other. absurd (other own)),
          all_weaker (ArePlacesApart it.place) Far
              (λ c sides other r means. sides region r it.means means) cut.1 apart.1,
        ))

  -- the region is in use
  pub held_used : (k : Option ℤ) (region : Region) → IsHeldBy k staged t (Some region) → Contains (regions_of regions) region
  held_used None region is = absurd (none-some region (sym is))
  held_used (Some id) region (inl it) =
      subst (Contains (regions_of regions)) (sym it.region_is)
      (all_middle (IsReceived d disk regions) it.before it.after it.content
      (subst (AllByRecursion (IsReceived d disk regions)) it.is received.each)).1.0.used
  held_used (Some id) region (inr it) =
      let p = (found_among (IsPlace d disk regions staged) (is_chunk id (pos place_number)) is_place (is_a_place id region) t.chunks
      it.place it.there served.places).0 in
      subst (Contains (regions_of regions)) (same_Some p.region region (sym p.means ∙ it.means)) p.used

  -- nothing that is left after the upload was removed has a byte in its region
  pub unused_left : (k : Option ℤ) (found : Option Region) → IsHeldBy k staged t found → IsLeftOver k found
  unused_left None None is = all_of _ (λ x. tt) staged
  unused_left None (Some region) is = absurd (none-some region (sym is))
  unused_left (Some id) None is = all_of _ (λ x. tt) (others_of id staged)
  unused_left (Some id) (Some region) (inl it) = received_left id region it
  unused_left (Some id) (Some region) (inr it) = place_left id region it

  pub unused_places : (k : Option ℤ) (found : Option Region) → IsHeldBy k staged t found → (v : Tables)
      → HasSomePlaces t v → HasNoPlacesOf k v → AllByRecursion (IsElsewhere found) (places_in v)
  unused_places None None is v some none = all_of _ (λ c r means. tt) (places_in v)
  unused_places None (Some region) is v some none = absurd (none-some region (sym is))
  unused_places (Some id) None is v some none = all_of _ (λ c r means. tt) (places_in v)
  unused_places (Some id) (Some region) (inl it) v some none =
      places-kept (IsElsewhere (Some region)) t v some (received_elsewhere id region it)
  unused_places (Some id) (Some region) (inr it) v some none =
      let Far : Chunk → Type 0 = λ c. c.upload ≢ id → IsElsewhere (Some region) c in
      all_both Far (λ (c : Chunk). c.upload ≢ id) (IsElsewhere (Some region)) (λ c far other. far other) (places_in v)
      (places-kept Far t v some (place_elsewhere id region it)) none
