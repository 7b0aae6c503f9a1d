-- How the completion of a content in the file ends.
use Rattle.placed.proofs.Prelude.{AreBeside, ArePlacesApart, IsAscending, IsBeside, region_in, ◌≡◌, ◌≢◌, inl, inr, suc, take, drop, ℕ, ℤ, true, false, List, [], ◌∷◌, ◌++◌, map, filter, Some, None, Result, Ok, Err, refl, sym, ap, subst, ◌∙◌, true≢false, IsTrue, IsErr, Vec, AllByRecursion, flat_map, all_weaker, all-append, Region, Draft, Chunk, Tables, upload_number, completion_of, after_complete, asked_chunk, StoreFault, LastChunk, Completion, UploadId, Ghosts, normal, settled, Remains, arranged, IsHonest, IsOpen, HasTables, shown, Moves, AddsNothing, Changes, Placed, Staged, pieces, place_number, is_place, is_piece, view, others_of, pieces_at, AreSeparate, OfOthers, IsStagedIn, IsPlace, IsReceived, IsServed, HasSinglePlaces, places_in, staged_of, AreHonest, shown_with, IsPlaced, HasPlaces, beside, place_in, AreOfOthers, is_some, find, is_staged_with, AreStagedApart}
use Rattle.sqlite_disk.specs.declared.Disk as disk
use Rattle.sqlite_keyed.proofs.ListLemmas.{flat_map-map}
use Rattle.tables.specs.declared.rows.Completion.TheVariants as completion
use Rattle.placed.proofs.Seeking.{no-places-of}
use Rattle.placed.proofs.Settled.{settled-left}
use Rattle.placed.proofs.Tracked.{others-apart, places-remain}
use Rattle.placed.proofs.Views.{view-normal, view-same, found_id}
use Rattle.placed.proofs.Keeping.{place_same, file_itself, AreAway, IsAway}
use Rattle.placed.proofs.Both.{alike, makes, fails}
use Rattle.placed.proofs.Forward.{still, nothing}
use Rattle.placed.proofs.After.{changes_after, fails_after, was_honest}
use Rattle.placed.proofs.Written.{WritesPast, unchanged, still_received, still_pieces, pieces_around, same_places, goes_back, write_fails}
use Rattle.placed.proofs.Completed.{IsNew, Completes, said, said_other, cases, places_and, single_and, staged_and, without_one, beside_file, others_around, separate_around, place_there, place_separate, contents_beside, with_place, step_new, shows_new}
use Rattle.placed.proofs.Lists.{all_exchanged, ascending_exchanged, alike_at, all_middle, list_at}
use Rattle.placed.proofs.Leading.{ArePart, others_part, part_all, part_received}

-- the upload of a content, and what is written of it
abbrev pub draft_of : Staged → UploadId × Draft
draft_of x = (x.id, x.draft)

viewed_uploads : (file : List ℕ) (staged : List Staged) (t : Tables) → (view file staged t).uploads ≡ t.uploads
unfolding view
viewed_uploads file staged t = refl

-- contents that differ in nothing but whether they are sealed show the same
pub view_alike : (file : List ℕ) (xs ys : List Staged) (t : Tables) → map draft_of xs ≡ map draft_of ys
    → view file xs t ≡ view file ys t
unfolding view
view_alike file xs ys t same =
    ap (λ (cs : List Chunk).
    record (view file [] t) { chunks = arranged (filter is_piece t.chunks ++ (flat_map (pieces_at file) (filter is_place t.chunks) ++ cs)) })
    (sym (flat_map-map bytes_at draft_of xs) ∙ ap (flat_map bytes_at) same ∙ flat_map-map bytes_at draft_of ys)
  where
    bytes_at : UploadId × Draft → List Chunk
    bytes_at it = pieces (upload_number it.0) (take it.1.written (drop it.1.region.start file))

module _ {T D : Type 0} (g : Ghosts T) (d : disk.Ghosts D) (old : Placed T D) (mid : T)
    (moved : Moves g (λ t. t) old.rows mid) (added : AddsNothing g old.rows mid) {file : D} {index : ℕ} {e : Staged}
    (w : WritesPast d (staged_of old) old.disk file index e) where
  abbrev pre : List Staged
  pre = take index (staged_of old)

  abbrev post : List Staged
  post = drop (suc index) (staged_of old)

  is_there : staged_of old ≡ pre ++ e ∷ post
  is_there = list_at (staged_of old) index e w.less w.at

  -- the content was not written whole, or the memory for its row was refused
  pub not_written : {X : Type 0} (fault : StoreFault) (after : Tables → Tables) (P : Tables → X → Type 0)
      → Changes (beside g d) old (record old { rows = mid; disk = file }) (Err fault) after P
  not_written fault after P = record {
    answers = λ k h. tt;
    made = tt;
    failed =
        fails_after (beside g d) old (record old { rows = mid }) (record old { rows = mid; disk = file })
        (still g d old mid moved added) (nothing g d old mid added) (λ t v. v ≡ after t)
        (write_fails g d (record old { rows = mid }) old.staged (unchanged g d old w)
        (λ h k. still_received g d (record old { rows = mid }) w (h.placed (k.0, (w.altered.clean k.1.0, k.1.1))))
        (λ before k. still_pieces g d (record old { rows = mid }) w before) refl (λ t v. v ≡ after t));
  }

  pub not_written_by : {X : Type 0} (r : Result X StoreFault) → IsErr r → (after : Tables → Tables) (P : Tables → X → Type 0)
      → Changes (beside g d) old (record old { rows = mid; disk = file }) r after P
  not_written_by (Ok x) bad after P = absurd (true≢false (sym bad))
  not_written_by (Err fault) bad after P = not_written fault after P

  module _ (rows : T) {id : ℤ} {last place : LastChunk} (ends : Completes d old.disk file e id last place)
      (oid : List ℕ) (size : ℤ)
      (lacks : IsHonest g mid → HasTables g old.rows → place_in id (shown g old.rows) ≡ None) where
    -- the store after the call, and the places in it
    abbrev next : Vec Staged → Placed T D
    next ls = record old { rows = rows; disk = file; staged = ls }

    abbrev PlaceIn : List Staged → Chunk → Type 0
    PlaceIn = IsPlace d file old.regions

    abbrev step : Tables → Tables
    step t = normal (after_complete id place oid size t)

    abbrev after : Tables → Tables
    after t = normal (after_complete id last oid size t)

    abbrev Says : Tables → Completion → Type 0
    Says t x = completion_of id oid size t ≡ Some x

    says_seen : (file' : List ℕ) (staged : List Staged) (t : Tables) (x : Completion) → Says t x
        → Says (view file' staged t) x
    unfolding view
    says_seen file' staged t x is = is

    abbrev t : Tables
    t = shown g old.rows

    beside_now : IsPlaced g d old → IsPlaced g d (record old { disk = file })
    beside_now = beside_file g d old w

    others_now : IsPlaced g d old → AreOfOthers id pre × AreOfOthers id post
    others_now before =
        let it = others_around g d old w before in
        (subst (λ k. AreOfOthers k pre) ends.own it.0, subst (λ k. AreOfOthers k post) ends.own it.1)

    -- the place beside the contents around it
    row_there : IsPlaced g d old → (staged : List Staged) → AreAway e.draft.region staged → (upload : ℤ)
        → PlaceIn staged (asked_chunk upload place_number place.bytes.items)
    row_there = place_there g d old w ends oid size

    -- with one place more
    places_more : IsPlaced g d old → (staged : List Staged) → AreAway e.draft.region staged
        → AllByRecursion (PlaceIn staged) (places_in t) → (new : IsNew id oid size t)
        → AllByRecursion (PlaceIn staged) (places_in (step t))
    places_more before staged apart all new =
        subst (λ (v : Tables). AllByRecursion (PlaceIn staged) (places_in v))
        (sym (step_new g d old w ends oid size t new))
        (places_and t new.upload place.bytes.items (PlaceIn staged)
        (λ c p. record { region = p.region; means = p.means; kept = p.kept; used = p.used; apart = p.apart; some = p.some })
        (row_there before staged apart new.upload.id) all)

    apart_around : IsPlaced g d old → AreAway e.draft.region pre × AreAway e.draft.region post
    apart_around before =
        let it = separate_around g d old w before in
        let loosen : (xs : List Staged) → AllByRecursion (λ (x : Staged). AreSeparate x.draft.region e.draft.region) xs
        → AreAway e.draft.region xs =
        λ xs. all_weaker (λ (x : Staged). AreSeparate x.draft.region e.draft.region) (IsAway e.draft.region) (λ x apart open_. apart) xs in
        (loosen pre it.0, loosen post it.1)

    both_shown : IsPlaced g d old → IsServed d old.disk old.regions (staged_of old) t → (new : IsNew id oid size t)
        → view (d.seen file) (pre ++ post) (step t) ≡ after (shown_with g d old)
    both_shown before served new =
        shows_new g d old w ends oid size before t served.places new

    module _ (r : Result Completion StoreFault) (call : Changes g mid rows r step Says) where
      before_call : IsHonest g rows → IsHonest g mid
      before_call = was_honest g mid rows step r Says call

      -- the same call, after the one that was made first
      whole : Changes g old.rows rows r step Says
      whole = changes_after g old.rows mid rows moved added Says step r call

      honest_old : IsTrue (d.is_clean file) × (old.has_lost ≡ false) → IsHonest g rows → AreHonest g d old
      honest_old k h = (moved.was_honest (before_call h), (w.altered.clean k.0, k.1))

      -- the upload is complete
      pub completed : r ≡ Ok completion.New → (ls : Vec Staged) → ls.items ≡ others_of id (staged_of old)
          → Changes (beside g d) old (next ls) (Ok completion.New) after Says
      completed same_result ls is = record {
        answers = λ k h. let it = all.answers k.0 h.kept.rows in (it.0, says_seen (d.seen old.disk) (staged_of old) t completion.New it.1);
        made = makes g d old (next ls) (λ k. (w.altered.clean k.0, k.1)) placed step after all.made
            (λ h k o. let before = h.placed (honest_old k.1 k.0) in
            ap (λ xs. view (d.seen file) xs (step t)) (is_around before) ∙ both_shown before (before.served (all.made.was_open k.0)) (new h k));
        failed = tt;
      }
        where
          all : Changes g old.rows rows (Ok completion.New) step Says
          all = subst (λ q. Changes g old.rows rows q step Says) same_result whole

          new : HasPlaces g d old → AreHonest g d (next ls) → IsNew id oid size t
          new h k = said id place oid size t completion.New (all.answers k.0 h.rows).1 refl

          is_around : IsPlaced g d old → ls.items ≡ pre ++ post
          is_around before = let it = others_now before in is ∙ ap (others_of id) is_there ∙ without_one id pre post e ends.own it.0 it.1

          part : ArePart (staged_of old) ls.items
          part = subst (ArePart (staged_of old)) (sym is) (others_part id (staged_of old))

          placed : HasPlaces g d old → AreHonest g d (next ls) → IsPlaced g d (next ls)
          placed h k =
              let before = h.placed (honest_old k.1 k.0) in
              let now = beside_now before in
              let served = now.served (all.made.was_open k.0) in
              let it = new h k in
              let u = it.upload in
              let same = found_id id t u it.found in
              let is_shown = all.made.moves.shows k.0 h.rows (all.made.is_open k.0) in
              let seen = is_shown ∙ step_new g d old w ends oid size t it in
              let guards = apart_around before in
              let sides = separate_around g d old w before in
              let near = all_middle (λ (x : Staged). AllByRecursion (IsBeside x) (places_in t)) pre post e
              (subst (λ (l : List Staged). AreBeside l (places_in t)) is_there served.beside) in
              let around : AreAway e.draft.region ls.items =
              subst (AreAway e.draft.region) (sym (is_around before)) (all-append _ pre post guards.0 guards.1) in
              let places : AllByRecursion (PlaceIn ls.items) (places_in (shown g rows)) =
              subst (λ (v : Tables). AllByRecursion (PlaceIn ls.items) (places_in v)) (sym is_shown)
              (places_more before ls.items around
              (all_weaker (PlaceIn (staged_of old)) (PlaceIn ls.items)
              (place_same d file file old.regions old.regions (λ r used. used) (file_itself d file)
              (staged_of old) ls.items
              (λ region every. part_all _ (staged_of old) ls.items part every)) _ served.places) it) in
              record {
                received = part_received d file old.regions (staged_of old) ls.items part now.received;
                served = λ o. record {
                  places = places;
                  single = subst HasSinglePlaces (sym seen)
                      (single_and t u place.bytes.items (subst (λ k. AllByRecursion (λ (c : Chunk). c.upload ≢ k) (places_in t)) (sym same)
                      (no-places-of id t.chunks (lacks (before_call k.0) h.rows))) served.single);
                  uploads = subst (λ (v : Tables). AllByRecursion (IsStagedIn v) ls.items) (sym seen)
                      (staged_and t u place.bytes.items ls.items
                      (part_all _ (staged_of old) ls.items part served.uploads)
                      (subst (λ k. AreOfOthers k ls.items) (sym same) (subst (AreOfOthers id) (sym is) (others-apart id (staged_of old)))));
                  separate = subst (λ (v : Tables). IsAscending ArePlacesApart (places_in v)) (sym seen)
                      (place_separate g d old w ends oid size t u near.1.0 served.separate);
                  beside = subst (λ (v : Tables). AreBeside ls.items (places_in v)) (sym seen)
                      (subst (λ (l : List Staged). AreBeside l (places_in (with_place t u place.bytes.items))) (sym (is_around before))
                      (all-append (λ (x : Staged). AllByRecursion (IsBeside x) (places_in (with_place t u place.bytes.items))) pre post
                      (contents_beside g d old w ends oid size t u pre sides.0 near.0)
                      (contents_beside g d old w ends oid size t u post sides.1 near.1.1)));
                };
                left = λ v leaves. places-remain (PlaceIn ls.items) (shown g rows) v ((all.made.durable h.rows).only k.0 v leaves) places;
              }

      -- nothing changes in the database
      same_step : (v : Tables) → normal v ≡ v → after_complete id place oid size v ≡ v → step v ≡ v
      same_step v ordered is = ap normal is ∙ ordered

      -- the file shows what it showed
      same_view : IsPlaced g d old → IsOpen g old.rows → view (d.seen file) (staged_of old) t ≡ shown_with g d old
      same_view before o =
          view-same (d.seen old.disk) (d.seen file) (staged_of old) t
          (same_places g d old old.staged (unchanged g d old w) before _ (before.served o).places)
          (pieces_around g d old old.staged (unchanged g d old w) before (still_pieces g d old w before) refl)

      -- the upload is not complete: there is such an object, or the bytes have another name or size
      pub not_completed : (x : Completion) → (x ≡ completion.New → ⊥) → r ≡ Ok x
          → Changes (beside g d) old (record old { rows = rows; disk = file }) (Ok x) after Says
      not_completed x other same_result = record {
        answers = λ k h. let it = all.answers k.0 h.kept.rows in (it.0, says_seen (d.seen old.disk) (staged_of old) t x it.1);
        made = makes g d old (record old { rows = rows; disk = file }) (λ k. (w.altered.clean k.0, k.1)) placed step after all.made
            (λ h k o. let before = h.placed (honest_old k.1 k.0) in
            let opened = all.made.was_open k.0 in
            ap (view (d.seen file) (staged_of old)) (unchanged h k) ∙ same_view before opened
            ∙ sym
            (ap normal
            (said_other id last oid size (shown_with g d old) x (says_seen (d.seen old.disk) (staged_of old) t x (all.answers k.0 h.rows).1) other)
            ∙ view-normal (d.seen old.disk) (staged_of old) t));
        failed = tt;
      }
        where
          all : Changes g old.rows rows (Ok x) step Says
          all = subst (λ q. Changes g old.rows rows q step Says) same_result whole

          unchanged : HasPlaces g d old → AreHonest g d (record old { rows = rows; disk = file }) → step t ≡ t
          unchanged h k =
              same_step t (h.rows.ordered (moved.was_honest (before_call k.0)) (all.made.was_open k.0))
              (said_other id place oid size t x (all.answers k.0 h.rows).1 other)

          placed : HasPlaces g d old → AreHonest g d (record old { rows = rows; disk = file }) → IsPlaced g d (record old { rows = rows; disk = file })
          placed h k =
              let now = beside_now (h.placed (honest_old k.1 k.0)) in
              let is_shown = all.made.moves.shows k.0 h.rows (all.made.is_open k.0) ∙ unchanged h k in
              let served = subst (IsServed d file old.regions (staged_of old)) (sym is_shown) (now.served (all.made.was_open k.0)) in
              record {
                received = now.received;
                served = λ o. served;
                left = λ v leaves. places-remain (PlaceIn (staged_of old)) (shown g rows) v
                    ((all.made.durable h.rows).only k.0 v leaves) served.places;
              }

      -- the database refused: the place may be there after a stop, so the content is sealed
      pub completion_failed : (fault : StoreFault) → r ≡ Err fault → (sealed : Staged) → sealed.id ≡ e.id
          → sealed.draft ≡ e.draft → sealed.is_sealed ≡ true → (ls : Vec Staged) → ls.items ≡ pre ++ sealed ∷ post
          → Changes (beside g d) old (next ls) (Err fault) after Says
      completion_failed fault same_result sealed same_id same_draft shut ls is = record {
        answers = λ k h. tt;
        made = tt;
        failed = fails g d old (next ls) (λ k. (w.altered.clean k.0, k.1)) placed (λ o v. v ≡ step o) (λ o v. v ≡ after o) all.failed
            (λ h k o. view_alike (d.seen file) ls.items (staged_of old) t same_drafts ∙ same_view
            (h.placed (honest_old k.1 k.0)) (all.failed.moves.was_open k.0 o))
            (λ h k. goes_back g d old old.staged (unchanged g d old w) (h.placed (honest_old k.1 k.0)))
            turns;
      }
        where
          all : Changes g old.rows rows (Err fault) step Says
          all = subst (λ q. Changes g old.rows rows q step Says) same_result whole

          same_in : {Y : Type 0} (f : Staged → Y) → f e ≡ f sealed → map f (staged_of old) ≡ map f ls.items
          same_in f same = ap (map f) is_there ∙ alike_at f pre post e sealed same ∙ sym (ap (map f) is)

          both_same : draft_of e ≡ draft_of sealed
          both_same = ap (λ i. (i, e.draft)) (sym same_id) ∙ ap (λ dr. (sealed.id, dr)) (sym same_draft)

          same_drafts : map draft_of ls.items ≡ map draft_of (staged_of old)
          same_drafts = sym (same_in draft_of both_same)

          -- what holds of each content holds of each when it is sealed
          exchanged : (P : Staged → Type 0) → (P e → P sealed) → AllByRecursion P (staged_of old)
              → AllByRecursion P ls.items
          exchanged P = all_exchanged P pre post e sealed is_there is

          received_sealed : IsReceived d file old.regions e → IsReceived d file old.regions sealed
          received_sealed r =
              subst (λ (it : Draft). IsReceived d file old.regions (record sealed { draft = it })) (sym same_draft)
              (record { used = r.used; bytes = r.bytes; written = r.written; within = r.within; some = r.some })

          guards : (region : Region) → AreAway region (staged_of old) → AreAway region ls.items
          guards region = exchanged (IsAway region) (λ away off. absurd (true≢false (sym shut ∙ off)))

          around : IsPlaced g d old → AreAway e.draft.region ls.items
          around before =
              let it = apart_around before in
              subst (AreAway e.draft.region) (sym is)
              (all-append (IsAway e.draft.region) pre (sealed ∷ post) it.0 (λ off. absurd (true≢false (sym shut ∙ off)), it.1))

          places_now : IsPlaced g d old → (cs : List Chunk) → AllByRecursion (PlaceIn (staged_of old)) cs
              → AllByRecursion (PlaceIn ls.items) cs
          places_now before cs =
              all_weaker (PlaceIn (staged_of old)) (PlaceIn ls.items)
              (place_same d file file old.regions old.regions (λ r used. used) (file_itself d file) (staged_of old) ls.items guards) cs

          -- the places after the step
          places_after : IsPlaced g d old → normal t ≡ t → AllByRecursion (PlaceIn ls.items) (places_in t)
              → AllByRecursion (PlaceIn ls.items) (places_in (step t))
          places_after before ordered every = elim (cases id place oid size t) [
            | inl new ↦ places_more before ls.items (around before) every new
            | inr same ↦ subst (λ (v : Tables). AllByRecursion (PlaceIn ls.items) (places_in v)) (sym (same_step t ordered (same place t refl))) every
          ]

          placed : HasPlaces g d old → AreHonest g d (next ls) → IsPlaced g d (next ls)
          placed h k =
              let before = h.placed (honest_old k.1 k.0) in
              let now = beside_now before in
              record {
                received = record {
                  each = exchanged (IsReceived d file old.regions) received_sealed now.received.each;
                  once = ascending_exchanged OfOthers pre post e sealed is_there is
                      (λ x. subst (λ (i : UploadId). upload_number x.id ≢ upload_number i) (sym same_id))
                      (λ x. subst (λ (i : UploadId). upload_number i ≢ upload_number x.id) (sym same_id)) now.received.once;
                  apart = ascending_exchanged AreStagedApart pre post e sealed is_there is
                      (λ x. subst (λ (it : Draft). AreSeparate x.draft.region it.region) (sym same_draft))
                      (λ x. subst (λ (it : Draft). AreSeparate it.region x.draft.region) (sym same_draft)) now.received.apart;
                };
                served = λ o.
                    let served = now.served (all.failed.moves.was_open k.0 o) in
                    let is_shown = all.failed.moves.shows k.0 h.rows o in record {
                      places = subst (λ (v : Tables). AllByRecursion (PlaceIn ls.items) (places_in v)) (sym is_shown)
                          (places_now before _ served.places);
                      single = subst HasSinglePlaces (sym is_shown) served.single;
                      uploads = subst (λ (v : Tables). AllByRecursion (IsStagedIn v) ls.items) (sym is_shown)
                          (exchanged (IsStagedIn t)
                          (subst (λ (i : UploadId). is_some (find (is_staged_with (upload_number i)) t.uploads) ≡ true) (sym same_id)) served.uploads);
                      separate = subst (λ (v : Tables). IsAscending ArePlacesApart (places_in v)) (sym is_shown) served.separate;
                      beside = subst (λ (v : Tables). AreBeside ls.items (places_in v)) (sym is_shown)
                          (exchanged (λ (x : Staged). AllByRecursion (IsBeside x) (places_in t))
                          (subst (λ (it : Draft). AllByRecursion (λ (c : Chunk). (r : Region) → region_in c.bytes ≡ Some r
                          → AreSeparate it.region r) (places_in t)) (sym same_draft)) served.beside);
                    };
                left = λ v leaves. elim ((all.failed.adds h.rows).outcomes k.0 v leaves) [
                  | inl was_left ↦ places_now before _ (now.left v was_left)
                  | inr made ↦
                      let ordered = h.rows.ordered (moved.was_honest (before_call k.0)) made.0 in
                      places-remain (PlaceIn ls.items) made.1 v made.3
                      (subst (λ (w : Tables). AllByRecursion (PlaceIn ls.items) (places_in w)) (sym made.2)
                      (places_after before ordered (places_now before _ (now.served made.0).places)))
                ];
              }

          turns : HasPlaces g d old → AreHonest g d (next ls) → IsOpen g old.rows → (v : Tables) → v ≡ step t
              → (u : Tables) → Remains v u → (left : List ℕ) → d.may_leave file left
              → (w : Tables) × (w ≡ after (shown_with g d old)) × (settled (view left [] u) ≡ settled w)
          turns h k o v same u remains left may =
              let before = h.placed (honest_old k.1 k.0) in
              let now = beside_now before in
              let ordered = h.rows.ordered (moved.was_honest (before_call k.0)) o in
              let served = now.served o in
              let here_after = subst (λ (w : Tables). Remains w u) same remains in
              let seen = alike g d (next ls) left may (places_in (step t)) (places_after before ordered (places_now before _ served.places)) in (
                after (shown_with g d old),
                refl,
                elim (cases id place oid size t) [
                  | inl new ↦
                      let it = others_now before in
                      let is_staged = step_new g d old w ends oid size t new in
                      let every =
                      all_middle (IsStagedIn t) pre post e (subst (AllByRecursion (IsStagedIn t)) is_there served.uploads) in
                      let own_id = found_id id t new.upload new.found in
                      let left_staged : AllByRecursion (IsStagedIn (step t)) (pre ++ post) =
                      subst (λ (w : Tables). AllByRecursion (IsStagedIn w) (pre ++ post)) (sym is_staged)
                      (staged_and t new.upload place.bytes.items (pre ++ post)
                      (all-append (IsStagedIn t) pre post every.0 every.1.1)
                      (subst (λ i. AreOfOthers i (pre ++ post)) (sym own_id) (all-append (λ (x : Staged). upload_number x.id ≢ id) pre post it.0 it.1))) in
                      settled-left (d.seen file) left (pre ++ post) (step t) u here_after left_staged seen
                      ∙ ap settled (both_shown before (before.served o) new)
                  | inr none ↦
                      let still_t = same_step t ordered (none place t refl) in
                      settled-left (d.seen file) left (staged_of old) (step t) u here_after
                      (subst (λ (w : Tables). AllByRecursion (IsStagedIn w) (staged_of old)) (sym still_t) served.uploads)
                      seen
                      ∙ ap settled (ap (view (d.seen file) (staged_of old)) still_t ∙ same_view before o
                      ∙ sym
                      (ap normal (none last (shown_with g d old) (viewed_uploads (d.seen old.disk) (staged_of old) t))
                      ∙ view-normal (d.seen old.disk) (staged_of old) t))
                ],
              )
