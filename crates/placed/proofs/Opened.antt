-- What is opened serves the places of the database.
use Rattle.placed.proofs.Prelude.{◌≡◌, ◌≢◌, inl, ℕ, ℤ, ◌≤◌, List, [], length, None, refl, sym, ap, subst, ◌∙◌, IsTrue, All, AllByRecursion, IsAscending, all_weaker, Region, regions_of, HasContent, IsAlteredBy, IsSameFile, Chunk, Tables, Remains, Ghosts, settled, IsHonest, IsOpen, HasTables, Leaves, shown, Moves, AddsNothing, Placed, content_in, pieces_at, view, OfOthers, AreStagedApart, IsStagedIn, IsReceived, IsPlace, IsServed, places_in, staged_of, AreHonest, IsPlaced, beside}
use Rattle.std.proofs.lemmas.List.Elements.{All-contains}
use Rattle.sqlite_disk.specs.Disk.{Only}
use Rattle.sqlite_disk.specs.declared.Disk as disk
use Rattle.contents.specs.Files.{KeepsRegions}
use Rattle.contents.specs.Regions.{end_of}
use Rattle.store.specs.Shown.{IsDurable, IsSafe}
use Rattle.placed.specs.Kept.{ArePlacesApart, IsBeside, IsInFile}
use Rattle.placed.specs.Opening.{AreTaken, ClearsSome, IsDurableIfOpen, IsTaken, LeavesCleared, ShowsCleared, chunked_ids, cleared}
use Rattle.placed.proofs.Both.{alike, marked_view}
use Rattle.placed.proofs.Bytes.{has_content}
use Rattle.placed.proofs.Cleared.{apart_without, cleared_settled, clears_none, clears_then, places_without}
use Rattle.placed.proofs.Freeing.{place_kept, place_pieces}
use Rattle.placed.proofs.Settled.{settled-left}
use Rattle.placed.proofs.Tracked.{places-remain}
use Rattle.placed.proofs.Views.{view-normal, view-same}

-- ---- the store that is opened

-- two calls that change nothing in the file
pub same_then : {D : Type 0} (d : disk.Ghosts D) (file mid new : D) → IsSameFile d file mid → IsSameFile d mid new
    → IsSameFile d file new
same_then d file mid new one two = record {
  seen = two.seen ∙ one.seen;
  stop = λ left may. one.stop left (two.stop left may);
  clean = λ k. one.clean (two.clean k);
}

-- what the calls of an opening did: the file was synced, the places of the database were read, staged uploads were removed,
-- and the file was cut
pub record IsMadeOf {T D : Type 0} (g : Ghosts T) (d : disk.Ghosts D) (rows read : T) (file synced whole : D) (s : Placed T D) : Type 0 where
  pub empty : staged_of s ≡ []
  pub first : IsSameFile d file synced
  pub durable : Only (d.seen synced) (d.may_leave synced)
  pub then : IsSameFile d synced whole
  pub cut : IsAlteredBy d (KeepsRegions (regions_of s.regions)) whole s.disk
  pub still : Moves g (λ t. t) rows read
  pub adds : AddsNothing g rows read
  pub taken : IsHonest g read → HasTables g rows
      → IsOpen g rows × AreTaken (regions_of s.regions) (places_in (shown g rows))
  pub within : IsTrue (d.is_clean whole) → All (λ region. end_of region ≤ length (d.seen synced)) (regions_of s.regions)
  pub some : ClearsSome g read s.rows
  pub all : ShowsCleared g read s.rows
  pub left : LeavesCleared g read s.rows

module _ {T D : Type 0} (g : Ghosts T) (d : disk.Ghosts D) (rows read : T) (file synced whole : D) (s : Placed T D)
    (by : IsMadeOf g d rows read file synced whole s) where
  open by use {empty, taken}

  same_bytes : d.seen whole ≡ d.seen file
  same_bytes = by.then.seen ∙ by.first.seen

  only : Only (d.seen whole) (d.may_leave whole)
  only left may = by.durable left (by.then.stop left may) ∙ sym by.then.seen

  within : IsTrue (d.is_clean whole) → All (λ region. end_of region ≤ length (d.seen whole)) (regions_of s.regions)
  within clean =
      subst (λ (bytes : List ℕ). All (λ region. end_of region ≤ length bytes) (regions_of s.regions)) (sym by.then.seen)
      (by.within clean)

  -- a place of the store before the file is cut
  abbrev WasServed : Chunk → Type 0
  WasServed = IsPlace d whole s.regions (staged_of s)

  -- and after that
  abbrev Serves : Chunk → Type 0
  Serves = IsPlace d s.disk s.regions (staged_of s)

  in_file : (region : Region) → end_of region ≤ length (d.seen whole) → IsInFile d whole region
  in_file region fits = record {
    content = content_in (d.seen whole) region;
    seen = has_content (d.seen whole) region fits;
    left = λ left may. subst (λ bytes. HasContent bytes region (content_in (d.seen whole) region)) (sym (only left may))
        (has_content (d.seen whole) region fits);
  }

  was_served : IsTrue (d.is_clean whole) → (c : Chunk) → IsTaken (regions_of s.regions) c → WasServed c
  was_served clean c it = record {
    region = it.region;
    means = it.named.means;
    some = it.named.is.some;
    kept = in_file it.region (All-contains (λ region. end_of region ≤ length (d.seen whole)) (regions_of s.regions) it.region (within clean) it.used);
    used = it.used;
    apart = subst (AllByRecursion _) (sym empty) tt;
  }

  serves : IsTrue (d.is_clean s.disk) → (c : Chunk) → IsTaken (regions_of s.regions) c → Serves c
  serves clean c it =
      place_kept d whole s.disk s.regions s.regions None refl by.cut (staged_of s) c (was_served (by.cut.clean clean) c it)
      (λ r _. tt)

  -- the file has the pieces that it had
  same_pieces : IsTrue (d.is_clean s.disk) → (c : Chunk) → IsTaken (regions_of s.regions) c
      → pieces_at (d.seen s.disk) c ≡ pieces_at (d.seen whole) c
  same_pieces clean c it =
      place_pieces d whole s.disk s.regions s.regions None refl by.cut (staged_of s) c (was_served (by.cut.clean clean) c it)
      (λ r _. tt)

  -- but for some staged uploads the database is as it was
  cleared_some : ClearsSome g rows s.rows
  cleared_some = clears_then g rows read s.rows (clears_none g rows read by.still by.adds) by.some

  module _ (h : HasTables g rows) where
    abbrev before : Tables
    before = shown g rows

    rows_ready : HasTables g s.rows
    rows_ready = cleared_some.ready h

    shows : IsHonest g s.rows → IsOpen g s.rows → shown g s.rows ≡ cleared before
    shows k o =
        by.all k (by.still.ready h) o
        ∙ ap cleared (by.still.shows (by.some.was_honest k) h (by.some.was_open k o))

    abbrev ids : List ℤ
    ids = chunked_ids before

    -- the places that are left are those of the store
    serves_cleared : AreHonest g d s → AllByRecursion Serves (places_in (cleared before))
    serves_cleared k =
        places_without Serves ids before
        (all_weaker (IsTaken (regions_of s.regions)) Serves (serves k.1.0) (places_in before)
        (taken (by.some.was_honest k.0) h).1.each)

    served : AreHonest g d s → IsServed d s.disk s.regions (staged_of s) (cleared before)
    served k =
        let distinct = (taken (by.some.was_honest k.0) h).1.distinct in
        record {
          places = serves_cleared k;
          single = apart_without (λ (a b : Chunk). a.upload ≢ b.upload) ids before distinct.single;
          separate = apart_without ArePlacesApart ids before distinct.separate;
          beside = subst (AllByRecursion (λ x. AllByRecursion (IsBeside x) (places_in (cleared before)))) (sym empty) tt;
          uploads = subst (AllByRecursion (IsStagedIn (cleared before))) (sym empty) tt;
        }

    same_view : AreHonest g d s → view (d.seen s.disk) [] (cleared before) ≡ view (d.seen file) [] (cleared before)
    same_view k =
        view-same (d.seen whole) (d.seen s.disk) [] (cleared before)
        (places_without (λ c. pieces_at (d.seen s.disk) c ≡ pieces_at (d.seen whole) c) ids before
        (all_weaker (IsTaken (regions_of s.regions)) _ (same_pieces k.1.0) (places_in before)
        (taken (by.some.was_honest k.0) h).1.each)) tt
        ∙ ap (λ bytes. view bytes [] (cleared before)) same_bytes

    pub opened_shown : AreHonest g d s → IsOpen g s.rows
        → view (d.seen s.disk) (staged_of s) (shown g s.rows) ≡ view (d.seen file) [] (cleared before)
    opened_shown k o =
        ap (λ l. view (d.seen s.disk) l (shown g s.rows)) empty
        ∙ ap (view (d.seen s.disk) []) (shows k.0 o)
        ∙ same_view k

    pub opened_was : IsHonest g s.rows → IsOpen g rows
    opened_was k = (taken (by.some.was_honest k) h).0

    module _ (if_open : IsDurableIfOpen g rows) where
      durable : IsHonest g s.rows → IsDurable g rows
      durable k = if_open (cleared_some.was_honest k) (opened_was k)

      -- what was read is durable too
      still_durable : IsHonest g s.rows → IsOpen g read → IsDurable g read
      still_durable now o = let d = durable now in record {
        only = λ k u leaves. subst (λ (t : Tables). Remains t u) (sym (by.still.shows k h o))
            (d.only (by.still.was_honest k) u (by.adds.outcomes k u leaves));
        safe = λ k. by.adds.safe k (d.safe (by.still.was_honest k));
      }

      -- so a stop leaves what remains without the staged uploads
      remains : IsHonest g s.rows → (u : Tables) → Leaves g s.rows u → Remains (cleared before) u
      remains k u leaves =
          let it = by.left (by.still.ready h) k in
          subst (λ (t : Tables). Remains (cleared t) u) (by.still.shows (by.some.was_honest k) h it.0)
          (it.1 (still_durable k it.0) u leaves)

      placed : AreHonest g d s → IsPlaced g d s
      placed k = record {
        received = record {
          each = subst (AllByRecursion (IsReceived d s.disk s.regions)) (sym empty) tt;
          once = subst (IsAscending OfOthers) (sym empty) tt;
          apart = subst (IsAscending AreStagedApart) (sym empty) tt;
        };
        served = λ o. subst (IsServed d s.disk s.regions (staged_of s)) (sym (shows k.0 o)) (served k);
        left = λ u leaves. places-remain Serves (cleared before) u (remains k.0 u leaves) (serves_cleared k);
      }

      pub opened_tables : HasTables (beside g d) s
      opened_tables = record {
        kept = record { rows = rows_ready; placed = placed };
        ordered = λ k o. view-normal (d.seen s.disk) (staged_of s) (shown g s.rows);
        marked = λ k o. marked_view g d (d.seen s.disk) (staged_of s) (shown g s.rows) (rows_ready.marked k.0 o);
      }

      pub opened_left : AreHonest g d s → (t : Tables) → Leaves (beside g d) s t
          → t ≡ view (d.seen file) [] (cleared before)
      opened_left k t leaves =
          let it = leaves.0 in
          it.is
          ∙ settled-left (d.seen s.disk) it.file [] (cleared before) it.rows (remains k.0 it.rows it.by_rows) tt
          (alike g d s it.file it.by_file (places_in (cleared before)) (serves_cleared k))
          ∙ ap settled (same_view k)
          ∙ cleared_settled (d.seen file) before

      pub opened_safe : AreHonest g d s → IsSafe (beside g d) s
      opened_safe k = (cleared_some.adds h).safe k.0 ((durable k.0).safe (cleared_some.was_honest k.0))

      pub opened_durable : IsOpen g s.rows → IsDurable (beside g d) s
      opened_durable o = record {
        only = λ k t leaves. inl (opened_left k t leaves ∙ sym (opened_shown k o));
        safe = opened_safe;
      }
