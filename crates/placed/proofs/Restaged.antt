-- A call after which other contents are received, or other regions are in use, is a call on the database and its file.
use Rattle.placed.proofs.Prelude.{AreBeside, ArePlacesApart, ◌≡◌, ◌≢◌, inl, inr, List, Err, refl, sym, ap, subst, Contains, Vec, AllByRecursion, all_weaker, Region, Regions, regions_of, IsSameFile, Chunk, Tables, StoreFault, Ghosts, IsHonest, IsOpen, HasTables, shown, Moves, AddsNothing, Makes, Puts, FailsAny, Changes, PutsOr, moves_none, Placed, Staged, view, IsStagedIn, IsPlace, AreReceived, IsServed, places_in, staged_of, AreHonest, shown_with, IsPlaced, HasPlaces, beside, ℕ, Result, Ok, IsErr, true≢false, IfOk, Reads, ◌∙◌}
use Rattle.sqlite_disk.specs.declared.Disk as disk
use Rattle.store.proofs.Moved.{nothing_none}
use Rattle.placed.proofs.Keeping.{place_same, received_same, file_itself}
use Rattle.placed.proofs.Tracked.{places-kept, apart-kept, beside-kept, places-remain}
use Rattle.placed.proofs.Both.{moves, makes, puts, fails}
use Rattle.placed.proofs.Leading.{Leads, LeadsAny, HasPlace, Known, known, turned}
use Rattle.placed.proofs.After.{changes_after, fails_after, puts_none, puts_or_after}

module _ {T D : Type 0} (g : Ghosts T) (d : disk.Ghosts D) (s : Placed T D) (rows : T) where
  pub failed_known : (change after : Tables → Tables → Type 0) → FailsAny g change s.rows rows
      → (Known g d s rows → LeadsAny g d s rows change after) → FailsAny (beside g d) after s (record s { rows = rows })
  failed_known change after f leads =
      fails g d s (record s { rows = rows }) (λ k. k) placed change after f
      (λ h k o. refl) (λ h k u left file may. (file, may, refl))
      (λ h k o v is u remains file may.
      let it = known g d s rows f.moves.was_honest h k o in
      let l = leads it v is in
      (l.0, l.1, turned g d s l.3 it.served u remains file may))
    where
      placed : HasPlaces g d s → AreHonest g d (record s { rows = rows }) → IsPlaced g d (record s { rows = rows })
      placed h k = let was = h.placed (f.moves.was_honest k.0, k.1) in record {
        received = was.received;
        served = λ o. subst (IsServed d s.disk s.regions (staged_of s)) (sym (f.moves.shows k.0 h.rows o))
            (was.served (f.moves.was_open k.0 o));
        left = λ u leaves. elim ((f.adds h.rows).outcomes k.0 u leaves) [
          | inl before ↦ was.left u before
          | inr made ↦
              let it = known g d s rows f.moves.was_honest h k made.0 in
              let l = leads it made.1 made.2 in
              places-remain (HasPlace g d s (staged_of s)) made.1 u made.3
              (places-kept (HasPlace g d s (staged_of s)) (shown g s.rows) made.1 l.3.some it.served.places)
        ];
      }

module _ {T D : Type 0} (g : Ghosts T) (d : disk.Ghosts D) (s : Placed T D) where
  -- these contents may be received after the call, in these regions, with the tables that come after it
  pub record Continues (regions : Regions) (after : List Staged) (t v shows : Tables) : Type 0 where
    pub received : AreReceived d s.disk regions after
    pub places : (c : Chunk) → IsPlace d s.disk s.regions (staged_of s) c → IsPlace d s.disk regions after c
    pub leads : Leads (d.seen s.disk) (staged_of s) after t v shows
    pub beside : (cs : List Chunk) → AllByRecursion (IsPlace d s.disk s.regions (staged_of s)) cs
        → AreBeside (staged_of s) cs → AreBeside after cs

  module _ (rows : T) (regions : Regions) (ls : Vec Staged) where
    abbrev next : Placed T D
    next = record s { rows = rows; regions = regions; staged = ls }

    -- a place before the call, and one after it
    abbrev WasPlace : Chunk → Type 0
    WasPlace = IsPlace d s.disk s.regions (staged_of s)

    abbrev NowPlace : Chunk → Type 0
    NowPlace = IsPlace d s.disk regions ls.items

    -- the contents after the call go with its step
    abbrev GoesTo : (step after : Tables → Tables) → Type 0
    GoesTo step after = Continues regions ls.items (shown g s.rows) (step (shown g s.rows)) (after (shown_with g d s))

    -- these tables come after those that were shown
    abbrev LeadsBy : (Tables → Tables) → Tables → Type 0
    LeadsBy after v = Leads (d.seen s.disk) (staged_of s) ls.items (shown g s.rows) v (after (shown_with g d s))

    -- what is known of the store before the call is enough for the contents after it
    abbrev pub GoesOn : (step after : Tables → Tables) → Type 0
    GoesOn step after = Known g d s rows → GoesTo step after

    -- what is served after a call that was made
    served_by : (step after : Tables → Tables) → Moves g step s.rows rows → IsOpen g rows → GoesTo step after
        → Known g d s rows → IsServed d s.disk regions ls.items (shown g rows)
    served_by step after m open_now n it =
        subst (IsServed d s.disk regions ls.items) (sym (m.shows it.honest it.tables open_now)) (record {
          places = places-kept NowPlace (shown g s.rows) (step (shown g s.rows)) n.leads.some
              (all_weaker WasPlace NowPlace n.places _ it.served.places);
          single = apart-kept (λ (a b : Chunk). a.upload ≢ b.upload) (shown g s.rows) (step (shown g s.rows)) n.leads.some
              it.served.single;
          uploads = n.leads.uploads it.served.uploads;
          separate = apart-kept ArePlacesApart (shown g s.rows) (step (shown g s.rows)) n.leads.some it.served.separate;
          beside = beside-kept (shown g s.rows) (step (shown g s.rows)) n.leads.some ls.items
              (n.beside _ it.served.places it.served.beside);
        })

    -- what holds after a call that is made durably
    pub placed_with : (step after : Tables → Tables) → Makes g step s.rows rows → GoesOn step after → HasPlaces g d s
        → AreHonest g d next → IsPlaced g d next
    placed_with step after m go h k =
        let before = known g d s rows m.moves.was_honest h k (m.was_open k.0) in
        let n = go before in
        let now = served_by step after m.moves (m.is_open k.0) n before in
        record {
          received = n.received;
          served = λ o. now;
          left = λ u leaves. places-remain NowPlace (shown g rows) u ((m.durable h.rows).only k.0 u leaves) now.places;
        }

    -- such a call
    pub made_with : (step after : Tables → Tables) → Makes g step s.rows rows → GoesOn step after
        → Makes (beside g d) after s next
    made_with step after m go = makes g d s next (λ k. k) (placed_with step after m go) step after m
        (λ h k o. (go (known g d s rows m.moves.was_honest h k (m.was_open k.0))).leads.shown)

    -- a call that is made while the store is open, of which a stop may leave nothing
    pub puts_with : (step after : Tables → Tables) → Puts g step s.rows rows
        → (IsHonest g rows → HasTables g s.rows → IsOpen g s.rows) → GoesOn step after → Puts (beside g d) after s next
    puts_with step after p opened go =
        puts g d s next (λ k. k) placed step after p (λ h k o. (go (before h k)).leads.shown)
        (λ h k u left file may. (file, may, refl))
        (λ h k o v is u remains file may. (
          after (shown_with g d s),
          refl,
          turned g d s (subst (LeadsBy after) (sym is) (go (before h k)).leads) (before h k).served u remains file may,
        ))
      where
        before : HasPlaces g d s → AreHonest g d next → Known g d s rows
        before h k = known g d s rows p.moves.was_honest h k (opened k.0 h.rows)

        placed : HasPlaces g d s → AreHonest g d next → IsPlaced g d next
        placed h k =
            let n = go (before h k) in
            record {
              received = n.received;
              served = λ o. served_by step after p.moves o n (before h k);
              left = λ u leaves. elim ((p.adds h.rows).outcomes k.0 u leaves) [
                | inl earlier ↦ all_weaker WasPlace NowPlace n.places _ ((h.placed (p.moves.was_honest k.0, k.1)).left u earlier)
                | inr made ↦ places-remain NowPlace made.1 u made.3
                    (subst (λ (w : Tables). AllByRecursion NowPlace (places_in w)) (sym made.2)
                    (places-kept NowPlace (shown g s.rows) (step (shown g s.rows)) n.leads.some
                    (all_weaker WasPlace NowPlace n.places _ (before h k).served.places)))
              ];
            }

  -- a call that reads the database and its file, after which the regions that were in use still are
  module _ (rows : T) (disk : D) (same : IsSameFile d s.disk disk) (regions : Regions) (ls : Vec Staged) (unsynced : ℕ)
      (more : (r : Region) → Contains (regions_of s.regions) r → Contains (regions_of regions) r)
      (is : ls.items ≡ staged_of s) where
    abbrev read : Placed T D
    read = record s { rows = rows; disk = disk; regions = regions; staged = ls; unsynced = unsynced }

    received_still : AreReceived d s.disk s.regions (staged_of s) → AreReceived d disk regions ls.items
    received_still a = subst (AreReceived d disk regions) (sym is) (record {
      each = all_weaker _ _ (received_same d s.disk disk s.regions regions more same) (staged_of s) a.each;
      once = a.once;
      apart = a.apart;
    })

    places_still : (cs : List Chunk) → AllByRecursion (IsPlace d s.disk s.regions (staged_of s)) cs
        → AllByRecursion (IsPlace d disk regions ls.items) cs
    places_still = all_weaker (IsPlace d s.disk s.regions (staged_of s)) (IsPlace d disk regions ls.items)
        (place_same d s.disk disk s.regions regions more same (staged_of s) ls.items (λ region. subst (AllByRecursion _) (sym is)))

    served_still : (t : Tables) → IsServed d s.disk s.regions (staged_of s) t → IsServed d disk regions ls.items t
    served_still t e = record {
      places = places_still (places_in t) e.places;
      single = e.single;
      uploads = subst (AllByRecursion (IsStagedIn t)) (sym is) e.uploads;
      separate = e.separate;
      beside = subst (λ (l : List Staged). AreBeside l (places_in t)) (sym is) e.beside;
    }

    pub still_with : Moves g (λ t. t) s.rows rows → AddsNothing g s.rows rows → Moves (beside g d) (λ t. t) s read
    still_with m a = moves g d s read (λ k. (same.clean k.0, k.1)) placed (λ t. t) (λ t. t) m shows
      where
        shows : HasPlaces g d s → AreHonest g d read → IsOpen g rows
            → view (d.seen disk) ls.items (shown g s.rows) ≡ shown_with g d s
        shows h k o =
            ap (λ (l : List Staged). view (d.seen disk) l (shown g s.rows)) is
            ∙ ap (λ (file : List ℕ). view file (staged_of s) (shown g s.rows)) same.seen

        placed : HasPlaces g d s → AreHonest g d read → IsPlaced g d read
        placed h k = let was = h.placed (m.was_honest k.0, (same.clean k.1.0, k.1.1)) in record {
          received = received_still was.received;
          served = λ o. subst (IsServed d disk regions ls.items) (sym (m.shows k.0 h.rows o))
              (served_still (shown g s.rows) (was.served (m.was_open k.0 o)));
          left = λ u leaves. places_still (places_in u) (was.left u (a.outcomes k.0 u leaves));
        }

    pub nothing_with : AddsNothing g s.rows rows → AddsNothing (beside g d) s read
    nothing_with a = record {
      was_honest = λ k. (a.was_honest k.0, (same.clean k.1.0, k.1.1));
      outcomes = λ k t leaves. let it = leaves.0 in (
        record {
          rows = it.rows;
          file = it.file;
          by_rows = a.outcomes k.0 it.rows it.by_rows;
          by_file = same.stop it.file it.by_file;
          is = it.is;
        },
        leaves.1,
      );
      safe = λ k. a.safe k.0;
    }

  -- what a call returns that reads both follows from what both were before
  pub reads_both : (rows : T) (disk : D) → Moves g (λ t. t) s.rows rows → AddsNothing g s.rows rows
      → IsSameFile d s.disk disk → {X : Type 0} (r : Result X StoreFault) (P : Tables → X → Type 0)
      → (AreHonest g d (record s { rows = rows; disk = disk }) → HasPlaces g d s
      → IfOk r (λ x. IsOpen g s.rows × P (shown_with g d s) x))
      → Reads (beside g d) s (record s { rows = rows; disk = disk }) r P
  reads_both rows disk m a same r P says = record {
    answers = λ k h. says k h.kept;
    same = still_with rows disk same s.regions s.staged s.unsynced (λ r used. used) refl m a;
    adds = nothing_with rows disk same s.regions s.staged s.unsynced (λ r used. used) refl a;
  }

  -- the file was synced, or more bytes of it are counted, and nothing else was done
  module _ (disk : D) (same : IsSameFile d s.disk disk) (unsynced : ℕ) where
    abbrev pub counted : Placed T D
    counted = record s { disk = disk; unsynced = unsynced }

    pub counted_moves : Moves (beside g d) (λ t. t) s counted
    counted_moves = still_with s.rows disk same s.regions s.staged unsynced (λ r used. used) refl (moves_none g s.rows) (nothing_none g s.rows)

    counted_nothing : AddsNothing (beside g d) s counted
    counted_nothing = nothing_with s.rows disk same s.regions s.staged unsynced (λ r used. used) refl (nothing_none g s.rows)

    -- a call after that
    pub puts_counted : {X : Type 0} (new : Placed T D) (step : Tables → Tables) (P : Tables → X → Type 0)
        (r : Result X StoreFault) → PutsOr (beside g d) counted new r step P → PutsOr (beside g d) s new r step P
    puts_counted new step P = puts_or_after (beside g d) s counted new counted_moves counted_nothing P step

    pub changes_counted : {X : Type 0} (new : Placed T D) (step : Tables → Tables) (P : Tables → X → Type 0)
        (r : Result X StoreFault) → Changes (beside g d) counted new r step P → Changes (beside g d) s new r step P
    changes_counted new step P = changes_after (beside g d) s counted new counted_moves counted_nothing P step

  -- a call that failed, after which the same contents are received
  pub failed_with : (rows : T) (regions : Regions) (ls : Vec Staged)
      → ((r : Region) → Contains (regions_of s.regions) r → Contains (regions_of regions) r) → ls.items ≡ staged_of s
      → (change after : Tables → Tables → Type 0) → FailsAny g change s.rows rows →
      ((staged : List Staged) (t v : Tables) → change t v → (w : Tables) × after (view (d.seen s.disk) staged t) w
      × (left : List Staged) × Leads (d.seen s.disk) staged left t v w)
      → FailsAny (beside g d) after s (record s { rows = rows; regions = regions; staged = ls })
  failed_with rows regions ls more is change after f leads =
      let between : Placed T D = record s { regions = regions; staged = ls } in
      fails_after (beside g d) s between (record between { rows = rows })
      (still_with s.rows s.disk (file_itself d s.disk) regions ls s.unsynced more is (moves_none g s.rows) (nothing_none g s.rows))
      (nothing_with s.rows s.disk (file_itself d s.disk) regions ls s.unsynced more is (nothing_none g s.rows))
      after (failed_known g d between rows change after f (λ it. leads ls.items (shown g s.rows)))

  -- a call that was to put something ends after it has read, with an error
  pub ends_early : {X : Type 0} (rows : T) → Moves g (λ t. t) s.rows rows → AddsNothing g s.rows rows
      → (step : Tables → Tables) (P : Tables → X → Type 0) (fault : StoreFault)
      → PutsOr (beside g d) s (record s { rows = rows }) (Err fault) step P
  ends_early rows m a step P fault =
      let next : Placed T D = record s { rows = rows } in
      puts_none (beside g d) s next next (still_with rows s.disk (file_itself d s.disk) s.regions s.staged s.unsynced (λ r used. used) refl m a)
      (nothing_with rows s.disk (file_itself d s.disk) s.regions s.staged s.unsynced (λ r used. used) refl a) P step fault

-- a call that was to put something ends after it has read and the file was to be synced, with an error
pub ends_counted : {T D X : Type 0} (g : Ghosts T) (d : disk.Ghosts D) (s : Placed T D) (rows : T) (disk : D)
    (same : IsSameFile d s.disk disk) (unsynced : ℕ) → Moves g (λ t. t) s.rows rows → AddsNothing g s.rows rows
    → (r : Result X StoreFault) → IsErr r → (step : Tables → Tables) (P : Tables → X → Type 0)
    → PutsOr (beside g d) s (record s { rows = rows; disk = disk; unsynced = unsynced }) r step P
ends_counted g d s rows disk same unsynced m a (Ok x) bad step P = absurd (true≢false (sym bad))
ends_counted g d s rows disk same unsynced m a (Err fault) bad step P =
    puts_counted g d s disk same unsynced (record s { rows = rows; disk = disk; unsynced = unsynced }) step P (Err fault)
    (ends_early g d (counted g d s disk same unsynced) rows m a step P fault)
