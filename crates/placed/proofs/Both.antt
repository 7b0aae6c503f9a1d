-- A call on the database is a call on it and its file, for a step whose effect on both is known.
use Rattle.placed.proofs.Prelude.{◌≡◌, inl, inr, ℕ, List, [], IsTrue, ap, ◌∙◌, AllByRecursion, all_weaker, Chunk, Tables, Ghosts, settled, Remains, IsOpen, HasTables, Leaves, shown, Moves, AddsAny, Makes, Puts, FailsAny, Placed, Staged, view, pieces_at, IsPlace, staged_of, AreHonest, IsFileHonest, shown_with, IsPlaced, HasPlaces, beside}
use Rattle.sqlite_disk.specs.declared.Disk as disk
use Rattle.store.specs.Normal.{AreMarked}
use Rattle.placed.proofs.Keeping.{pieces_alike, AgreeAt}
use Rattle.placed.proofs.Settled.{settled-left}
use Rattle.placed.proofs.Views.{view-normal}

module _ {T D : Type 0} (g : Ghosts T) (d : disk.Ghosts D) where
  pub marked_view : (file : List ℕ) (staged : List Staged) (t : Tables) → AreMarked t → AreMarked (view file staged t)
  unfolding view
  marked_view file staged t m = m

  -- places are read in what a stop leaves as in the file
  pub alike : (s : Placed T D) (left : List ℕ) → d.may_leave s.disk left → (cs : List Chunk)
      → AllByRecursion (IsPlace d s.disk s.regions (staged_of s)) cs → AgreeAt left (d.seen s.disk) cs
  alike s left may cs = all_weaker (IsPlace d s.disk s.regions (staged_of s)) (λ c. pieces_at left c ≡ pieces_at (d.seen s.disk) c)
      (λ c p. pieces_alike left (d.seen s.disk) c p.region p.kept.content p.means (p.kept.left left may) p.kept.seen) cs

  module _ (old new : Placed T D) (clean : IsFileHonest d new → IsFileHonest d old)
      (placed : HasPlaces g d old → AreHonest g d new → IsPlaced g d new) where
    -- it shows what it is to show, if the rows show these tables
    abbrev pub ShowsAfter : (Tables → Tables) → (Tables → Tables) → Type 0
    ShowsAfter step after =
        HasPlaces g d old → AreHonest g d new → IsOpen g new.rows → view (d.seen new.disk) (staged_of new)
        (step (shown g old.rows)) ≡ after (shown_with g d old)

    pub moves : (step after : Tables → Tables) → Moves g step old.rows new.rows → ShowsAfter step after
        → Moves (beside g d) after old new
    moves step after m shows = record {
      was_honest = λ k. (m.was_honest k.0, clean k.1);
      was_open = λ k o. m.was_open k.0 o;
      ready = λ h. let rows = m.ready h.kept.rows in record {
        kept = record { rows = rows; placed = placed h.kept };
        ordered = λ k o. view-normal (d.seen new.disk) (staged_of new) (shown g new.rows);
        marked = λ k o. marked_view (d.seen new.disk) (staged_of new) (shown g new.rows) (rows.marked k.0 o);
      };
      shows = λ k h o. ap (view (d.seen new.disk) (staged_of new)) (m.shows k.0 h.kept.rows o) ∙ shows h.kept k o;
    }

    -- a call that is made durably
    pub makes : (step after : Tables → Tables) → Makes g step old.rows new.rows → ShowsAfter step after
        → Makes (beside g d) after old new
    makes step after m shows = record {
      moves = moves step after m.moves shows;
      was_open = λ k. m.was_open k.0;
      is_open = λ k. m.is_open k.0;
      durable = λ h. record {
        only = λ k t leaves.
            let it = leaves.0 in
            let served = (placed h.kept k).served (m.is_open k.0) in
            inr
            (it.is ∙ settled-left (d.seen new.disk) it.file (staged_of new) (shown g new.rows) it.rows ((m.durable h.kept.rows).only k.0 it.rows it.by_rows)
            served.uploads (alike new it.file it.by_file _ served.places));
        safe = λ k. (m.durable h.kept.rows).safe k.0;
      };
    }

    -- the file that an earlier stop would have left shows the same
    abbrev pub GoesBack : Type 0
    GoesBack = HasPlaces g d old → AreHonest g d new → (u : Tables) → Leaves g old.rows u → (left : List ℕ) → d.may_leave new.disk left
        → (was : List ℕ) × d.may_leave old.disk was × (view left [] u ≡ view was [] u)

    -- what remains of tables to which the rows may be changed is what remains of such tables with the file
    abbrev pub Turns : (change after : Tables → Tables → Type 0) → Type 0
    Turns change after =
        HasPlaces g d old → AreHonest g d new → IsOpen g old.rows → (v : Tables) → change (shown g old.rows) v →
        (u : Tables) → Remains v u
        → (left : List ℕ) → d.may_leave new.disk left → (w : Tables) × after (shown_with g d old) w × (settled (view left [] u) ≡ settled w)

    adds : (change after : Tables → Tables → Type 0) → HasTables (beside g d) old → AddsAny g change old.rows new.rows
        → GoesBack → Turns change after → AddsAny (beside g d) after old new
    adds change after h a back turns = record {
      was_honest = λ k. (a.was_honest k.0, clean k.1);
      outcomes = λ k t leaves. let it = leaves.0 in elim (a.outcomes k.0 it.rows it.by_rows) [
        | inl was ↦ let b = back h.kept k it.rows was it.file it.by_file in
            inl (record { rows = it.rows; file = b.0; by_rows = was; by_file = b.1; is = it.is ∙ ap settled b.2 }, leaves.1)
        | inr made ↦ let w = turns h.kept k made.0 made.1 made.2 it.rows made.3 it.file it.by_file in
            inr (made.0, w.0, w.1, inr (it.is ∙ w.2))
      ];
      safe = λ k. a.safe k.0;
    }

    -- a call that failed
    pub fails : (change after : Tables → Tables → Type 0) → FailsAny g change old.rows new.rows
        → ShowsAfter (λ t. t) (λ t. t) → GoesBack → Turns change after → FailsAny (beside g d) after old new
    fails change after f shows back turns = record {
      moves = moves (λ t. t) (λ t. t) f.moves shows;
      adds = λ h. adds change after h (f.adds h.kept.rows) back turns;
    }

    -- a call that is made, of which a stop may leave nothing
    pub puts : (step after : Tables → Tables) → Puts g step old.rows new.rows → ShowsAfter step after → GoesBack
        → Turns (λ t v. v ≡ step t) (λ t v. v ≡ after t) → Puts (beside g d) after old new
    puts step after p shows back turns = record {
      moves = moves step after p.moves shows;
      adds = λ h. adds (λ t v. v ≡ step t) (λ t v. v ≡ after t) h (p.adds h.kept.rows) back turns;
    }
