-- A call that removes pieces, of an upload that has no place.
use Rattle.placed.proofs.Prelude.{◌≡◌, ℕ, ◌*◌, ℤ, pos, Bool, true, false, find, Option, None, is_some, Ok, Err, refl, sym, subst, ◌∙◌, Vec, Tables, is_chunk, staged_with, without_staged_from, StoreFault, IsContentOf, ChunkContent, Ghosts, IsHonest, HasTables, shown, Reads, PutsOr, Placed, Staged, piece_size, place_number, staged_of, shown_with, beside, IsTruncated}
use Rattle.sqlite_disk.specs.declared.Disk as disk
use Rattle.placed.proofs.After.{puts_or_after}
use Rattle.placed.proofs.Leading.{Leads, Known}
use Rattle.placed.proofs.Restaged.{Continues, puts_with, failed_known}
use Rattle.placed.proofs.Shortened.{answer_shown, leads_unchanged, leads_cut, leads_any, received_cut, place_cut, beside_cut, have_all}
use Rattle.placed.proofs.RowCompleted.{none_read}

-- the chunk that was read is the place of the upload, if it has one
abbrev ReadsPlace : ℤ → Tables → Option ChunkContent → Type 0
ReadsPlace id t found = IsContentOf found (find (is_chunk id (pos place_number)) t.chunks)

module _ {T D : Type 0} (g : Ghosts T) (d : disk.Ghosts D) (s : Placed T D) (between rows : T) (id : ℤ) (n : ℕ)
    (found : Option ChunkContent) (reads : Reads g s.rows between (Ok found) (ReadsPlace id))
    (none : is_some found ≡ false) where
  abbrev step : Tables → Tables
  step = without_staged_from id (pos n)

  -- the upload is staged
  abbrev Says : Tables → Bool → Type 0
  Says t staged = staged ≡ is_some (staged_with id t)

  no_place : IsHonest g between → HasTables g s.rows
      → find (is_chunk id (pos place_number)) (shown g s.rows).chunks ≡ None
  no_place k h = none_read found _ (sym none) (reads.answers k h).1

  pub shorten_failed : (fault other : StoreFault) → PutsOr g between rows (Err fault) step Says
      → PutsOr (beside g d) s (record s { rows = rows }) (Err other) step Says
  shorten_failed fault other e = record {
    answers = λ k h. tt;
    made = tt;
    failed = failed_known g d s rows (λ t v. v ≡ step t) (λ t v. v ≡ step t)
        (puts_or_after g s.rows between rows reads.same reads.adds Says step (Err fault) e).failed
        (λ it v is.
        let l = leads_any (d.seen s.disk) (staged_of s) (shown g s.rows) id n (no_place (e.failed.moves.was_honest it.honest) it.tables)
        it.received.once (have_all d s.disk s.regions (staged_of s) it.received.each) in (
          step (shown_with g d s),
          refl,
          l.0,
          subst (λ (w : Tables). Leads (d.seen s.disk) (staged_of s) l.0 (shown g s.rows) w (step (shown_with g d s)))
              (sym is) l.1,
        ));
  }

  module _ (answer : Bool) (e : PutsOr g between rows (Ok answer) step Says) where
    whole : PutsOr g s.rows rows (Ok answer) step Says
    whole = puts_or_after g s.rows between rows reads.same reads.adds Says step (Ok answer) e

    abbrev GoesTo : Vec Staged → Type 0
    GoesTo ls = Known g d s rows
        → Continues g d s s.regions ls.items (shown g s.rows) (step (shown g s.rows)) (step (shown_with g d s))

    shortened_by : (ls : Vec Staged) → GoesTo ls
        → PutsOr (beside g d) s (record s { rows = rows; staged = ls }) (Ok answer) step Says
    shortened_by ls go = record {
      answers = λ k h. let it = whole.answers k.0 h.kept.rows in
          (it.0, answer_shown (d.seen s.disk) (staged_of s) id (shown g s.rows) answer it.1);
      made = puts_with g d s rows s.regions ls step step whole.made (λ k h. (whole.answers k h).0) go;
      failed = tt;
    }

    pub shorten_staged : (ls : Vec Staged) → answer ≡ true → IsTruncated id (n * piece_size) (staged_of s) ls.items
        → PutsOr (beside g d) s (record s { rows = rows; staged = ls }) (Ok answer) step Says
    shorten_staged ls there is = shortened_by ls (λ it. record {
      received = received_cut d s.disk s.regions id (n * piece_size) (staged_of s) ls.items is it.received;
      beside = λ cs places. beside_cut id (n * piece_size) (staged_of s) ls.items is cs;
      places = place_cut d s.disk s.regions id (n * piece_size) (staged_of s) ls.items is;
      leads = leads_cut (d.seen s.disk) (staged_of s) (shown g s.rows) id n (no_place (e.made.moves.was_honest it.honest) it.tables)
          it.received.once (have_all d s.disk s.regions (staged_of s) it.received.each) ls.items is
          (sym (whole.answers it.honest it.tables).1 ∙ there);
    })

    pub shorten_other : answer ≡ false → PutsOr (beside g d) s (record s { rows = rows }) (Ok answer) step Says
    shorten_other no_such = shortened_by s.staged (λ it. record {
      received = it.received;
      places = λ c p. p;
      beside = λ cs places all. all;
      leads = leads_unchanged (d.seen s.disk) (staged_of s) (shown g s.rows) id n (sym (whole.answers it.honest it.tables).1 ∙ no_such);
    })
