-- A call that asks the database alone is a call on it and its file.
use Rattle.placed.proofs.Prelude.{◌≡◌, ℕ, List, Option, Result, Ok, Err, refl, sym, subst, IfOk, Vec, Tables, StoreFault, UploadRow, Ghosts, IsOpen, shown, Moves, AddsNothing, Makes, Reads, Changes, Finds, Placed, Staged, view, staged_of, shown_with, beside}
use Rattle.sqlite_disk.specs.declared.Disk as disk
use Rattle.placed.proofs.Keeping.{place_same, file_itself}
use Rattle.placed.proofs.Tracked.{LeavesUploads}
use Rattle.placed.proofs.Leading.{ArePart, all_of, leads_same, part_all, part_received, Known, Follows, LeadsTo, viewed}
use Rattle.placed.proofs.Restaged.{Continues, made_with, still_with, nothing_with, failed_known}

module _ {T D : Type 0} (g : Ghosts T) (d : disk.Ghosts D) (s : Placed T D) (rows : T) where
  -- some of the contents are still received after a call
  pub continues : (ls : Vec Staged) → ArePart (staged_of s) ls.items → (step after : Tables → Tables) → Known g d s rows
      → Follows g d s ls.items step after
      → Continues g d s s.regions ls.items (shown g s.rows) (step (shown g s.rows)) (after (shown_with g d s))
  continues ls part step after it follows = record {
    received = part_received d s.disk s.regions (staged_of s) ls.items part it.received;
    places = place_same d s.disk s.disk s.regions s.regions (λ r used. used) (file_itself d s.disk) (staged_of s) ls.items
        (λ region. part_all _ (staged_of s) ls.items part);
    leads = follows;
    beside = λ cs places. part_all _ (staged_of s) ls.items part;
  }

  -- a call that is made durably, after which some contents are not received any more
  pub made_known : (step after : Tables → Tables) → Makes g step s.rows rows → (ls : Vec Staged)
      → ArePart (staged_of s) ls.items → (Known g d s rows → Follows g d s ls.items step after)
      → Makes (beside g d) after s (record s { rows = rows; staged = ls })
  made_known step after m ls part leads =
      made_with g d s rows s.regions ls step after m (λ it. continues ls part step after it (leads it))

  -- a call that reads
  pub still : Moves g (λ t. t) s.rows rows → AddsNothing g s.rows rows → Moves (beside g d) (λ t. t) s (record s { rows = rows })
  still = still_with g d s rows s.disk (file_itself d s.disk) s.regions s.staged s.unsynced (λ r used. used) refl

  pub nothing : AddsNothing g s.rows rows → AddsNothing (beside g d) s (record s { rows = rows })
  nothing = nothing_with g d s rows s.disk (file_itself d s.disk) s.regions s.staged s.unsynced (λ r used. used) refl

  pub reads : {X : Type 0} (r : Result X StoreFault) (P Q : Tables → X → Type 0)
      → ((t : Tables) (x : X) → P t x → Q (viewed g d s t) x) → Reads g s.rows rows r P
      → Reads (beside g d) s (record s { rows = rows }) r Q
  reads r P Q says e = record {
    answers = λ k h. answered r (e.answers k.0 h.kept.rows);
    same = still e.same e.adds;
    adds = nothing e.adds;
  }
    where
      answered : (q : Result _ StoreFault) → IfOk q (λ x. IsOpen g s.rows × P (shown g s.rows) x)
          → IfOk q (λ x. IsOpen g s.rows × Q (shown_with g d s) x)
      answered (Ok x) it = (it.0, says (shown g s.rows) x it.1)
      answered (Err f) it = tt

  -- a call that finds the staged upload of a repository
  pub finds : (repo : List ℕ) (r : Result (Option UploadRow) StoreFault) → Finds g s.rows rows repo r
      → Finds (beside g d) s (record s { rows = rows }) repo r
  unfolding view
  finds repo r e = record {
    answers = λ k h. e.answers k.0 h.kept.rows;
    same = still e.same e.adds;
    adds = nothing e.adds;
  }

  -- what a call says of the tables that it made or did not make
  module _ {X : Type 0} (step after : Tables → Tables) (P Q : Tables → X → Type 0) where
    pub changes_err_known : (fault : StoreFault) → Changes g s.rows rows (Err fault) step P → (ls : List Staged)
        → (Known g d s rows → Follows g d s ls step after)
        → Changes (beside g d) s (record s { rows = rows }) (Err fault) after Q
    changes_err_known fault e ls leads = record {
      answers = λ k h. tt;
      made = tt;
      failed = failed_known g d s rows (λ t v. v ≡ step t) (λ t v. v ≡ after t) e.failed (λ it v is. (
        after (shown_with g d s),
        refl,
        ls,
        subst (λ (u : Tables). LeadsTo g d s ls u (after (shown_with g d s))) (sym is) (leads it),
      ));
    }

    pub changes_ok_known : (x : X) → Changes g s.rows rows (Ok x) step P → ((t : Tables) → P t x → Q (viewed g d s t) x)
        → (ls : Vec Staged) → ArePart (staged_of s) ls.items
        → (Known g d s rows → P (shown g s.rows) x → Follows g d s ls.items step after)
        → Changes (beside g d) s (record s { rows = rows; staged = ls }) (Ok x) after Q
    changes_ok_known x e says ls part leads = record {
      answers = λ k h. let it = e.answers k.0 h.kept.rows in (it.0, says (shown g s.rows) it.1);
      made = made_known step after e.made ls part (λ it. leads it (e.answers it.honest it.tables).1);
      failed = tt;
    }

    -- a call that leaves the contents that are being received
    pub forwards_known : (r : Result X StoreFault) → Changes g s.rows rows r step P
        → ((t : Tables) (x : X) → P t x → Q (viewed g d s t) x)
        → (Known g d s rows → Follows g d s (staged_of s) step after)
        → Changes (beside g d) s (record s { rows = rows }) r after Q
    forwards_known (Ok x) e says leads =
        changes_ok_known x e (λ t. says t x) s.staged (all_of (staged_of s)) (λ it is. leads it)
    forwards_known (Err fault) e says leads = changes_err_known fault e (staged_of s) leads

    -- a call that leaves the uploads and their chunks
    pub forwards : (r : Result X StoreFault) → Changes g s.rows rows r step P
        → ((t : Tables) (x : X) → P t x → Q (viewed g d s t) x) → LeavesUploads step
        → ((t : Tables) → viewed g d s (step t) ≡ after (viewed g d s t))
        → Changes (beside g d) s (record s { rows = rows }) r after Q
    forwards r e says leaves commutes =
        let t = shown g s.rows in
        let left = leaves t in
        let follows : Follows g d s (staged_of s) step after =
        leads_same (d.seen s.disk) (staged_of s) t (step t) (after (viewed g d s t)) (commutes t) left.0 left.1 in
        forwards_known r e says (λ it. follows)
