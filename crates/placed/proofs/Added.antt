-- A piece that is written after those of a content that is being received.
use Rattle.placed.proofs.Prelude.{◌≡◌, ℤ, Contains, ◌≤◌, ◌+◌, ◌*◌, ℕ, suc, List, [], ◌∷◌, ◌++◌, length, take, drop, Ok, Err, refl, sym, ap, subst, ◌∙◌, arith, with_item, Draft, regions_of, HasWritten, Tables, with_chunk, upload_number, asked_chunk, StoreFault, Ghosts, normal, IsHonest, IsOpen, HasTables, Moves, AddsNothing, PutsOr, Placed, Staged, received_pieces, IsReceived, piece_size, pieces, staged_of, IsPlaced, beside}
use Rattle.std.specs.Prelude.{⊤}
use Rattle.sqlite_disk.specs.declared.Disk as disk
use Rattle.contents.specs.Drafts.{HasRoomFor}
use Rattle.placed.proofs.Bytes.{written_is}
use Rattle.placed.proofs.Cutting.{pieces_push}
use Rattle.placed.proofs.Forward.{still, nothing}
use Rattle.placed.proofs.After.{puts_after, fails_after}
use Rattle.placed.proofs.Written.{WritesPast, received_at, still_received, still_pieces, piece_put, write_fails}
use Rattle.placed.proofs.Lists.{list_at, set_at}

module _ {T D : Type 0} (g : Ghosts T) (d : disk.Ghosts D) (old : Placed T D) (rows : T)
    (moves : Moves g (λ t. t) old.rows rows) (adds : AddsNothing g old.rows rows) {file : D} {index : ℕ} {e : Staged}
    (w : WritesPast d (staged_of old) old.disk file index e) where
  -- the store after the call that was made first
  abbrev mid : Placed T D
  mid = record old { rows = rows }

  -- the store with this content in the place of the other
  abbrev with_content : Staged → Placed T D
  with_content content = record old { rows = rows; disk = file; staged = with_item old.staged index content }

  -- the piece was written
  module _ (draft : Draft) (id : ℤ) (n : ℕ) (bytes : List ℕ) (of_upload : upload_number e.id ≡ id)
      (full : length bytes ≡ piece_size) (number : e.draft.written ≡ n * piece_size)
      (same_region : draft.region ≡ e.draft.region) (written : draft.written ≡ e.draft.written + length bytes)
      (room : HasRoomFor e.draft (length bytes)) (joined : (before : List ℕ)
      → HasWritten (d.seen old.disk) e.draft before → HasWritten (d.seen file) draft (before ++ bytes)) where
    -- the content with the piece
    abbrev longer : Staged
    longer = record e { draft = draft }

    abbrev step : Tables → Tables
    step t = normal (with_chunk (asked_chunk id n bytes) t)

    received : IsPlaced g d mid → IsReceived d file old.regions longer
    received before = let r = received_at g d mid w before in record {
      used = subst (λ region. Contains (regions_of old.regions) region) (sym same_region) r.used;
      bytes = r.bytes ++ bytes;
      written = joined r.bytes r.written;
      within = subst (λ region. draft.written ≤ region.size) (sym same_region) (subst (λ k. k ≤ e.draft.region.size) (sym written) room.within);
      some = subst (λ region. 1 ≤ region.size) (sym same_region) r.some;
    }

    more : IsPlaced g d mid
        → received_pieces (d.seen file) longer ≡ received_pieces (d.seen old.disk) e ++ asked_chunk id n bytes ∷ []
    more before =
        let r = received_at g d mid w before in
        ap (pieces (upload_number e.id)) (written_is (d.seen file) draft (r.bytes ++ bytes) (joined r.bytes r.written))
        ∙ pieces_push (upload_number e.id) n r.bytes bytes (r.written.size ∙ number) (omega (arith, full)) (omega (arith, full))
        ∙ ap (λ k. pieces (upload_number e.id) r.bytes ++ asked_chunk k n bytes ∷ []) of_upload
        ∙ sym (ap (λ l. pieces (upload_number e.id) l ++ asked_chunk id n bytes ∷ []) (written_is (d.seen old.disk) e.draft r.bytes r.written))

    pub added : (IsHonest g rows → HasTables g old.rows → IsOpen g old.rows)
        → PutsOr (beside g d) old (with_content longer) (Ok (tt {0})) step (λ _ _. ⊤)
    added is_open = record {
      answers = λ k h. (is_open k.0 h.kept.rows, tt);
      made = puts_after (beside g d) old mid _ (still g d old rows moves adds) (nothing g d old rows adds) step
          (piece_put g d mid (with_item old.staged index longer) (record {
            was = list_at (staged_of old) index e w.less w.at;
            is = set_at (staged_of old) index longer w.less;
            same_id = refl;
            same_region = sym same_region;
            same_seal = refl;
            unsealed = w.unsealed;
            changed = w.altered;
          }) (asked_chunk id n bytes) (sym of_upload) (λ h k. received (h.placed (k.0, (w.altered.clean k.1.0, k.1.1)))) (λ before k. more before));
      failed = tt;
    }

  -- the piece was not written, or part of it: what was written before is still there
  pub not_added : {X : Type 0} (fault : StoreFault) (after : Tables → Tables) (P : Tables → X → Type 0)
      → (draft : Draft) → draft ≡ e.draft
      → PutsOr (beside g d) old (with_content (record e { draft = draft })) (Err fault) after P
  not_added fault after P draft same = record {
    answers = λ k h. tt;
    made = tt;
    failed = fails_after (beside g d) old mid _ (still g d old rows moves adds) (nothing g d old rows adds) (λ t v. v ≡ after t)
        (write_fails g d mid (with_item old.staged index (record e { draft = draft })) (record {
          was = list_at (staged_of old) index e w.less w.at;
          is = set_at (staged_of old) index (record e { draft = draft }) w.less
              ∙ ap (λ (it : Draft). take index (staged_of old) ++ record e { draft = it } ∷ drop (suc index) (staged_of old)) same;
          same_id = refl;
          same_region = refl;
          same_seal = refl;
          unsealed = w.unsealed;
          changed = w.altered;
        }) (λ h k. still_received g d mid w (h.placed (k.0, (w.altered.clean k.1.0, k.1.1))))
        (λ before k. still_pieces g d mid w before) refl (λ t v. v ≡ after t));
  }
