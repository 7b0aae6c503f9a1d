-- A write into the region of a content that is being received changes nothing else.
use Rattle.placed.proofs.Prelude.{IsBeside, places_in, region_in, Some, ◌≡◌, ◌≢◌, ◌≤◌, inl, inr, ℕ, false, List, [], ◌∷◌, ◌++◌, refl, sym, ap, subst, ◌∙◌, arith, Vec, AllByRecursion, IsAscending, all_weaker, all-append, Region, HasContent, KeepsContents, HasWritten, Chunk, Tables, with_chunk, upload_number, Ghosts, normal, settled, Remains, IsOpen, Leaves, shown, Moves, Puts, FailsAny, moves_none, Placed, Staged, view, pieces_at, received_pieces, AreSeparate, OfOthers, AreStagedApart, IsStagedIn, IsPlace, IsReceived, IsAlteredBy, staged_of, AreHonest, shown_with, IsPlaced, HasPlaces, beside, pieces, length, take, drop, suc, ◌<◌, ◌+◌, slice_index_or, KeepsOthers, UploadId, is_some, find, is_staged_with, true}
use Rattle.sqlite_disk.specs.declared.Disk as disk
use Rattle.placed.proofs.Bytes.{written_is}
use Rattle.placed.proofs.Keeping.{kept_altered, pieces_alike, AgreeAt, AgreeOn, AreAway, IsAway}
use Rattle.placed.proofs.Settled.{settled-left}
use Rattle.placed.proofs.Views.{view-same, view-added}
use Rattle.placed.proofs.Both.{alike, fails, puts}
use Rattle.placed.proofs.Lists.{all_exchanged, ascending_exchanged, all_middle, ascending_middle, list_at}

-- ---- a write into the region of one content

part_separate : (a b : Region) (len : ℕ) → len ≤ b.size → AreSeparate a b → AreSeparate a (record { start = b.start; size = len })
part_separate a b len less (inl before) = inl before
part_separate a b len less (inr after) = inr (omega (arith, less, after))

pub turned_around : (a b : Region) → AreSeparate a b → AreSeparate b a
turned_around a b (inl before) = inr before
turned_around a b (inr after) = inl after

-- the content e' takes the place of e, in the region into which alone something was written
pub record Exchanges {D : Type 0} (d : disk.Ghosts D) (before after : List Staged) (disk file : D) (pre post : List Staged) (e e' : Staged)
    : Type 0 where
  pub was : before ≡ pre ++ e ∷ post
  pub is : after ≡ pre ++ e' ∷ post
  pub same_id : e.id ≡ e'.id
  pub same_region : e.draft.region ≡ e'.draft.region
  pub same_seal : e.is_sealed ≡ e'.is_sealed
  pub unsealed : e.is_sealed ≡ false
  pub changed : IsAlteredBy d (KeepsContents e.draft.region) disk file

module _ {T D : Type 0} (g : Ghosts T) (d : disk.Ghosts D) (s : Placed T D) (staged : Vec Staged) {file : D}
    {pre post : List Staged} {e e' : Staged}
    (w : Exchanges d (staged_of s) staged.items s.disk file pre post e e') where
  abbrev pub new : Placed T D
  new = record s { disk = file; staged = staged }

  honest : AreHonest g d new → AreHonest g d s
  honest k = (k.0, (w.changed.clean k.1.0, k.1.1))

  -- what holds of each content holds of each after the exchange
  exchanged : (P : Staged → Type 0) → (P e → P e') → AllByRecursion P (staged_of s) → AllByRecursion P staged.items
  exchanged P = all_exchanged P pre post e e' w.was w.is

  -- the region that is written is apart from each place
  pub away : (region : Region) → AreAway region (staged_of s) → AreSeparate e.draft.region region
  away region all =
      (all_middle (IsAway region) pre post e
      (subst (AreAway region) w.was all)).1.0 w.unsealed

  conv : (c : Chunk) → IsPlace d s.disk s.regions (staged_of s) c → IsPlace d file s.regions staged.items c
  conv c p = record {
    region = p.region;
    means = p.means;
    kept = kept_altered d s.disk file e.draft.region p.region w.changed (away p.region p.apart) p.kept;
    used = p.used;
    apart = exchanged (IsAway p.region)
        (λ away open_. subst (λ (r : Region). AreSeparate r p.region) w.same_region (away (w.same_seal ∙ open_))) p.apart;
    some = p.some;
  }

  -- what is written of another content
  other_written : (x : Staged) → AreSeparate e.draft.region x.draft.region → (r : IsReceived d s.disk s.regions x)
      → HasWritten (d.seen file) x.draft r.bytes
  other_written x apart r =
      let is_there : HasContent (d.seen s.disk)
      (record { start = x.draft.region.start; size = x.draft.written }) r.bytes = record { size = r.written.size; there = r.written.there } in
      let there = w.changed.seen (record { start = x.draft.region.start; size = x.draft.written }) r.bytes
      (part_separate e.draft.region x.draft.region x.draft.written r.within apart) is_there in
      record { size = there.size; there = there.there }

  other_received : (x : Staged) → AreSeparate e.draft.region x.draft.region → IsReceived d s.disk s.regions x
      → IsReceived d file s.regions x
  other_received x apart r = record { used = r.used; bytes = r.bytes; written = other_written x apart r; within = r.within; some = r.some }

  other_pieces : (x : Staged) → AreSeparate e.draft.region x.draft.region → IsReceived d s.disk s.regions x
      → received_pieces (d.seen file) x ≡ received_pieces (d.seen s.disk) x
  other_pieces x apart r =
      ap (pieces _)
      (written_is (d.seen file) x.draft r.bytes (other_written x apart r) ∙ sym (written_is (d.seen s.disk) x.draft r.bytes r.written))

  module _ (before : IsPlaced g d s) where
    around :
        (AllByRecursion (λ (x : Staged). AreSeparate e.draft.region x.draft.region × IsReceived d s.disk s.regions x) pre) ×
        (AllByRecursion (λ (x : Staged). AreSeparate e.draft.region x.draft.region × IsReceived d s.disk s.regions x) post)
    around =
        let each = all_middle (IsReceived d s.disk s.regions) pre post e
        (subst (AllByRecursion (IsReceived d s.disk s.regions)) w.was before.received.each) in
        let apart = ascending_middle AreStagedApart pre post e (subst (IsAscending AreStagedApart) w.was before.received.apart) in (
          both (λ (x : Staged). AreSeparate e.draft.region x.draft.region) (IsReceived d s.disk s.regions) pre
              (all_weaker (λ (x : Staged). AreStagedApart x e) (λ x. AreSeparate e.draft.region x.draft.region)
              (λ x a. turned_around x.draft.region e.draft.region a) pre apart.0) each.0,
          both (λ (x : Staged). AreSeparate e.draft.region x.draft.region) (IsReceived d s.disk s.regions) post apart.1 each.1.1,
        )
      where
        both : (P Q : Staged → Type 0) (xs : List Staged) → AllByRecursion P xs → AllByRecursion Q xs
            → AllByRecursion (λ x. P x × Q x) xs
        both P Q [] p q = tt
        both P Q (x ∷ xs) p q = ((p.0, q.0), both P Q xs p.1 q.1)

    pub same_before : AgreeOn (d.seen file) (d.seen s.disk) pre
    same_before =
        all_weaker _ (λ x. received_pieces (d.seen file) x ≡ received_pieces (d.seen s.disk) x)
        (λ x it. other_pieces x it.0 it.1) pre around.0

    pub same_after : AgreeOn (d.seen file) (d.seen s.disk) post
    same_after =
        all_weaker _ (λ x. received_pieces (d.seen file) x ≡ received_pieces (d.seen s.disk) x)
        (λ x it. other_pieces x it.0 it.1) post around.1

    -- the content is received once
    pub once_here : (AllByRecursion (λ x. OfOthers x e) pre) × (AllByRecursion (OfOthers e) post)
    once_here = ascending_middle OfOthers pre post e (subst (IsAscending OfOthers) w.was before.received.once)

    pub same_places : (cs : List Chunk) → AllByRecursion (IsPlace d s.disk s.regions (staged_of s)) cs
        → AgreeAt (d.seen file) (d.seen s.disk) cs
    same_places cs = all_weaker (IsPlace d s.disk s.regions (staged_of s)) (λ c. pieces_at (d.seen file) c ≡ pieces_at (d.seen s.disk) c)
        (λ c p. pieces_alike (d.seen file) (d.seen s.disk) c p.region p.kept.content p.means
        (w.changed.seen p.region p.kept.content (away p.region p.apart) p.kept.seen) p.kept.seen) cs

    pub places_now : (cs : List Chunk) → AllByRecursion (IsPlace d s.disk s.regions (staged_of s)) cs
        → AllByRecursion (IsPlace d file s.regions staged.items) cs
    places_now cs = all_weaker (IsPlace d s.disk s.regions (staged_of s)) (IsPlace d file s.regions staged.items) conv cs

    staged_now : (t : Tables) → AllByRecursion (IsStagedIn t) (staged_of s) → AllByRecursion (IsStagedIn t) staged.items
    staged_now t = exchanged (IsStagedIn t)
        (subst (λ (i : UploadId). is_some (find (is_staged_with (upload_number i)) t.uploads) ≡ true) w.same_id)

    -- all that holds of the store still holds, if it does of the content that was written
    pub still_placed : IsReceived d file s.regions e' → IsPlaced g d new
    still_placed here = record {
      received = record {
        each = subst (AllByRecursion (IsReceived d file s.regions)) (sym w.is)
            (all-append (IsReceived d file s.regions) pre (e' ∷ post)
            (all_weaker _ (IsReceived d file s.regions) (λ x it. other_received x it.0 it.1) pre around.0)
            (here, all_weaker _ (IsReceived d file s.regions) (λ x it. other_received x it.0 it.1) post around.1));
        once = ascending_exchanged OfOthers pre post e e' w.was w.is
            (λ x. subst (λ (i : UploadId). upload_number x.id ≢ upload_number i) w.same_id)
            (λ x. subst (λ (i : UploadId). upload_number i ≢ upload_number x.id) w.same_id) before.received.once;
        apart = ascending_exchanged AreStagedApart pre post e e' w.was w.is
            (λ x. subst (AreSeparate x.draft.region) w.same_region)
            (λ x. subst (λ (r : Region). AreSeparate r x.draft.region) w.same_region) before.received.apart;
      };
      served = λ o. let it = before.served o in record {
        places = places_now _ it.places;
        single = it.single;
        uploads = staged_now (shown g s.rows) it.uploads;
        separate = it.separate;
        beside = exchanged (λ (x : Staged). AllByRecursion (IsBeside x) (places_in (shown g s.rows)))
            (subst (λ (r : Region). AllByRecursion (λ (c : Chunk). (q : Region) → region_in c.bytes ≡ Some q → AreSeparate r q)
            (places_in (shown g s.rows))) w.same_region) it.beside;
      };
      left = λ u leaves. places_now _ (before.left u leaves);
    }

    -- what a stop leaves of the file shows what it showed before, of each tables that a stop leaves
    pub goes_back : (u : Tables) → Leaves g s.rows u → (left : List ℕ) → d.may_leave file left
        → (old : List ℕ) × d.may_leave s.disk old × (view left [] u ≡ view old [] u)
    goes_back u leaves left may =
        let it = w.changed.stop left may in (
          it.0,
          it.1,
          view-same it.0 left [] u
              (all_weaker (IsPlace d s.disk s.regions (staged_of s)) (λ c. pieces_at left c ≡ pieces_at it.0 c)
              (λ c p. pieces_alike left it.0 c p.region p.kept.content p.means
              (it.2 p.region p.kept.content (away p.region p.apart) (p.kept.left it.0 it.1))
              (p.kept.left it.0 it.1)) _
              (before.left u leaves)) tt,
        )

  -- ---- the calls

  rows_same : Moves g (λ t. t) s.rows s.rows
  rows_same = moves_none g s.rows

  pub pieces_around : IsPlaced g d s → received_pieces (d.seen file) e' ≡ received_pieces (d.seen s.disk) e → e ≡ e'
      → AgreeOn (d.seen file) (d.seen s.disk) staged.items
  pieces_around before here same =
      subst (AgreeOn (d.seen file) (d.seen s.disk)) (sym w.is)
      (all-append (λ x. received_pieces (d.seen file) x ≡ received_pieces (d.seen s.disk) x) pre (e' ∷ post) (same_before before)
      (subst (λ x. received_pieces (d.seen file) e' ≡ received_pieces (d.seen s.disk) x) same here, same_after before))

  same_staged : e ≡ e' → staged.items ≡ staged_of s
  same_staged same = w.is ∙ ap (λ x. pre ++ x ∷ post) (sym same) ∙ sym w.was

  -- a write that failed, or whose bytes are not known yet
  module _ (received : HasPlaces g d s → AreHonest g d new → IsReceived d file s.regions e')
      (pieces_same : IsPlaced g d s → AreHonest g d new
      → received_pieces (d.seen file) e' ≡ received_pieces (d.seen s.disk) e) (same : e ≡ e') where
    placed_after : HasPlaces g d s → AreHonest g d new → IsPlaced g d new
    placed_after h k = still_placed (h.placed (honest k)) (received h k)

    still_shown : HasPlaces g d s → AreHonest g d new → IsOpen g s.rows
        → view (d.seen file) staged.items (shown g s.rows) ≡ shown_with g d s
    still_shown h k o =
        let before = h.placed (honest k) in
        view-same (d.seen s.disk) (d.seen file) staged.items (shown g s.rows)
        (same_places before _ (before.served o).places) (pieces_around before (pieces_same before k) same)
        ∙ ap (λ xs. view (d.seen s.disk) xs (shown g s.rows)) (same_staged same)

    back : HasPlaces g d s → AreHonest g d new → (u : Tables) → Leaves g s.rows u → (left : List ℕ)
        → d.may_leave file left → (old : List ℕ) × d.may_leave s.disk old × (view left [] u ≡ view old [] u)
    back h k = goes_back (h.placed (honest k))

    pub write_fails : (after : Tables → Tables → Type 0) → FailsAny (beside g d) after s new
    write_fails after = fails g d s new (λ k. (w.changed.clean k.0, k.1)) placed_after (λ t v. ⊥) after
        (record { moves = rows_same; adds = λ h. record { was_honest = λ k. k; outcomes = λ k t left. inl left; safe = λ k it. it } }) still_shown back
        (λ h k o v none. absurd none)

  -- a piece that was written
  pub piece_put : (c : Chunk) → c.upload ≡ upload_number e.id
      → (HasPlaces g d s → AreHonest g d new → IsReceived d file s.regions e') → (IsPlaced g d s → AreHonest g d new
      → received_pieces (d.seen file) e' ≡ received_pieces (d.seen s.disk) e ++ c ∷ [])
      → Puts (beside g d) (λ t. normal (with_chunk c t)) s new
  piece_put c of_upload received more = puts g d s new (λ k. (w.changed.clean k.0, k.1)) placed_after (λ t. t) (λ t. normal (with_chunk c t))
      (record { moves = rows_same; adds = λ h. record { was_honest = λ k. k; outcomes = λ k t left. inl left; safe = λ k it. it } }) shows
      (λ h k. goes_back (h.placed (honest k))) turns
    where
      placed_after : HasPlaces g d s → AreHonest g d new → IsPlaced g d new
      placed_after h k = still_placed (h.placed (honest k)) (received h k)

      shows : HasPlaces g d s → AreHonest g d new → IsOpen g s.rows
          → view (d.seen file) staged.items (shown g s.rows) ≡ normal (with_chunk c (shown_with g d s))
      shows h k o =
          let before = h.placed (honest k) in
          ap (λ xs. view (d.seen file) xs (shown g s.rows)) w.is
          ∙ view-added (d.seen s.disk) (d.seen file) pre post (shown g s.rows) e e' c
          (same_places before _ (before.served o).places) (same_before before) (same_after before) (more before k)
          (all_weaker (OfOthers e) (λ (x : Staged). upload_number x.id ≢ c.upload)
          (λ x other same. other (sym of_upload ∙ sym same)) post (once_here before).1)
          ∙ sym (ap (λ xs. normal (with_chunk c (view (d.seen s.disk) xs (shown g s.rows)))) w.was)

      turns : HasPlaces g d s → AreHonest g d new → IsOpen g s.rows → (v : Tables) → v ≡ shown g s.rows → (u : Tables)
          → Remains v u → (left : List ℕ) → d.may_leave file left
          → (w : Tables) × (w ≡ normal (with_chunk c (shown_with g d s))) × (settled (view left [] u) ≡ settled w)
      turns h k o v same u remains left may =
          let after = placed_after h k in
          let served = after.served o in (
            normal (with_chunk c (shown_with g d s)),
            refl,
            settled-left (d.seen file) left staged.items (shown g s.rows) u
                (subst (λ (t : Tables). Remains t u) same remains) served.uploads (alike g d new left may _ served.places)
                ∙ ap settled (shows h k o),
          )

-- ---- what was written stays

-- the content at an index, past whose bytes alone something was written into its region
pub record WritesPast {D : Type 0} (d : disk.Ghosts D) (staged : List Staged) (disk file : D) (index : ℕ) (e : Staged) : Type 0 where
  pub less : index < length staged
  pub at : slice_index_or staged index e ≡ e
  pub unsealed : e.is_sealed ≡ false
  pub altered : IsAlteredBy d (KeepsContents e.draft.region) disk file
  pub len : ℕ
  pub others : IsAlteredBy d (KeepsOthers (e.draft.region.start + e.draft.written) len) disk file

pub writes_past : {D : Type 0} (d : disk.Ghosts D) (staged : List Staged) (disk file : D) (index : ℕ) (e : Staged)
    → index < length staged → slice_index_or staged index e ≡ e → e.is_sealed ≡ false
    → IsAlteredBy d (KeepsContents e.draft.region) disk file → (len : ℕ)
    → IsAlteredBy d (KeepsOthers (e.draft.region.start + e.draft.written) len) disk file
    → WritesPast d staged disk file index e
writes_past d staged disk file index e less at unsealed altered len others =
    record { less = less; at = at; unsealed = unsealed; altered = altered; len = len; others = others }

module _ {T D : Type 0} (g : Ghosts T) (d : disk.Ghosts D) (s : Placed T D) {file : D} {index : ℕ} {e : Staged}
    (w : WritesPast d (staged_of s) s.disk file index e) where
  -- the contents are the same
  pub unchanged : Exchanges d (staged_of s) (staged_of s) s.disk file (take index (staged_of s)) (drop (suc index) (staged_of s)) e e
  unchanged =
      let is = list_at (staged_of s) index e w.less w.at in
      record { was = is; is = is; same_id = refl; same_region = refl; same_seal = refl; unsealed = w.unsealed; changed = w.altered }

  pub received_at : IsPlaced g d s → IsReceived d s.disk s.regions e
  received_at before =
      (all_middle (IsReceived d s.disk s.regions) (take index (staged_of s)) (drop (suc index) (staged_of s)) e
      (subst (AllByRecursion (IsReceived d s.disk s.regions)) unchanged.was before.received.each)).1.0

  still_written : (r : IsReceived d s.disk s.regions e) → HasWritten (d.seen file) e.draft r.bytes
  still_written r = record {
    size = r.written.size;
    there = w.others.seen e.draft.region.start r.bytes (inr (omega (arith, r.written.size))) r.written.there;
  }

  pub still_received : IsPlaced g d s → IsReceived d file s.regions e
  still_received before = let r = received_at before in
      record { used = r.used; bytes = r.bytes; written = still_written r; within = r.within; some = r.some }

  pub still_pieces : IsPlaced g d s → received_pieces (d.seen file) e ≡ received_pieces (d.seen s.disk) e
  still_pieces before = let r = received_at before in
      ap (pieces (upload_number e.id))
      (written_is (d.seen file) e.draft r.bytes (still_written r) ∙ sym (written_is (d.seen s.disk) e.draft r.bytes r.written))
