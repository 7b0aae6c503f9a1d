-- Staged uploads are removed one after the other.
use Rattle.uploads.proofs.Prelude.{◌≡◌, ◌∙◌, ℕ, ℤ, pos, List, [], ◌∷◌, map, filter, length, Option, Some, None, Result, Ok, Err, OnOk, OnErr, ⊤, refl, sym, ap, Ghosts, World, Tables, IsHonest, IsOpen, Moves, Makes, Puts, Fails, shown, UploadFields, upload_number, upload_fields, read_upload, AreUploadsOf, staged_with, without_staged, without_found_from, is_staged, StoreFault, UploadId, UploadRow, Holds, From, Keeps, Reads, leads_still, keeps_still, keeps_then, HasStaged, Shortens, Sweeps}
use Rattle.std.proofs.lemmas.List.{length-map}
use Rattle.sqlite_keyed.proofs.ListLemmas.{map-map}
use Rattle.tables.specs.Rows as row
use Rattle.store.specs.Shown as tables
use Rattle.tables.specs.Staging.{without_staged_from}
use Rattle.tables.specs.Statements.{without_chunks_from}
use Rattle.tables.specs.declared.fault.StoreFault.TheVariants.{Refused}
use Rattle.refinement.specs.Staging.{StagesNone}
use Rattle.refinement.proofs.Staged.{keeps_removed, keeps_shortened, stages_none}
use Rattle.refinement.proofs.Swept.{first_gone}

-- the ids of the staged uploads
abbrev pub staged_ids : Tables → List ℤ
staged_ids t = map (λ (u : row.Upload). u.id) (filter is_staged t.uploads)

-- the ids in rows that were read
abbrev pub row_ids : List UploadRow → List ℤ
row_ids rows = map (λ (r : UploadRow). upload_number r.id) rows

-- as many uploads as rows
counted : (t : Tables) (rows : List UploadRow) → staged_ids t ≡ row_ids rows → length (filter is_staged t.uploads) ≡ length rows
counted t rows e = sym (length-map (filter is_staged t.uploads) (λ (u : row.Upload). u.id)) ∙ ap length e ∙ length-map rows (λ (r : UploadRow). upload_number r.id)

-- the ids of the rows that were read
ids_read : (rows : List UploadRow) (us : List row.Upload) → AreUploadsOf rows us → row_ids rows ≡ map (λ (u : row.Upload). u.id) us
ids_read rows us e =
    sym (map-map (λ (f : UploadFields). f.id) read_upload rows) ∙ ap (map (λ (f : UploadFields). f.id)) e ∙ map-map (λ (f : UploadFields). f.id) upload_fields us

-- the uploads of the tables without some chunks of one
same_uploads : (t : Tables) (id : ℤ) (n : ℕ) → (without_staged_from id (pos n) t).uploads ≡ t.uploads
unfolding without_staged_from without_chunks_from
same_uploads t id n = at (staged_with id t)
  where
    at : (o : Option row.Upload) → (without_found_from o (pos n) t).uploads ≡ t.uploads
    at None = refl
    at (Some u) = refl

module _ {S : Type 0} (g : Ghosts S) where
  -- of n staged uploads, these are left; the world is kept
  pub record IsSwept (world : World) (old now : S) (n : ℕ) (left : List UploadRow) : Type 0 where
    pub keeps : Keeps g old now world
    pub total : HasStaged g old n
    pub ids : IsHonest g now → IsOpen g now → staged_ids (shown g now) ≡ row_ids left

  -- at first all are left
  pub swept_none : (old now : S) (ids : List UploadRow) → Moves g (λ t. t) old now → tables.AddsNothing g old now
      → (IsHonest g now → tables.HasTables g old → IsOpen g old × AreUploadsOf ids (filter is_staged (shown g old).uploads))
      → From g old now (λ world. IsSwept world old now (length ids) ids)
  swept_none old now ids same adds said = record {
    honest = same.was_honest;
    each = λ honest world h. record {
      keeps = keeps_still g old now world (leads_still g old now world same adds h);
      total = λ k o. counted (shown g old) ids (sym (ids_read ids (filter is_staged (shown g old).uploads) (said honest h.ready).1));
      ids = λ k o. ap staged_ids (same.shows k h.ready o) ∙ sym (ids_read ids (filter is_staged (shown g old).uploads) (said honest h.ready).1);
    };
  }

  -- the store refuses to read them
  pub unread : (old now : S) (fault : StoreFault) → Moves g (λ t. t) old now → tables.AddsNothing g old now → From g old now (λ world. Sweeps g world old now (Err fault))
  unread old now fault same adds = record {
    honest = same.was_honest;
    each = λ honest world h. keeps_still g old now world (leads_still g old now world same adds h);
  }

  -- ---- the last chunks of an upload are removed

  -- none so far
  pub shortens_read : (a b : S) → Reads g a b (λ _. ⊤) → From g a b (Shortens g a b)
  shortens_read a b reads = record {
    honest = reads.same.was_honest;
    each = λ k world h. (
      keeps_still g a b world (leads_still g a b world reads.same reads.adds h),
      λ honest o. (reads.same.was_open honest o, ap (λ (t : Tables). t.uploads) (reads.same.shows honest h.ready o)),
    );
  }

  module _ (a b c : S) (id : ℤ) (n : ℕ) (so_far : From g a b (Shortens g a b)) where
    -- some more
    pub shortens_more : Puts g (without_staged_from id (pos n)) b c → From g a c (Shortens g a c)
    shortens_more made = record {
      honest = λ k. so_far.honest (made.moves.was_honest k);
      each = λ k world h.
          let it = so_far.each (made.moves.was_honest k) world h in
          let result : Result ℕ StoreFault = Ok 0 in (
            keeps_then g a b c world it.0 (keeps_shortened g b c id world result n made tt it.0.holds),
            λ honest o.
                let was = it.1 (made.moves.was_honest honest) (made.moves.was_open honest o) in
                (was.0, ap (λ (t : Tables). t.uploads) (made.moves.shows honest it.0.holds.ready o) ∙ same_uploads (shown g b) id n ∙ was.1),
          );
    }

    -- or the store refuses
    pub shortens_failed : Fails g (without_staged_from id (pos n)) b c → From g a c (Shortens g a c)
    shortens_failed fails = record {
      honest = λ k. so_far.honest (fails.moves.was_honest k);
      each = λ k world h.
          let it = so_far.each (fails.moves.was_honest k) world h in
          let result : Result ℕ StoreFault = Err Refused in (
            keeps_then g a b c world it.0 (keeps_shortened g b c id world result n tt fails it.0.holds),
            λ honest o.
                let was = it.1 (fails.moves.was_honest honest) (fails.moves.was_open honest o) in
                (was.0, ap (λ (t : Tables). t.uploads) (fails.moves.shows honest it.0.holds.ready o) ∙ was.1),
          );
    }

  -- ---- an upload is removed

  module _ (a b c : S) (id : UploadId) (cut : From g a b (Shortens g a b)) where
    pub abandons : {T E : Type 0} (r : Result T E) → OnOk r (Makes g (without_staged (upload_number id)) b c) → OnErr r (Fails g (without_staged (upload_number id)) b c)
        → (IsHonest g c → IsHonest g b) → From g a c (λ world. Keeps g a c world × OnOk r (StagesNone g c (upload_number id)))
    abandons r made failed was = record {
      honest = λ k. cut.honest (was k);
      each = λ k world h.
          let it = cut.each (was k) world h in
          (keeps_then g a b c world it.0 (keeps_removed g b c (upload_number id) world r made failed it.0.holds), none r made it.0.holds);
    }
      where
        none : {T E : Type 0} (r : Result T E) → OnOk r (Makes g (without_staged (upload_number id)) b c) → {world : World} → Holds g b world → OnOk r (StagesNone g c (upload_number id))
        none (Ok x) made {world} holds = stages_none g b c (upload_number id) world made holds
        none (Err e) made holds = tt

  -- the chunks of the first one are removed but for some
  pub swept_cut : (old now next : S) (n : ℕ) (left : List UploadRow) → From g old now (λ world. IsSwept world old now n left) → From g now next (Shortens g now next) → From g old next (λ world. IsSwept world old next n left)
  swept_cut old now next n left so_far cut = record {
    honest = λ k. so_far.honest (cut.honest k);
    each = λ k world h.
        let it = so_far.each (cut.honest k) world h in
        let more = cut.each k world it.keeps.holds in
        record {
          keeps = keeps_then g old now next world it.keeps more.0;
          total = it.total;
          ids = λ honest o. let was = more.1 honest o in ap (λ us. map (λ (u : row.Upload). u.id) (filter is_staged us)) was.1 ∙ it.ids (cut.honest honest) was.0;
        };
  }

  -- or the store refuses
  pub cut_fails : (old now next : S) (n : ℕ) (left : List UploadRow) (fault : StoreFault) → From g old now (λ world. IsSwept world old now n left) → From g now next (Shortens g now next) → From g old next (λ world. Sweeps g world old next (Err fault))
  cut_fails old now next n left fault so_far cut = record {
    honest = λ k. so_far.honest (cut.honest k);
    each = λ k world h.
        let it = so_far.each (cut.honest k) world h in
        keeps_then g old now next world it.keeps (cut.each k world it.keeps.holds).0;
  }

  module _ (old now next : S) (n : ℕ) (upload : UploadRow) (left : List UploadRow) where
    -- one upload is removed
    pub swept_more : From g old now (λ world. IsSwept world old now n (upload ∷ left)) → Makes g (without_staged (upload_number upload.id)) now next → From g old next (λ world. IsSwept world old next n left)
    swept_more so_far made = record {
      honest = λ k. so_far.honest (made.moves.was_honest k);
      each = λ k world h.
          let it = so_far.each (made.moves.was_honest k) world h in
          let holds = it.keeps.holds in
          let result : Result ℕ StoreFault = Ok 0 in
          record {
            keeps = keeps_then g old now next world it.keeps (keeps_removed g now next (upload_number upload.id) world result made tt holds);
            total = it.total;
            ids = λ honest o.
                let was = made.moves.was_honest honest in
                let open_then = made.moves.was_open honest o in
                ap staged_ids (made.moves.shows honest holds.ready o)
                ∙ first_gone (shown g now) (upload_number upload.id) (row_ids left) (holds.shows was open_then).objects.rise (it.ids was open_then);
          };
    }

    -- or the store refuses
    pub sweep_fails : (fault : StoreFault) → From g old now (λ world. IsSwept world old now n (upload ∷ left)) → Fails g (without_staged (upload_number upload.id)) now next
        → From g old next (λ world. Sweeps g world old next (Err fault))
    sweep_fails fault so_far fails = record {
      honest = λ k. so_far.honest (fails.moves.was_honest k);
      each = λ k world h.
          let it = so_far.each (fails.moves.was_honest k) world h in
          let result : Result ℕ StoreFault = Err fault in
          keeps_then g old now next world it.keeps (keeps_removed g now next (upload_number upload.id) world result tt fails it.keeps.holds);
    }

  -- at last none is left
  pub swept_all : (old now : S) (n count : ℕ) → n ≡ count → From g old now (λ world. IsSwept world old now n []) → From g old now (λ world. Sweeps g world old now (Ok count))
  swept_all old now n count same so_far = record {
    honest = so_far.honest;
    each = λ k world h.
        let it = so_far.each k world h in
        (it.keeps, (λ honest o. it.total honest o ∙ same), (λ honest o. counted (shown g now) [] (it.ids honest o)));
  }
