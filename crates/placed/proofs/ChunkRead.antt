-- The calls that read a chunk: of the database, of where its content is, and of the file.
use Rattle.placed.proofs.Prelude.{◌≡◌, ◌≢◌, false, ℕ, pos, List, find, Option, Some, None, option_map, Result, Ok, Err, IsTrue, sym, ap, subst, ◌∙◌, IfOk, IsErr, Region, HasContent, IsSameFile, Tables, is_chunk, upload_number, StoreFault, UploadId, content_bytes, IsContentOf, ChunkContent, Ghosts, IsHonest, IsOpen, shown, Moves, AddsNothing, Reads, nothing_then, Placed, place_number, piece_of, IsRegionOf, staged_of, AreHonest, shown_with, IsPlaced, HasPlaces, beside}
use Rattle.std.proofs.lemmas.Result.{IfOk-from_err}
use Rattle.sqlite_disk.specs.declared.Disk as disk
use Rattle.store.proofs.Moved.{moves_then}
use Rattle.store.specs.ReadFaults.{result_behind}
use Rattle.store.specs.declared.read_fault.ReadFault.{ReadFault}
use Rattle.placed.proofs.Seeking.{row-found, nowhere-found}
use Rattle.placed.proofs.After.{reads_after}
use Rattle.placed.proofs.Located.{found_some, found_none}
use Rattle.placed.proofs.Fetched.{other_pos, fetched}
use Rattle.placed.proofs.Restaged.{reads_both}
use Rattle.placed.proofs.Keeping.{file_itself}

pub err_behind : {X : Type 0} (r : Result X ReadFault) → IsErr r → IsErr (result_behind r)
err_behind (Ok x) err = err
err_behind (Err fault) err = err

module _ {T D : Type 0} (g : Ghosts T) (d : disk.Ghosts D) (s : Placed T D) where
  -- a call of the database failed
  pub failed_read : {X : Type 0} (rows : T) (r : Result X StoreFault) (P : Tables → X → Type 0) → IsErr r
      → Moves g (λ t. t) s.rows rows → AddsNothing g s.rows rows → Reads (beside g d) s (record s { rows = rows }) r P
  failed_read rows r P err m a = reads_both g d s rows s.disk m a (file_itself d s.disk) r P (λ k h. IfOk-from_err r _ err)

  -- two calls of the database, and then one of the file
  module _ (between : T) (then : Placed T D) (rest : then ≡ record s { rows = then.rows })
      (m : Moves g (λ t. t) s.rows between) (a : AddsNothing g s.rows between) (m' : Moves g (λ t. t) between then.rows)
      (a' : AddsNothing g between then.rows) (disk : D) (same : IsSameFile d then.disk disk) where
    disk_is : then.disk ≡ s.disk
    disk_is = ap (λ (it : Placed T D). it.disk) rest

    pub reads_last : {X : Type 0} (r : Result X StoreFault) (P : Tables → X → Type 0)
        → (AreHonest g d (record then { disk = disk }) → HasPlaces g d s
        → IfOk r (λ x. IsOpen g s.rows × P (shown_with g d s) x))
        → Reads (beside g d) s (record then { disk = disk }) r P
    reads_last r P says =
        subst (λ (it : Placed T D). Reads (beside g d) s (record it { disk = disk }) r P) (sym rest)
        (reads_both g d s then.rows disk (moves_then g s.rows between then.rows m m') (nothing_then g s.rows between then.rows a a')
        (subst (λ (it : D). IsSameFile d it disk) disk_is same) r P
        (λ k h. says (k.0, (k.1.0, ap (λ (it : Placed T D). it.has_lost) rest ∙ k.1.1)) h))

    -- one of the calls failed
    pub failed_last : {X : Type 0} (r : Result X StoreFault) (P : Tables → X → Type 0) → IsErr r
        → Reads (beside g d) s (record then { disk = disk }) r P
    failed_last r P err = reads_last r P (λ k h. IfOk-from_err r _ err)

  module _ (upload : UploadId) (n : ℕ) (other : n ≢ place_number) where
    -- what is said of the chunk that is read
    abbrev pub IsRead : Tables → Option ChunkContent → Type 0
    IsRead t found = IsContentOf found (find (is_chunk (upload_number upload) (pos n)) t.chunks)

    -- it is a row of the database
    pub row_read : (rows : T) (read : Option ChunkContent) (chunk : ChunkContent) → Reads g s.rows rows (Ok read) IsRead
        → read ≡ Some chunk → Reads (beside g d) s (record s { rows = rows }) (Ok (Some chunk)) IsRead
    row_read rows read chunk e is =
        reads_both g d s rows s.disk e.same e.adds (file_itself d s.disk) (Ok (Some chunk)) IsRead (λ k h.
        let it = e.answers k.0 h.rows in
        let row = found_some (content_bytes chunk) (find (is_chunk (upload_number upload) (pos n)) (shown g s.rows).chunks)
        (ap (option_map content_bytes) (sym is) ∙ it.1) in (
          it.0,
          sym (row-found (d.seen s.disk) (staged_of s) (upload_number upload) (pos n) (shown g s.rows) row.0 (other_pos n other) row.1
              ∙ ap Some row.2),
        ))

    -- it is no row, and the region of the content was read
    module _ (between : T) (then : Placed T D) (rest : then ≡ record s { rows = then.rows })
        (read : Option ChunkContent) (found : Option Region) (e : Reads g s.rows between (Ok read) IsRead)
        (none : read ≡ None)
        (e' : Reads g between then.rows (Ok found) (IsRegionOf (upload_number upload) (staged_of s))) where
      no_row : IsHonest g then.rows → HasPlaces g d s
          → IsOpen g s.rows × (find (is_chunk (upload_number upload) (pos n)) (shown g s.rows).chunks ≡ None)
      no_row k h =
          let it = e.answers (e'.same.was_honest k) h.rows in
          (it.0, found_none (find (is_chunk (upload_number upload) (pos n)) (shown g s.rows).chunks) (ap (option_map content_bytes) (sym none) ∙ it.1))

      region_known : IsHonest g then.rows → HasPlaces g d s
          → IsRegionOf (upload_number upload) (staged_of s) (shown g s.rows) found
      region_known k h =
          let both = reads_after g s.rows between then.rows e.same e.adds (IsRegionOf (upload_number upload) (staged_of s)) (Ok found) e' in
          (both.answers k h.rows).1

      -- none of the content is in the file
      pub nothing_read : found ≡ None → Reads (beside g d) s then (Ok None) IsRead
      nothing_read is =
          reads_last between then rest e.same e.adds e'.same e'.adds then.disk (file_itself d then.disk) (Ok None) IsRead (λ k h.
          let no = no_row k.0 h in
          let where_is = subst (IsRegionOf (upload_number upload) (staged_of s) (shown g s.rows)) is (region_known k.0 h) in (
            no.0,
            sym (nowhere-found (d.seen s.disk) (staged_of s) (upload_number upload) (pos n) (shown g s.rows) (other_pos n other) no.1
                where_is.0 where_is.1),
          ))

      -- its piece was read of the file, which may have none with this number
      pub piece_read : (region : Region) → found ≡ Some region → (disk : D) → IsSameFile d then.disk disk
          → (piece : Option ChunkContent) → (IsTrue (d.is_clean disk) → (content : List ℕ)
          → HasContent (d.seen then.disk) region content → option_map content_bytes piece ≡ piece_of n content)
          → Reads (beside g d) s (record then { disk = disk }) (Ok piece) IsRead
      piece_read region is disk same piece says =
          reads_last between then rest e.same e.adds e'.same e'.adds disk same (Ok piece) IsRead (λ k h.
          let no = no_row k.0 h in
          let at : then.disk ≡ s.disk = ap (λ (it : Placed T D). it.disk) rest in
          let clean : IsTrue (d.is_clean s.disk) = subst (λ (it : D). IsTrue (d.is_clean it)) at (same.clean k.1.0) in
          let kept : s.has_lost ≡ false = sym (ap (λ (it : Placed T D). it.has_lost) rest) ∙ k.1.1 in
          let placed : IsPlaced g d s = h.placed (e.same.was_honest (e'.same.was_honest k.0), (clean, kept)) in
          let where_is = subst (IsRegionOf (upload_number upload) (staged_of s) (shown g s.rows)) is (region_known k.0 h) in (
            no.0,
            fetched d s.disk s.regions (staged_of s) (shown g s.rows) placed.received (placed.served no.0) (upload_number upload) n other no.1
                region where_is (option_map content_bytes piece)
                (λ content has. says k.1.0 content (subst (λ (it : D). HasContent (d.seen it) region content) (sym at) has)),
          ))
