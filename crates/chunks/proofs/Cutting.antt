-- Bytes that are cut into chunks, one after the other.
use Rattle.std.proofs.Common.{◌≡◌, ◌<◌, ◌≤◌, ◌+◌, ℕ, List, [], ◌∷◌, ◌++◌, length, Result, Ok, Err, OnOk, OnErr, sym, ap, subst, ◌∙◌, arith, take, append-nil, append_assoc, length-append, length-take}
use Rattle.std.specs.List.{AllByRecursion, concat}
use Rattle.store.specs.declared.state.State.{Ghosts}
use Rattle.sqlite_trees.proofs.ListLemmas.{all-append}
use Rattle.model.specs.World.{World}
use Rattle.tables.specs.declared.new_rows.LastChunk.{LastChunk}
use Rattle.tables.specs.Rows.{Tables}
use Rattle.tables.specs.Statements.{with_chunk}
use Rattle.store.specs.Normal.{normal}
use Rattle.tables.specs.Staging.{upload_number, asked_chunk}
use Rattle.store.specs.Shown.{IsHonest, HasTables, Puts, Fails}
use Rattle.refinement.specs.Representation.{Holds}
use Rattle.refinement.specs.Left.{Keeps, From}
use Rattle.refinement.specs.Staging.{Stages, pieces_with}
use Rattle.refinement.proofs.Leading.{leads_none, keeps_still, keeps_then, was_put_by}
use Rattle.refinement.proofs.Staged.{stages_more, keeps_chunk}
use Rattle.chunks.specs.declared.intake.Intake.{Intake}
use Rattle.chunks.specs.Intakes.{chunk_size, AreChunks, IsCut, KeepsCount, IsWhole, Cuts, HasTaken, Advances, KeepsWithin}

pub at_most : (n : ℕ) (xs : List ℕ) → length (take n xs) ≤ length xs
at_most n xs = let e = length-take n xs in omega (arith, e)

-- the first bytes, as many as there is room for
pub fits_in : (last rest : List ℕ) (n : ℕ) → n + length last ≤ chunk_size → length (last ++ take n rest) ≤ chunk_size
fits_in last rest n room = let e = length-append last (take n rest) in let t = length-take n rest in omega (arith, e, t, room)

-- the bytes in memory, and as many more as there was room for
pub fills : (all last more : List ℕ) → all ≡ last ++ more → length all ≡ chunk_size → length (last ++ more) ≤ chunk_size
fills all last more is full = let e = sym (ap length is) ∙ full in omega (arith, e)

-- one piece more
concat_more : (pieces : List (List ℕ)) (last : List ℕ) → concat (pieces ++ last ∷ []) ≡ concat pieces ++ last
concat_more [] last = append-nil last
concat_more (p ∷ ps) last = ap (λ l. p ++ l) (concat_more ps last) ∙ sym (append_assoc p (concat ps) last)

-- full chunks, and then one that has at least one byte
chunks_then : (pieces : List (List ℕ)) (last : List ℕ) → AllByRecursion (λ (p : List ℕ). length p ≡ chunk_size) pieces → 0 < length last → length last ≤ chunk_size → AreChunks (pieces ++ last ∷ [])
chunks_then [] last full some short = (some, short)
chunks_then (p ∷ []) last full some short = (full.0, (some, short))
chunks_then (p ∷ q ∷ ps) last full some short = (full.0, chunks_then (q ∷ ps) last full.1 some short)

-- full chunks
full_chunks : (pieces : List (List ℕ)) → AllByRecursion (λ (p : List ℕ). length p ≡ chunk_size) pieces → AreChunks pieces
full_chunks [] full = tt
full_chunks (p ∷ []) full = let e = full.0 in (omega (arith, e), omega (arith, e))
full_chunks (p ∷ q ∷ ps) full = (full.0, full_chunks (q ∷ ps) full.1)

-- the bytes in memory are one piece more
all_of : (last : List ℕ) (pieces : List (List ℕ)) (bytes : List ℕ) → concat pieces ++ last ≡ bytes → concat (pieces ++ last ∷ []) ≡ bytes
all_of last pieces bytes all = concat_more pieces last ∙ all

-- full chunks, and the bytes in memory, if there are any
chunks_with : (pieces : List (List ℕ)) (last : List ℕ) → AllByRecursion (λ (p : List ℕ). length p ≡ chunk_size) pieces → length last ≤ chunk_size → AreChunks (pieces_with pieces last)
chunks_with pieces [] full short = full_chunks pieces full
chunks_with pieces (byte ∷ bytes) full short = chunks_then pieces (byte ∷ bytes) full (omega arith) short

pub whole_with : (last : LastChunk) (pieces : List (List ℕ)) (bytes : List ℕ) → IsCut last.n last.bytes.items pieces bytes → IsWhole pieces last bytes
whole_with last pieces bytes h = record { next = h.count; chunks = chunks_with pieces last.bytes.items h.full h.short; all = h.all }

-- the bytes in memory are one full chunk more
cut_chunk : (written : ℕ) (last : List ℕ) (pieces : List (List ℕ)) (bytes : List ℕ) → length last ≡ chunk_size → IsCut written last pieces bytes → IsCut (written + 1) [] (pieces ++ last ∷ []) (bytes ++ [])
cut_chunk written last pieces bytes full h = record {
  count = ap (λ k. k + 1) h.count ∙ sym (length-append pieces (last ∷ []));
  full = all-append (λ (p : List ℕ). length p ≡ chunk_size) pieces (last ∷ []) h.full (full, tt);
  short = omega arith;
  all = append-nil _ ∙ all_of last pieces bytes h.all ∙ sym (append-nil bytes);
}

-- more bytes in memory
pub cut_more : (written : ℕ) (last more : List ℕ) (pieces : List (List ℕ)) (bytes : List ℕ) → length (last ++ more) ≤ chunk_size → IsCut written last pieces bytes → IsCut written (last ++ more) pieces (bytes ++ more)
cut_more written last more pieces bytes short h =
    record { count = h.count; full = h.full; short = short; all = sym (append_assoc (concat pieces) last more) ∙ ap (λ l. l ++ more) h.all }

-- the pieces and the bytes in memory are no more bytes than all
within : (written : ℕ) (last : List ℕ) (pieces : List (List ℕ)) (bytes : List ℕ) → IsCut written last pieces bytes → length (concat pieces) + length last ≡ length bytes
within written last pieces bytes h = sym (length-append (concat pieces) last) ∙ ap length h.all

pub count_then : (i j k : Intake) → KeepsCount i j → KeepsCount j k → KeepsCount i k
count_then i j k p q = record { upload = q.upload ∙ p.upload; size = q.size ∙ p.size; hasher = q.hasher ∙ p.hasher; taken = q.taken ∙ p.taken; spent = q.spent ∙ p.spent }

module _ {S : Type 0} (g : Ghosts S) where
  -- ---- nothing was written

  pub keeps_nothing : (s : S) (i : Intake) (more : ℕ) → KeepsWithin g s i s more
  keeps_nothing s i more = record {
    honest = λ k. k;
    ready = λ h. h;
    kept = λ repo name size bytes cuts fits world h. keeps_still g s s world (leads_none g s world h);
  }

  -- ---- one chunk was written

  abbrev step : Intake → Tables → Tables
  step i t = normal (with_chunk (asked_chunk (upload_number i.upload) i.written i.last.items) t)

  made_ready : {T E : Type 0} (f : Tables → Tables) (s t : S) (r : Result T E) → OnOk r (Puts g f s t) → OnErr r (Fails g f s t) → HasTables g s → HasTables g t
  made_ready f s t (Ok x) made fails = made.moves.ready
  made_ready f s t (Err e) made fails = fails.moves.ready

  pub chunk_kept : {T E : Type 0} (s t : S) (i : Intake) (r : Result T E) → OnOk r (Puts g (step i) s t) → OnErr r (Fails g (step i) s t) → KeepsWithin g s i t 0
  chunk_kept s t i r made fails = record {
    honest = was_put_by g (step i) s t r made fails;
    ready = made_ready (step i) s t r made fails;
    kept = λ repo name size bytes cuts fits world h.
        let at : step i ≡ (λ t. normal (with_chunk (asked_chunk (upload_number i.upload) (length cuts.pieces) i.last.items) t)) =
        ap (λ n t. normal (with_chunk (asked_chunk (upload_number i.upload) n i.last.items) t)) cuts.cut.count in
        keeps_chunk g s t (upload_number i.upload) repo name size cuts.pieces r world i.last.items (subst (λ f. OnOk r (Puts g f s t)) at made) (subst (λ f. OnErr r (Fails g f s t)) at fails)
        cuts.staged (let e = within i.written i.last.items cuts.pieces bytes cuts.cut in omega (arith, e, fits)) h;
  }

  -- its bytes are one piece more of the staged upload
  chunk_staged : (s t : S) (i : Intake) → Puts g (step i) s t → HasTables g s → (repo name : List ℕ) (size : ℕ) (bytes : List ℕ) (cuts : Cuts g s i repo name size bytes)
      → Stages g t (upload_number i.upload) repo name size (cuts.pieces ++ i.last.items ∷ [])
  chunk_staged s t i made ready repo name size bytes cuts =
      let at : step i ≡ (λ t. normal (with_chunk (asked_chunk (upload_number i.upload) (length cuts.pieces) i.last.items) t)) =
      ap (λ n t. normal (with_chunk (asked_chunk (upload_number i.upload) n i.last.items) t)) cuts.cut.count in
      let moves = subst (λ f. Puts g f s t) at made in
      stages_more g s t (upload_number i.upload) repo name size cuts.pieces i.last.items ready moves.moves cuts.staged

  pub chunk_advances : (s t : S) (i j : Intake) → Puts g (step i) s t → j.upload ≡ i.upload → j.written ≡ i.written + 1 → j.last.items ≡ [] → length i.last.items ≡ chunk_size → Advances g s i t j []
  chunk_advances s t i j made upload written last full ready repo name size bytes cuts = record {
    pieces = cuts.pieces ++ i.last.items ∷ [];
    cut = rw (written, last) (cut_chunk i.written i.last.items cuts.pieces bytes full cuts.cut);
    staged = rw upload (chunk_staged s t i made ready repo name size bytes cuts);
  }

  -- ---- bytes in memory, and one chunk

  more_held : (s : S) (i j : Intake) (part : List ℕ) → j.upload ≡ i.upload → j.written ≡ i.written → j.last.items ≡ i.last.items ++ part → length (i.last.items ++ part) ≤ chunk_size
      → (repo name : List ℕ) (size : ℕ) (bytes : List ℕ) → Cuts g s i repo name size bytes → Cuts g s j repo name size (bytes ++ part)
  more_held s i j part upload written last short repo name size bytes cuts = record {
    pieces = cuts.pieces;
    cut = rw (written, last) (cut_more i.written i.last.items part cuts.pieces bytes short cuts.cut);
    staged = rw upload cuts.staged;
  }

  -- after more bytes came into memory, a chunk was written
  pub more_kept : (s t : S) (i j : Intake) (part : List ℕ) (limit : ℕ) → length part ≤ limit → j.upload ≡ i.upload → j.written ≡ i.written → j.last.items ≡ i.last.items ++ part → length (i.last.items ++ part) ≤ chunk_size → KeepsWithin g s j t 0
      → KeepsWithin g s i t limit
  more_kept s t i j part limit less upload written last short k = record {
    honest = k.honest;
    ready = k.ready;
    kept = λ repo name size bytes cuts fits world h.
        k.kept repo name size (bytes ++ part) (more_held s i j part upload written last short repo name size bytes cuts) (let e = length-append bytes part in omega (arith, e, less, fits)) world h;
  }

  -- more bytes came into memory
  pub more_advances : (s : S) (i j : Intake) (part : List ℕ) → j.upload ≡ i.upload → j.written ≡ i.written → j.last.items ≡ i.last.items ++ part → length (i.last.items ++ part) ≤ chunk_size → Advances g s i s j part
  more_advances s i j part upload written last short ready = more_held s i j part upload written last short

  -- no more bytes
  pub advances_none : (s : S) (i : Intake) → Advances g s i s i []
  advances_none s i ready repo name size bytes cuts = subst (Cuts g s i repo name size) (sym (append-nil bytes)) cuts

  -- ---- one after the other

  pub advances_then : (a b c : S) (i j k : Intake) (xs ys : List ℕ) → (HasTables g a → HasTables g b) → Advances g a i b j xs → Advances g b j c k ys → Advances g a i c k (xs ++ ys)
  advances_then a b c i j k xs ys later p q ready repo name size bytes cuts =
      subst (Cuts g c k repo name size) (append_assoc bytes xs ys) (q (later ready) repo name size (bytes ++ xs) (p ready repo name size bytes cuts))

  pub keeps_after : (a b c : S) (i j : Intake) (xs : List ℕ) (limit more : ℕ) → length xs + more ≤ limit → KeepsWithin g a i b limit → Advances g a i b j xs → KeepsWithin g b j c more → KeepsWithin g a i c limit
  keeps_after a b c i j xs limit more less p goes q = record {
    honest = λ k. p.honest (q.honest k);
    ready = λ h. q.ready (p.ready h);
    kept = λ repo name size bytes cuts fits world h.
        let first = p.kept repo name size bytes cuts fits world h in
        keeps_then g a b c world first
        (q.kept repo name size (bytes ++ xs) (goes h.ready repo name size bytes cuts) (let e = length-append bytes xs in omega (arith, e, less, fits)) world first.holds);
  }

  -- ---- a call on an intake

  -- each world is kept, since the upload has room for what the intake may write
  pub from_room : (s t : S) (i : Intake) (more : ℕ) → (IsHonest g t → IsHonest g s)
      → ((repo name : List ℕ) (size : ℕ) (bytes : List ℕ) → Cuts g s i repo name size bytes → length bytes + more ≤ size → (world : World) → Holds g s world → Keeps g s t world)
      → ((repo name : List ℕ) (size : ℕ) (bytes : List ℕ) → HasTaken g s i repo name size bytes → length bytes + more ≤ size)
      → From g s t (λ world. (repo name : List ℕ) (size : ℕ) (bytes : List ℕ) → HasTaken g s i repo name size bytes → Keeps g s t world)
  from_room s t i more honest kept room = record {
    honest = honest;
    each = λ clean world h repo name size bytes taken. kept repo name size bytes taken.cuts (room repo name size bytes taken) world h;
  }

  -- nothing was written
  pub from_nothing : (s : S) (i : Intake) → From g s s (λ world. (repo name : List ℕ) (size : ℕ) (bytes : List ℕ) → HasTaken g s i repo name size bytes → Keeps g s s world)
  from_nothing s i = record { honest = λ k. k; each = λ clean world h repo name size bytes taken. keeps_still g s s world (leads_none g s world h) }
