-- The chunks of an upload, read one after the other and written.
use Rattle.std.proofs.Common.{◌≡◌, ◌≤◌, ◌+◌, ℕ, zero, suc, inl, inr, ◌⊎◌, ℤ, pos, Bool, true, false, List, [], ◌∷◌, ◌++◌, find, length, take, drop, take-append-drop, slice_get, option_map, Option, Some, None, refl, sym, ap, subst, ◌∙◌, arith, append-nil, length-append}
use Rattle.std.specs.List.{concat}
use Rattle.std.specs.Ordering.{int_eq}
use Rattle.std.proofs.lemmas.Int.{ints}
use Rattle.std.proofs.lemmas.List.Folds.{concat-append}
use Rattle.std.specs.Io.KnownBytes.{Appends}
use Rattle.std.proofs.KnownBytes.{Appends-nil, Appends-trans}
use Rattle.std.proofs.Math.Seq.{take-append-add}
use Rattle.std.proofs.lemmas.List.{take-append-le}
use Rattle.sha2.specs.Hashers.{Holds256}
use Rattle.sha2.specs.declared.Sha256.{Sha256}
use Rattle.store.specs.declared.state.State.{Ghosts}
use Rattle.tables.specs.Rows.{Chunk, Tables}
use Rattle.tables.specs.declared.fault.StoreFault.{StoreFault}
use Rattle.store.specs.Content.{content_bytes, IsContentOf}
use Rattle.store.specs.declared.content.ChunkContent.{ChunkContent}
use Rattle.store.specs.Shown.{IsHonest, IsOpen, HasTables, shown, Moves}
use Rattle.tables.specs.Statements.{is_chunk}
use Rattle.refinement.specs.Objects.{chunk_kept, piece_rows, HasPieces}
use Rattle.refinement.specs.Staging.{Stores}
use Rattle.refinement.proofs.Pieces.{chunk_found}
use Rattle.chunks.specs.declared.pouring.PourCause.{PourCause}
use Rattle.chunks.specs.declared.pouring.PourCause.TheVariants.{Store as ByStore, Device as ByDevice}
use Rattle.chunks.specs.Intakes.{HasCounted}
use Rattle.chunks.specs.Pouring.{IsWithin, TookFront, TookAll}

-- ---- which piece a chunk is

numbered : ℕ → Chunk → Bool
numbered n c = int_eq c.n (pos n)

same_number : (k : ℕ) → int_eq (pos k) (pos k) ≡ true
same_number k = grind (arith, ints)

other_number : (k n : ℕ) → int_eq (pos k) (pos (k + suc n)) ≡ false
other_number k n = grind (arith, ints)

bytes_in : Option Chunk → Option (List ℕ)
bytes_in = option_map (λ (c : Chunk). c.bytes)

-- the row of a piece, by its number
piece_row : (id : ℤ) (k n : ℕ) (pieces : List (List ℕ)) → bytes_in (find (numbered (k + n)) (piece_rows id k pieces)) ≡ slice_get pieces n
unfolding numbered bytes_in
piece_row id k n [] = refl
piece_row id k zero (p ∷ ps) =
    let at : int_eq (pos k) (pos (k + 0)) ≡ true = (let e : k ≡ k + 0 = omega arith in ap (λ m. int_eq (pos k) (pos m)) (sym e) ∙ same_number k) in
    rw at refl
piece_row id k (suc n) (p ∷ ps) =
    let next : suc k + n ≡ k + suc n = omega arith in
    rw (other_number k n) (subst (λ m. bytes_in (find (numbered m) (piece_rows id (suc k) ps)) ≡ slice_get ps n) next (piece_row id (suc k) n ps))

-- clearing the rowid changes neither number nor bytes
kept_bytes : (o : Option Chunk) → bytes_in (option_map chunk_kept o) ≡ bytes_in o
unfolding bytes_in
kept_bytes None = refl
kept_bytes (Some c) = refl

pub piece_at : (id : ℤ) (pieces : List (List ℕ)) (chunks : List Chunk) (n : ℕ) → HasPieces id pieces chunks → option_map (λ (c : Chunk). c.bytes) (find (is_chunk id (pos n)) chunks) ≡ slice_get pieces n
unfolding numbered bytes_in
piece_at id pieces chunks n has =
    sym (kept_bytes (find (is_chunk id (pos n)) chunks)) ∙ ap bytes_in (chunk_found id (pos n) pieces chunks has)
    ∙ (let none : 0 + n ≡ n = omega arith in subst (λ m. bytes_in (find (numbered m) (piece_rows id 0 pieces)) ≡ slice_get pieces n) none (piece_row id 0 n pieces))

-- ---- so far

-- the sink took the first n pieces, and `written` is the number of their bytes
pub record HasPoured (old new : Option (List ℕ)) (written n : ℕ) (pieces : List (List ℕ)) : Type 0 where
  pub within : n ≤ length pieces
  pub count : written ≡ length (concat (take n pieces))
  pub taken : Appends old new (concat (take n pieces))

one_piece : (bytes : List ℕ) → concat (bytes ∷ []) ≡ bytes
one_piece bytes = append-nil bytes

next_piece : (pieces : List (List ℕ)) (n : ℕ) (bytes : List ℕ) → slice_get pieces n ≡ Some bytes → (suc n ≤ length pieces) × (take (suc n) pieces ≡ take n pieces ++ bytes ∷ [])
next_piece [] n bytes at = absurd (let e : None ≡ Some bytes = at in cc)
next_piece (p ∷ ps) zero bytes at = (omega arith, ap (λ b. b ∷ []) (let e : Some p ≡ Some bytes = at in cc))
next_piece (p ∷ ps) (suc n) bytes at = let rest = next_piece ps n bytes at in (omega (arith, rest.0), ap (λ l. p ∷ l) rest.1)

no_piece : (pieces : List (List ℕ)) (n : ℕ) → slice_get pieces n ≡ None → n ≤ length pieces → take n pieces ≡ pieces
no_piece [] zero at within = refl
no_piece [] (suc n) at within = absurd (omega (arith, within))
no_piece (p ∷ ps) zero at within = absurd (let e : Some p ≡ None = at in cc)
no_piece (p ∷ ps) (suc n) at within = ap (λ l. p ∷ l) (no_piece ps n at (omega (arith, within)))

more : (pieces : List (List ℕ)) (n : ℕ) (bytes : List ℕ) → slice_get pieces n ≡ Some bytes → concat (take (suc n) pieces) ≡ concat (take n pieces) ++ bytes
more pieces n bytes at = ap concat (next_piece pieces n bytes at).1 ∙ concat-append (take n pieces) (bytes ∷ []) ∙ ap (λ l. concat (take n pieces) ++ l) (one_piece bytes)

-- one more piece
pub poured_more : (old mid new : Option (List ℕ)) (written total n : ℕ) (pieces : List (List ℕ)) (bytes : List ℕ) → HasPoured old mid written n pieces → slice_get pieces n ≡ Some bytes → total ≡ written + length bytes
    → Appends mid new bytes → HasPoured old new total (n + 1) pieces
poured_more old mid new written total n pieces bytes h at is goes =
    let next : suc n ≡ n + 1 = omega arith in
    let all = more pieces n bytes at in
    subst (λ k. HasPoured old new total k pieces) next record {
      within = (next_piece pieces n bytes at).0;
      count = is ∙ ap (λ k. k + length bytes) h.count ∙ sym (length-append (concat (take n pieces)) bytes) ∙ ap length (sym all);
      taken = subst (Appends old new) (sym all) (Appends-trans old mid new (concat (take n pieces)) bytes h.taken goes);
    }

-- no piece is left
pub poured_all : (old new : Option (List ℕ)) (written n : ℕ) (pieces : List (List ℕ)) → HasPoured old new written n pieces → slice_get pieces n ≡ None → TookAll old new written (concat pieces)
poured_all old new written n pieces h none =
    let all = ap concat (no_piece pieces n none h.within) in record { is = h.count ∙ ap length all; taken = subst (Appends old new) all h.taken }

-- the first n pieces were hashed, and `count` is the number of their bytes
pub record HasHashed (hasher : Sha256) (count n : ℕ) (pieces : List (List ℕ)) : Type 0 where
  pub within : n ≤ length pieces
  pub counted : HasCounted hasher count (concat (take n pieces))

-- one more piece
pub hashed_more : (old new : Sha256) (count total n : ℕ) (pieces : List (List ℕ)) (bytes : List ℕ) → HasHashed old count n pieces → slice_get pieces n ≡ Some bytes → total ≡ count + length bytes
    → Holds256 new (concat (take n pieces) ++ bytes) → HasHashed new total (n + 1) pieces
hashed_more old new count total n pieces bytes h at is holds =
    let next : suc n ≡ n + 1 = omega arith in
    let all = more pieces n bytes at in
    subst (λ k. HasHashed new total k pieces) next record {
      within = (next_piece pieces n bytes at).0;
      counted = record {
        hashed = subst (Holds256 new) (sym all) holds;
        count = is ∙ ap (λ k. k + length bytes) h.counted.count ∙ sym (length-append (concat (take n pieces)) bytes) ∙ ap length (sym all);
      };
    }

-- no piece is left
pub hashed_all : (hasher : Sha256) (count n : ℕ) (pieces : List (List ℕ)) → HasHashed hasher count n pieces → slice_get pieces n ≡ None → HasCounted hasher count (concat pieces)
hashed_all hasher count n pieces h none = subst (HasCounted hasher count) (ap concat (no_piece pieces n none h.within)) h.counted

-- ---- where it ended

-- nothing was written yet
pub record IsUntouched (old new : Option (List ℕ)) (written n : ℕ) : Type 0 where
  pub first : n ≡ 0
  pub none : written ≡ 0
  pub taken : Appends old new []

parts : (pieces : List (List ℕ)) (n : ℕ) → concat pieces ≡ concat (take n pieces) ++ concat (drop n pieces)
parts pieces n = ap concat (sym (take-append-drop n pieces)) ∙ concat-append (take n pieces) (drop n pieces)

at_most : (cause : PourCause) (written size : ℕ) → IsWithin cause written size → written ≤ size
at_most (ByStore fault) written size w = w
at_most ByDevice written size w = omega (arith, w)

within_more : (cause : PourCause) (k a b c : ℕ) → IsWithin cause k b → IsWithin cause (a + k) (a + (b + c))
within_more (ByStore fault) k a b c w = omega (arith, w)
within_more ByDevice k a b c w = omega (arith, w)

took : (cause : PourCause) (old mid new : Option (List ℕ)) (front bytes rest : List ℕ) (k : ℕ) → Appends old mid front → TookFront cause mid new bytes k
    → TookFront cause old new (front ++ (bytes ++ rest)) (length front + k)
took cause old mid new front bytes rest k goes t = record {
  within = (let a = length-append front (bytes ++ rest) in let b = length-append bytes rest in
      subst (IsWithin cause (length front + k)) (sym (a ∙ ap (λ n. length front + n) b)) (within_more cause k (length front) (length bytes) (length rest) t.within));
  taken = subst (Appends old new) (sym (take-append-add front (bytes ++ rest) k ∙ ap (λ l. front ++ l) (take-append-le k bytes rest (at_most cause k (length bytes) t.within)))) (Appends-trans old mid new front (take k bytes) goes t.taken);
}

-- nothing of the next piece was written
pub poured_front : (fault : StoreFault) (old new : Option (List ℕ)) (written n : ℕ) (pieces : List (List ℕ)) → HasPoured old new written n pieces → TookFront (ByStore fault) old new (concat pieces) written
poured_front fault old new written n pieces h =
    let front = concat (take n pieces) in
    let rest = concat (drop n pieces) in
    let none : TookFront (ByStore fault) new new [] 0 = record { within = omega arith; taken = Appends-nil new } in
    let all = took (ByStore fault) old new new front [] rest 0 h.taken none in
    let size : length front + 0 ≡ written = (let c = h.count in omega (arith, c)) in
    subst (λ k. TookFront (ByStore fault) old new (concat pieces) k) size (subst (λ bytes. TookFront (ByStore fault) old new bytes (length front + 0)) (sym (parts pieces n)) all)

rest_of : (pieces : List (List ℕ)) (n : ℕ) (bytes : List ℕ) → slice_get pieces n ≡ Some bytes → drop n pieces ≡ bytes ∷ drop (suc n) pieces
rest_of [] n bytes at = absurd (let e : None ≡ Some bytes = at in cc)
rest_of (p ∷ ps) zero bytes at = ap (λ b. b ∷ ps) (let e : Some p ≡ Some bytes = at in cc)
rest_of (p ∷ ps) (suc n) bytes at = rest_of ps n bytes at

-- a part of the next piece was written
pub poured_part : (cause : PourCause) (old mid new : Option (List ℕ)) (written n k : ℕ) (pieces : List (List ℕ)) (bytes : List ℕ) → HasPoured old mid written n pieces → slice_get pieces n ≡ Some bytes → TookFront cause mid new bytes k
    → TookFront cause old new (concat pieces) (written + k)
poured_part cause old mid new written n k pieces bytes h at t =
    let front = concat (take n pieces) in
    let all = took cause old mid new front bytes (concat (drop (suc n) pieces)) k h.taken t in
    let same : concat pieces ≡ front ++ (bytes ++ concat (drop (suc n) pieces)) = parts pieces n ∙ ap (λ ps. front ++ concat ps) (rest_of pieces n bytes at) in
    subst (λ c. TookFront cause old new (concat pieces) (c + k)) (sym h.count) (subst (λ bs. TookFront cause old new bs (length front + k)) (sym same) all)

-- ---- the chunk that was read

module _ {S : Type 0} (g : Ghosts S) (a b c : S) (id : ℤ) (n : ℕ) where
  pub piece_read : (found : Option ChunkContent) → Moves g (λ t. t) a b → (IsHonest g c → IsHonest g b) → (IsHonest g c → HasTables g b → IsOpen g b × IsContentOf found (find (is_chunk id (pos n)) (shown g b).chunks))
      → IsHonest g c → HasTables g a → (pieces : List (List ℕ)) → HasPieces id pieces (shown g a).chunks → option_map content_bytes found ≡ slice_get pieces n
  piece_read found moves honest answers k h pieces has =
      let it = answers k (moves.ready h) in
      it.1 ∙ ap (λ (t : Tables). option_map (λ (x : Chunk). x.bytes) (find (is_chunk id (pos n)) t.chunks)) (moves.shows (honest k) h it.0) ∙ piece_at id pieces (shown g a).chunks n has

  -- a chunk is read only while the store is open
  pub was_open : (found : Option ChunkContent) → Moves g (λ t. t) a b → (IsHonest g c → IsHonest g b) → (IsHonest g c → HasTables g b → IsOpen g b × IsContentOf found (find (is_chunk id (pos n)) (shown g b).chunks))
      → IsHonest g c → HasTables g a → IsOpen g a
  was_open found moves honest answers k h = moves.was_open (honest k) (answers k (moves.ready h)).0

  -- the chunk that was read is hashed after those before it
  pub hashed_next : (found : Option ChunkContent) (chunk : ChunkContent) (old new : Sha256) (count total : ℕ) → found ≡ Some chunk → Moves g (λ t. t) a b → (IsHonest g c → IsHonest g b)
      → (IsHonest g c → HasTables g b → IsOpen g b × IsContentOf found (find (is_chunk id (pos n)) (shown g b).chunks))
      → (IsHonest g b → HasTables g a → (pieces : List (List ℕ)) → HasPieces id pieces (shown g a).chunks → HasHashed old count n pieces)
      → total ≡ count + length (content_bytes chunk) → ((front : List ℕ) → Holds256 old front → Holds256 new (front ++ content_bytes chunk))
      → IsHonest g c → HasTables g a → (pieces : List (List ℕ)) → HasPieces id pieces (shown g a).chunks → HasHashed new total (n + 1) pieces
  hashed_next found chunk old new count total is moves honest answers hashed sum holds k h pieces has =
      let at = sym (piece_read found moves honest answers k h pieces has) ∙ ap (option_map content_bytes) is in
      let before = hashed (honest k) h pieces has in
      hashed_more old new count total n pieces (content_bytes chunk) before at sum (holds (concat (take n pieces)) before.counted.hashed)

-- ---- of the bytes that the store has

module _ {S : Type 0} (g : Ghosts S) (fault : StoreFault) (a : S) (id : ℤ) (old new : Option (List ℕ)) (written n : ℕ) where
  -- nothing more was written
  pub front_of : IsUntouched old new written n ⊎ IsOpen g a → ((pieces : List (List ℕ)) → HasPieces id pieces (shown g a).chunks → HasPoured old new written n pieces) → IsHonest g a → (bytes : List ℕ) → Stores g a id bytes
      → TookFront (ByStore fault) old new bytes written
  front_of (inl u) poured clean bytes stores =
      let none : TookFront (ByStore fault) old new bytes 0 = record { within = omega arith; taken = u.taken } in subst (λ k. TookFront (ByStore fault) old new bytes k) (sym u.none) none
  front_of (inr was) poured clean bytes stores =
      let st = stores clean was in subst (λ bs. TookFront (ByStore fault) old new bs written) st.2 (poured_front fault old new written n st.0 (poured st.0 st.1))
