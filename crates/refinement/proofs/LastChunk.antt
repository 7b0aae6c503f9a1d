-- A staged upload with its last chunk.
use Rattle.refinement.proofs.Prelude.{◌≡◌, ◌∙◌, ℕ, ◌+◌, ◌≤◌, ℤ, List, [], ◌∷◌, ◌++◌, length, sym, ap, subst, concat, concat-append, World, Tables, LastChunk, Represents, IsStaged, pieces_with}
use Rattle.std.proofs.Common.{append-nil}
use Rattle.tables.specs.Staging.{with_bytes, with_last}
use Rattle.refinement.proofs.Staging.{chunk_staged, chunk_represented}

-- the bytes of the pieces and of the last one
pub concat_with : (pieces : List (List ℕ)) (last : List ℕ) → concat (pieces_with pieces last) ≡ concat pieces ++ last
concat_with pieces [] = sym (append-nil (concat pieces))
concat_with pieces (byte ∷ bytes) = concat-append pieces ((byte ∷ bytes) ∷ []) ∙ ap (λ b. concat pieces ++ b) (append-nil (byte ∷ bytes))

module _ (t : Tables) (world : World) (id : ℤ) (repo name : List ℕ) (size : ℕ) (pieces : List (List ℕ)) (h : IsStaged id repo name size pieces t) where
  bytes_staged : (bytes : List ℕ) → IsStaged id repo name size (pieces_with pieces bytes) (with_bytes id (length pieces) bytes t)
  bytes_staged [] = h
  bytes_staged (byte ∷ bytes) = chunk_staged t id repo name size pieces (byte ∷ bytes) h

  bytes_represented : Represents t world → (bytes : List ℕ) → length (concat pieces) + length bytes ≤ size → Represents (with_bytes id (length pieces) bytes t) world
  bytes_represented r [] fits = r
  bytes_represented r (byte ∷ bytes) fits = chunk_represented t world id repo name size pieces (byte ∷ bytes) r h fits

  module _ (last : LastChunk) (next : last.n ≡ length pieces) where
    -- the last chunk is one of the staged upload
    pub last_staged : IsStaged id repo name size (pieces_with pieces last.bytes.items) (with_last id last t)
    unfolding with_last
    last_staged = subst (λ n. IsStaged id repo name size (pieces_with pieces last.bytes.items) (with_bytes id n last.bytes.items t)) (sym next) (bytes_staged last.bytes.items)

    -- and within its size represents the same world
    pub last_represented : Represents t world → length (concat pieces) + length last.bytes.items ≤ size → Represents (with_last id last t) world
    unfolding with_last
    last_represented r fits = subst (λ n. Represents (with_bytes id n last.bytes.items t) world) (sym next) (bytes_represented r last.bytes.items fits)
