-- What an intake has taken, and what of it is stored.
use Rattle.std.specs.Prelude.{◌≡◌, ◌<◌, ◌≤◌, ◌+◌, ℕ, ℤ, List, [], ◌∷◌, ◌++◌, length, ⊤}
use Rattle.std.specs.List.{AllByRecursion, concat}
use Rattle.sha2.specs.Hashers.{Holds256}
use Rattle.sha2.specs.declared.Sha256.{Sha256}
use Rattle.store.specs.declared.state.State.{Ghosts}
use Rattle.model.specs.World.{World}
use Rattle.tables.specs.declared.new_rows.LastChunk.{LastChunk}
use Rattle.store.specs.Shown.{IsHonest, HasTables}
use Rattle.tables.specs.Staging.{upload_number}
use Rattle.refinement.specs.Representation.{Holds}
use Rattle.refinement.specs.Left.{Keeps}
use Rattle.refinement.specs.Staging.{Stages, pieces_with}
use Rattle.chunks.specs.declared.intake.Intake.{Intake}

-- the number of bytes of a chunk; the last one of an upload may be shorter
abbrev pub chunk_size : ℕ
chunk_size = 65536

-- the pieces are chunks: each but the last is full, and the last one has at least one byte
abbrev pub AreChunks : List (List ℕ) → Type 0
AreChunks [] = ⊤
AreChunks (last ∷ []) = (0 < length last) × (length last ≤ chunk_size)
AreChunks (piece ∷ pieces) = (length piece ≡ chunk_size) × AreChunks pieces

-- these bytes were cut into these pieces, of which there are `written` and each is a full chunk, and the last ones, which are
-- in memory
pub record IsCut (written : ℕ) (last : List ℕ) (pieces : List (List ℕ)) (bytes : List ℕ) : Type 0 where
  pub count : written ≡ length pieces
  pub full : AllByRecursion (λ piece. length piece ≡ chunk_size) pieces
  pub short : length last ≤ chunk_size
  pub all : concat pieces ++ last ≡ bytes

-- the pieces and the last chunk, if that has bytes, are the chunks of these bytes
pub record IsWhole (pieces : List (List ℕ)) (last : LastChunk) (bytes : List ℕ) : Type 0 where
  pub next : last.n ≡ length pieces
  pub chunks : AreChunks (pieces_with pieces last.bytes.items)
  pub all : concat pieces ++ last.bytes.items ≡ bytes

-- the intake hashed and counted these bytes
pub record HasCounted (hasher : Sha256) (taken : ℕ) (bytes : List ℕ) : Type 0 where
  pub hashed : Holds256 hasher bytes
  pub count : taken ≡ length bytes

-- what an intake counts and hashes, and its upload, did not change
pub record KeepsCount (old new : Intake) : Type 0 where
  pub upload : new.upload ≡ old.upload
  pub size : new.size ≡ old.size
  pub hasher : new.hasher ≡ old.hasher
  pub taken : new.taken ≡ old.taken
  pub spent : new.is_spent ≡ old.is_spent

module _ {S : Type 0} (g : Ghosts S) where
  -- an upload is staged for this repository, name and size; its chunks and the last bytes, in memory, are these bytes
  pub record Holding (s : S) (id : ℤ) (written : ℕ) (last : List ℕ) (repo name : List ℕ) (size : ℕ) (bytes : List ℕ)
      : Type 0 where
    pub pieces : List (List ℕ)
    pub cut : IsCut written last pieces bytes
    pub staged : Stages g s id repo name size pieces

  -- the same of the upload of an intake
  abbrev pub Cuts : S → Intake → List ℕ → List ℕ → ℕ → List ℕ → Type 0
  Cuts s i = Holding s (upload_number i.upload) i.written i.last.items

  -- the intake has taken these bytes, of an upload that is staged for this repository, name and size
  pub record HasTaken (s : S) (i : Intake) (repo name : List ℕ) (size : ℕ) (bytes : List ℕ) : Type 0 where
    pub limit : i.size ≡ size
    pub within : length bytes ≤ size
    pub counted : HasCounted i.hasher i.taken bytes
    pub cuts : Cuts s i repo name size bytes

  -- an upload is staged for this repository, name and size; its chunks and this last one are these bytes
  pub record HasArrived (s : S) (id : ℤ) (last : LastChunk) (repo name : List ℕ) (size : ℕ) (bytes : List ℕ) : Type 0 where
    pub pieces : List (List ℕ)
    pub whole : IsWhole pieces last bytes
    pub staged : Stages g s id repo name size pieces

  -- the intake went on by these bytes
  abbrev pub Advances : S → Intake → S → Intake → List ℕ → Type 0
  Advances s i t j more =
      HasTables g s → (repo name : List ℕ) (size : ℕ) (bytes : List ℕ) → Cuts s i repo name size bytes
      → Cuts t j repo name size (bytes ++ more)

  -- each world that the store held is kept, if the upload has room for this number of bytes more
  pub record KeepsWithin (s : S) (i : Intake) (t : S) (more : ℕ) : Type 0 where
    pub honest : IsHonest g t → IsHonest g s
    pub ready : HasTables g s → HasTables g t
    pub kept : (repo name : List ℕ) (size : ℕ) (bytes : List ℕ) → Cuts s i repo name size bytes
        → length bytes + more ≤ size → (world : World) → Holds g s world → Keeps g s t world
