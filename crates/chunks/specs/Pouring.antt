-- What was written of an upload.
use Rattle.std.specs.Prelude.{◌≡◌, ◌≤◌, ◌<◌, ℕ, ℤ, List, Option, take, length}
use Rattle.std.specs.Io.KnownBytes.{Appends}
use Rattle.names.specs.Streams.{HasGrown}
use Rattle.store.specs.declared.state.State.{Ghosts}
use Rattle.store.specs.Shown.{IsHonest, HasTables}
use Rattle.refinement.specs.Staging.{Stores}
use Rattle.chunks.specs.declared.pouring.PourCause.{PourCause}
use Rattle.chunks.specs.declared.pouring.PourCause.TheVariants.{Store as ByStore, Device as ByDevice}

-- the number of bytes that were written is at most the size; if the sink is the cause, it is less than the size
abbrev pub IsWithin : PourCause → ℕ → ℕ → Type 0
IsWithin (ByStore fault) written size = written ≤ size
IsWithin ByDevice written size = written < size

-- a sink took this number of bytes from the front of these; if the sink is the cause, these are not all of them
pub record TookFront (cause : PourCause) (old new : Option (List ℕ)) (bytes : List ℕ) (written : ℕ) : Type 0 where
  pub within : IsWithin cause written (length bytes)
  pub taken : Appends old new (take written bytes)

-- the sink failed if it is the cause, and it did not fail otherwise
abbrev pub IsCause : PourCause → ℕ → ℕ → Type 0
IsCause (ByStore fault) old new = new ≡ old
IsCause ByDevice old new = HasGrown old new

-- if the disk is honest, this holds of the bytes that the store has of the upload
abbrev pub OfBytes : {S : Type 0} → Ghosts S → S → S → ℤ → (List ℕ → Type 0) → Type 0
OfBytes g old new id P = IsHonest g new → HasTables g old → (bytes : List ℕ) → Stores g old id bytes → P bytes

-- a sink took all of the bytes, and this is their number
pub record TookAll (old new : Option (List ℕ)) (count : ℕ) (bytes : List ℕ) : Type 0 where
  pub is : count ≡ length bytes
  pub taken : Appends old new bytes
