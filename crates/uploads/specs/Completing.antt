-- Uploads that are completed.
use Rattle.std.specs.Prelude.{◌≡◌, ◌+◌, ℕ, true, List, ◌++◌, length, None, is_some, IsTrue, Result, Ok, Err}
use Rattle.std.specs.List.{concat}
use Rattle.store.specs.declared.state.State.{Ghosts}
use Rattle.names.specs.Texts.{is_repo}
use Rattle.model.specs.World.{World, Object, name_of, object_named, total, with_object}
use Rattle.model.specs.Bounds.{Ending, changed, unchanged, failed}
use Rattle.tables.specs.Staging.{upload_number}
use Rattle.tables.specs.declared.new_rows.LastChunk.{LastChunk}
use Rattle.tables.specs.declared.rows.UploadId.{UploadId}
use Rattle.refinement.specs.Left.{Ends, Keeps, KeepsTables}
use Rattle.refinement.specs.Staging.{Stages, StagesNone}
use Rattle.uploads.specs.declared.completing.Kept.{Kept}
use Rattle.uploads.specs.declared.completing.Kept.TheVariants.{New, Already}
use Rattle.uploads.specs.declared.completing.UploadFault.{UploadFault}
use Rattle.uploads.specs.declared.completing.UploadFault.TheVariants.{Differs}
use Rattle.uploads.specs.declared.completing.UploadFault.TheVariants as fault

-- a staged upload: its repository, the name and the size with which it was begun, the pieces of its bytes that are stored,
-- and the bytes of its last chunk, which is not
pub record Staged : Type 0 where
  pub repo : List ℕ
  pub name : List ℕ
  pub size : ℕ
  pub pieces : List (List ℕ)
  pub last : List ℕ

-- the bytes that arrived
abbrev pub bytes_in : Staged → List ℕ
bytes_in upload = concat upload.pieces ++ upload.last

-- the object that they are
abbrev pub object_of : Staged → Object
object_of upload = record { repo = upload.repo; name = name_of (bytes_in upload); bytes = bytes_in upload }

-- they have the name and the size with which the upload was begun
abbrev pub IsAsBegun : Staged → Type 0
IsAsBegun upload = (name_of (bytes_in upload) ≡ upload.name) × (length (bytes_in upload) ≡ upload.size)

module _ {S : Type 0} (g : Ghosts S) where
  -- this upload is staged under the id, this is its last chunk, and all its bytes have this name and this size
  pub record Arrives (s : S) (id : UploadId) (upload : Staged) (chunk : LastChunk) (oid : List ℕ) (size : ℕ) : Type 0 where
    pub repo : IsTrue (is_repo upload.repo)
    pub next : chunk.n ≡ length upload.pieces
    pub last : chunk.bytes.items ≡ upload.last
    pub stages : Stages g s (upload_number id) upload.repo upload.name upload.size upload.pieces
    pub name : oid ≡ name_of (bytes_in upload)
    pub length : size ≡ length (bytes_in upload)

  -- a call to add the object of the upload to the world ended this way
  abbrev pub Adds : S → S → Ending → World → Staged → World → Type 0
  Adds old new ending world upload kept = Ends g old new ending world (with_object (object_of upload) world) kept

  -- the object was added, and its repository's total grew by the size of the upload; or the repository has it already, and
  -- the upload is removed; or the bytes differ from what was begun, and the tables are as before; or the store refused, and
  -- then a stop leaves no object of bytes that differ
  abbrev pub Completes : World → UploadId → Staged → S → S → Result Kept UploadFault → Type 0
  Completes world id upload old new (Ok New) =
      IsAsBegun upload × (object_named upload.repo upload.name world ≡ None)
      × Adds old new changed world upload (with_object (object_of upload) world)
      × (total upload.repo (with_object (object_of upload) world) ≡ total upload.repo world + upload.size)
  Completes world id upload old new (Ok Already) =
      IsAsBegun upload × (is_some (object_named upload.repo upload.name world) ≡ true)
      × Keeps g old new world × StagesNone g new (upload_number id)
  Completes world id upload old new (Err Differs) =
      (IsAsBegun upload → ⊥) × Adds old new unchanged world upload world × KeepsTables g old new
  Completes world id upload old new (Err (fault.Store f)) =
      Adds old new failed world upload world × ((IsAsBegun upload → ⊥) → Keeps g old new world)
