-- Staged uploads.
use Rattle.std.specs.Prelude.{◌≡◌, ℕ, ℤ, pos, List, [], ◌∷◌, ◌++◌, find, Some, None}
use Rattle.store.specs.declared.state.State.{Ghosts}
use Rattle.tables.specs.Rows as row
use Rattle.tables.specs.Rows.{Tables}
use Rattle.store.specs.Shown.{IsHonest, IsOpen, shown}
use Rattle.tables.specs.Statements.{is_upload, is_staged_in}
use Rattle.tables.specs.Staging.{staged_with}
use Rattle.refinement.specs.Objects.{HasPieces, IsStored}

-- the row of a staged upload
abbrev pub staged_row : ℤ → List ℕ → List ℕ → ℕ → row.Upload
staged_row id repo name size = record { id = id; repo = repo; oid = name; size = pos size; done = pos 0 }

-- the tables have this staged upload, and so far these pieces of its bytes
pub record IsStaged (id : ℤ) (repo name : List ℕ) (size : ℕ) (pieces : List (List ℕ)) (t : Tables) : Type 0 where
  pub upload : find (is_upload id) t.uploads ≡ Some (staged_row id repo name size)
  pub stored : HasPieces id pieces t.chunks

-- the pieces of an upload and these bytes as the last one, if there are any
abbrev pub pieces_with : List (List ℕ) → List ℕ → List (List ℕ)
pieces_with pieces [] = pieces
pieces_with pieces (byte ∷ bytes) = pieces ++ (byte ∷ bytes) ∷ []

module _ {S : Type 0} (g : Ghosts S) where
  -- while the disk is honest and the store open, it shows this staged upload
  abbrev pub Stages : S → ℤ → List ℕ → List ℕ → ℕ → List (List ℕ) → Type 0
  Stages s id repo name size pieces =
      IsHonest g s → IsOpen g s → IsStaged id repo name size pieces (shown g s)

  -- while the disk is honest and the store open, it shows no staged upload with this id
  abbrev pub StagesNone : S → ℤ → Type 0
  StagesNone s id = IsHonest g s → IsOpen g s → staged_with id (shown g s) ≡ None

  -- while the disk is honest and the store open, it shows no staged upload of the repository
  abbrev pub StagesNoneIn : S → List ℕ → Type 0
  StagesNoneIn s repo = IsHonest g s → IsOpen g s → find (is_staged_in repo) (shown g s).uploads ≡ None

  -- while the disk is honest and the store open, it shows these bytes of the upload
  abbrev pub Stores : S → ℤ → List ℕ → Type 0
  Stores s id bytes = IsHonest g s → IsOpen g s → IsStored id bytes (shown g s).chunks
