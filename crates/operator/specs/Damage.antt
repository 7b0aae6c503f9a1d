-- Which stored objects are damaged.
use Rattle.std.specs.Prelude.{◌≡◌, ◌&&◌, ℕ, Bool, true, List, Some, find, length, option_map, pos, nat_eq, bytes_eq}
use Rattle.store.specs.declared.state.State.{Ghosts}
use Rattle.names.specs.Names.{repo_text}
use Rattle.model.specs.World.{name_of}
use Rattle.store.specs.Shown.{HasTables, IsHonest, IsOpen, shown}
use Rattle.tables.specs.Rows.{Tables, Upload}
use Rattle.tables.specs.Staging.{Sized, upload_number, upload_sized}
use Rattle.tables.specs.Statements.{is_object}
use Rattle.tables.specs.declared.rows.UploadRow.{UploadRow}
use Rattle.refinement.specs.Objects.{IsStored}
use Rattle.refinement.specs.Staging.{Stores}

-- the bytes are as many as the row's size says, and have its name
abbrev pub has_bytes : UploadRow → List ℕ → Bool
has_bytes row bytes = nat_eq (length bytes) row.size && bytes_eq (name_of bytes) row.oid

-- the store has such bytes of the row's upload: the object is not damaged
abbrev pub IsWhole : {S : Type 0} → Ghosts S → S → UploadRow → Type 0
IsWhole g s row = (bytes : List ℕ) × Stores g s (upload_number row.id) bytes × (has_bytes row bytes ≡ true)

-- ---- whatever the tables hold

-- the object that the tables have under the row's name has the row's upload and size
abbrev pub HasRow : Tables → UploadRow → Type 0
HasRow t row =
    option_map upload_sized (find (is_object (repo_text row.repo) row.oid) t.uploads)
    ≡ Some (record { id = upload_number row.id; size = pos row.size })

-- if the tables have the row's object, its bytes are as many as the row says, and have its name
abbrev pub IsRowSound : Tables → UploadRow → Type 0
IsRowSound t row =
    HasRow t row → (bytes : List ℕ) → IsStored (upload_number row.id) bytes t.chunks → has_bytes row bytes ≡ true

-- the bytes of each object in the tables are as many as its size, and have its name
abbrev pub AreSound : Tables → Type 0
AreSound t =
    (repo name : List ℕ) (u : Upload) → find (is_object repo name) t.uploads ≡ Some u
    → (bytes : List ℕ) → IsStored u.id bytes t.chunks → (u.size ≡ pos (length bytes)) × (name_of bytes ≡ name)

-- after a call the bytes of each object are those of its name, whatever the tables held before
abbrev pub FindsSound : {S : Type 0} → Ghosts S → (old new : S) → Type 0
FindsSound g old new = HasTables g old → IsHonest g new → IsOpen g new → AreSound (shown g new)
