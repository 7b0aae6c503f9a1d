-- The rows that a copy of a database adds as they are.
use Rattle.std.specs.Prelude.{◌≡◌, ℕ, ℤ, pos, Bool, false, List, [], ◌∷◌, codes, find, Option, Some, None, is_some}
use Rattle.sqlite.specs.declared.types.Value.TheVariants.{Int, Text}
use Rattle.sqlite.specs.Order.{Row}
use Rattle.sqlite.specs.State.{State}
use Rattle.sqlite_keyed.specs.Keyed.{insert_by}
use Rattle.names.specs.Names.{repo_text}
use Rattle.tables.specs.declared.new_rows.NewUpload.{NewUpload}
use Rattle.tables.specs.declared.new_rows.NewChunk.{NewChunk}
use Rattle.tables.specs.Rows.{Upload, Tables}
use Rattle.tables.specs.Statements.{is_upload, with_chunk}
use Rattle.tables.specs.Runs.{Steps, tables_in}
use Rattle.tables.specs.Staging.{asked_upload, asked_chunk}

-- the text of the statement that adds an object under a given id
abbrev pub object_text : List ℕ
object_text = codes "INSERT INTO uploads (id, repo, oid, size, done) VALUES (?1, ?2, ?3, ?4, 1)"

-- the values bound to it
abbrev pub object_params : NewUpload → ℤ → Row
object_params u id = Int id ∷ Text (repo_text u.repo.now) ∷ Text u.oid.now ∷ Int (pos u.size) ∷ []

-- the complete upload of a request, as stored under this id
abbrev pub restored_upload : NewUpload → ℤ → Upload
restored_upload u id = record (asked_upload u id) { done = pos 1 }

-- an upload has this id
abbrev pub has_upload : ℤ → Tables → Bool
has_upload id t = is_some (find (is_upload id) t.uploads)

-- the tables with an upload, in its place by its id
unfoldable pub with_upload_at : Upload → Tables → Tables
with_upload_at u t = record t { uploads = insert_by (λ (x : Upload). x.id) t.uploads u }

-- no upload had the id, and the object was added under it
pub record IsRestored (u : NewUpload) (id : ℤ) (old new : State) : Type 0 where
  pub unused : has_upload id (tables_in old) ≡ false
  pub step : Steps (with_upload_at (restored_upload u id)) old new

-- the tables with a chunk of an upload, if there is one
abbrev pub with_new_chunk : ℤ → Option NewChunk → Tables → Tables
with_new_chunk id None t = t
with_new_chunk id (Some c) t = with_chunk (asked_chunk id c.n c.bytes.now) t

-- the tables with an object under this id and, if it is given, a chunk of it
unfoldable pub with_restored : NewUpload → ℤ → Option NewChunk → Tables → Tables
with_restored u id chunk t = with_new_chunk id chunk (with_upload_at (restored_upload u id) t)
