-- The effects of the calls on uploads, on their chunks, and on the bytes that a repository stores.
use Rattle.std.specs.Prelude.{◌≡◌, ◌+ℤ◌, ◌<ℤ◌, ℕ, ℤ, pos, Bool, ◌&&◌, if◌then◌else◌, List, [], ◌∷◌, filter, find, map, Option, Some, None, is_some, option_map}
use Rattle.std.specs.List.{AllByRecursion}
use Rattle.std.specs.Ordering.{int_eq}
use Rattle.sqlite_keyed.specs.Keyed.{next_key}
use Rattle.sqlite_value.specs.Order.{column}
use Rattle.typed_rows.specs.Rows.{bytes_of}
use Rattle.names.specs.Names.{repo_text}
use Rattle.tables.specs.declared.new_rows.NewUpload.{NewUpload}
use Rattle.tables.specs.declared.new_rows.LastChunk.{LastChunk}
use Rattle.tables.specs.declared.chunks.ChunkRow.{ChunkRow}
use Rattle.tables.specs.declared.rows.UploadId.{UploadId}
use Rattle.tables.specs.declared.rows.ObjectRow.{ObjectRow}
use Rattle.tables.specs.declared.rows.Completion.{Completion}
use Rattle.tables.specs.declared.rows.Completion.TheVariants as completion
use Rattle.tables.specs.declared.rows.UploadRow.{UploadRow}
use Rattle.tables.specs.declared.rows.NumberedChunk.{NumberedChunk}
use Rattle.tables.specs.declared.uploads.Total.{Total}
use Rattle.tables.specs.Rows.{Repo, Upload, Chunk, Tables}
use Rattle.tables.specs.Statements.{same_bytes, is_complete, is_object_in, by_name, is_staged_with, is_staged_in, is_object, with_upload, with_chunk, with_done, without_row, without_chunks, without_chunks_from}
use Rattle.tables.specs.Steps.{used_of, set_first}

-- ---- one upload

-- the number of an upload in the database
abbrev pub upload_number : UploadId → ℤ
upload_number id = id.number

-- the upload of a request, as stored under this id
abbrev pub asked_upload : NewUpload → ℤ → Upload
asked_upload u id = record { id = id; repo = repo_text u.repo.now; oid = u.oid.now; size = pos u.size; done = pos 0 }

-- a chunk of an upload, as stored, except for its rowid
abbrev pub asked_chunk : ℤ → ℕ → List ℕ → Chunk
asked_chunk upload n bytes = record { rowid = pos 0; upload = upload; n = pos n; bytes = bytes }

-- the bytes of a chunk that a call read
abbrev pub chunk_bytes : ChunkRow → List ℕ
chunk_bytes c = bytes_of (column c.row 0)

-- the result has the bytes of this chunk, or there is none
abbrev pub IsChunkOf : Option ChunkRow → Option Chunk → Type 0
IsChunkOf row c = option_map chunk_bytes row ≡ option_map (λ (k : Chunk). k.bytes) c

-- what is returned of a chunk that is found by its number
pub record NumberedFields : Type 0 where
  pub upload : ℤ
  pub bytes : List ℕ

-- the fields of a row of `chunks` that are returned so
abbrev pub numbered_fields : Chunk → NumberedFields
numbered_fields c = record { upload = c.upload; bytes = c.bytes }

-- the fields of such a chunk
abbrev pub read_numbered : NumberedChunk → NumberedFields
read_numbered c = record { upload = upload_number c.upload; bytes = c.bytes.items }

-- the results are these chunks
abbrev pub AreNumbered : List NumberedChunk → List Chunk → Type 0
AreNumbered found chunks = map read_numbered found ≡ map numbered_fields chunks

-- the staged upload with this id
abbrev pub staged_with : ℤ → Tables → Option Upload
staged_with id t = find (is_staged_with id) t.uploads

-- the id and the size of an upload
pub record Sized : Type 0 where
  pub id : ℤ
  pub size : ℤ

-- the id and the size in a row of `uploads`
abbrev pub upload_sized : Upload → Sized
upload_sized u = record { id = u.id; size = u.size }

-- the id and the size that a call returned
abbrev pub read_object : ObjectRow → Sized
read_object row = record { id = upload_number row.id; size = pos row.size }

-- the result is this upload, or there is none
abbrev pub IsObjectOf : Option ObjectRow → Option Upload → Type 0
IsObjectOf row u = option_map read_object row ≡ option_map upload_sized u

-- the columns of an upload that a call reads
pub record UploadFields : Type 0 where
  pub id : ℤ
  pub repo : List ℕ
  pub oid : List ℕ
  pub size : ℤ

-- the columns of a row of `uploads`
abbrev pub upload_fields : Upload → UploadFields
upload_fields u = record { id = u.id; repo = u.repo; oid = u.oid; size = u.size }

-- the columns that a call read
abbrev pub read_upload : UploadRow → UploadFields
read_upload row = record { id = upload_number row.id; repo = repo_text row.repo; oid = row.oid; size = pos row.size }

-- the row is this upload, or there is none
abbrev pub IsUploadOf : Option UploadRow → Option Upload → Type 0
IsUploadOf row u = option_map read_upload row ≡ option_map upload_fields u

-- the rows are these uploads
abbrev pub AreUploadsOf : List UploadRow → List Upload → Type 0
AreUploadsOf rows us = map read_upload rows ≡ map upload_fields us

-- the objects of the repository, or of all, in the order of repositories and names
abbrev pub objects_of : Option (List ℕ) → Tables → List Upload
objects_of (Some repo) t = by_name (filter (is_object_in repo) t.uploads)
objects_of None t = by_name (filter is_complete t.uploads)

-- the staged upload that a call read
abbrev pub begun_as : UploadRow → Upload
begun_as row = record { id = upload_number row.id; repo = repo_text row.repo; oid = row.oid; size = pos row.size; done = pos 0 }

-- ---- begun, removed

-- the id is greater than that of each upload
abbrev pub IsAbove : Tables → ℤ → Type 0
IsAbove t id = AllByRecursion (λ (u : Upload). u.id <ℤ id) t.uploads

-- the tables without an upload and its chunks
unfoldable pub without_upload : ℤ → Tables → Tables
without_upload id t = without_row id (without_chunks id t)

-- the tables without an upload that was found
abbrev pub without_found : Option Upload → Tables → Tables
without_found None t = t
without_found (Some u) t = without_upload u.id t

-- the tables without the staged upload of the repository
unfoldable pub without_staged_in : List ℕ → Tables → Tables
without_staged_in repo t = without_found (find (is_staged_in repo) t.uploads) t

-- the tables without the staged upload with this id
unfoldable pub without_staged : ℤ → Tables → Tables
without_staged id t = without_found (staged_with id t) t

-- the tables without the chunks of an upload that was found, from this number on
abbrev pub without_found_from : Option Upload → ℤ → Tables → Tables
without_found_from None n t = t
without_found_from (Some u) n t = without_chunks_from u.id n t

-- the tables without the chunks of the staged upload with this id, from this number on
unfoldable pub without_staged_from : ℤ → ℤ → Tables → Tables
without_staged_from id n t = without_found_from (staged_with id t) n t

-- the tables in which this upload takes the place of its repository's staged one
unfoldable pub after_begin : Upload → Tables → Tables
after_begin u t = with_upload u (without_staged_in u.repo t)

-- the request was begun, under an id greater than that of each upload
abbrev pub IsBegun : NewUpload → Tables → Tables → Type 0
IsBegun u old new = (id : ℤ) × IsAbove old id × (new ≡ after_begin (asked_upload u id) old)

-- ---- stored bytes

-- the rowid of a repository's row, and the number of bytes that the repository stores
pub record RepoTotal : Type 0 where
  pub rowid : ℤ
  pub used : ℤ

-- the rowid and the total in a row of `repos`
abbrev pub repo_total : Repo → RepoTotal
repo_total r = record { rowid = r.rowid; used = r.used }

-- the rowid and the total that a call read
abbrev pub read_total : Total → RepoTotal
read_total total = record { rowid = total.rowid; used = total.used }

-- the total is the one in the row
abbrev pub IsTotalOf : Option Total → Option Repo → Type 0
IsTotalOf total r = option_map read_total total ≡ option_map repo_total r

-- the number of bytes stored by the repository is set; a row that is added has this rowid
abbrev pub set_used : List ℕ → ℤ → ℤ → List Repo → List Repo
set_used name used next = set_first name (λ r. record r { used = used }) (record { rowid = next; name = name; made = pos 0; used = used })

-- the tables with this number of bytes stored by the repository
unfoldable pub with_used : List ℕ → ℤ → Tables → Tables
with_used name used t = record t { repos = set_used name used (next_key (λ x. x.rowid) t.repos) t.repos }

-- ---- completed

-- the tables with these bytes as a chunk of an upload, if there are any
abbrev pub with_bytes : ℤ → ℕ → List ℕ → Tables → Tables
with_bytes id n [] t = t
with_bytes id n (byte ∷ bytes) t = with_chunk (asked_chunk id n (byte ∷ bytes)) t

-- the tables with the last chunk of an upload; if it has no bytes, there is none
unfoldable pub with_last : ℤ → LastChunk → Tables → Tables
with_last id last t = with_bytes id last.n last.bytes.items t

-- the tables in which the upload is complete, and its size counted
unfoldable pub with_kept : Upload → Tables → Tables
with_kept u t = with_used u.repo (used_of u.repo t +ℤ u.size) (with_done u.id t)

-- the upload has this name and this size
abbrev pub is_as_begun : List ℕ → ℤ → Upload → Bool
is_as_begun oid size u = same_bytes u.oid oid && int_eq u.size size

-- the result of completing a staged upload whose bytes have its name and its size
abbrev pub settled_as : Upload → Tables → Completion
settled_as u t = if is_some (find (is_object u.repo u.oid) t.uploads) then completion.Already else completion.New

-- the result of completing a staged upload whose bytes have this name and this size
abbrev pub completion_by : List ℕ → ℤ → Upload → Tables → Completion
completion_by oid size u t = if is_as_begun oid size u then settled_as u t else completion.Differs

-- the result of completing the upload with this id; none if it is not staged
abbrev pub completion_of : ℤ → List ℕ → ℤ → Tables → Option Completion
completion_of id oid size t = option_map (λ u. completion_by oid size u t) (staged_with id t)

-- the tables after this result for the upload, which has this last chunk
abbrev pub after_completion : Completion → LastChunk → Upload → Tables → Tables
after_completion completion.Differs last u t = t
after_completion completion.Already last u t = t
after_completion completion.New last u t = with_kept u (with_last u.id last t)

-- the tables after completing a staged upload whose bytes have its name and its size
unfoldable pub after_settling : LastChunk → Upload → Tables → Tables
after_settling last u t = after_completion (settled_as u t) last u t

-- the tables after completing an upload that was found
abbrev pub after_found : Option Upload → LastChunk → List ℕ → ℤ → Tables → Tables
after_found None last oid size t = t
after_found (Some u) last oid size t = after_completion (completion_by oid size u t) last u t

-- the tables after completing the upload with this id, which has this last chunk
unfoldable pub after_complete : ℤ → LastChunk → List ℕ → ℤ → Tables → Tables
after_complete id last oid size t = after_found (staged_with id t) last oid size t
