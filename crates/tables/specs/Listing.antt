-- All rows of a table, as the calls return them.
use Rattle.std.specs.Prelude.{◌≡◌, ℕ, ℤ, pos, Bool, true, false, List, map}
use Rattle.names.specs.Names.{repo_text}
use Rattle.tables.specs.declared.rows.RepoRow.{RepoRow}
use Rattle.tables.specs.declared.rows.RepoLock.{RepoLock}
use Rattle.tables.specs.declared.rows.RetiredRow.{RetiredRow}
use Rattle.tables.specs.declared.rows.MarkedUpload.{MarkedUpload}
use Rattle.tables.specs.declared.rows.ChunkKey.{ChunkKey}
use Rattle.tables.specs.Rows.{Repo, Lock, Retired, Upload, Chunk}
use Rattle.tables.specs.Steps.{LockFields, lock_fields, read_lock}
use Rattle.tables.specs.Staging.{UploadFields, upload_fields, read_upload, upload_number}

-- ---- repositories

-- a row of `repos` without its rowid
pub record RepoFields : Type 0 where
  pub name : List ℕ
  pub made : ℤ
  pub used : ℤ

-- the fields of a row of `repos`
abbrev pub repo_fields : Repo → RepoFields
repo_fields r = record { name = r.name; made = r.made; used = r.used }

-- the fields of a returned repository
abbrev pub read_repo : RepoRow → RepoFields
read_repo r = record { name = repo_text r.name; made = pos r.made; used = pos r.used }

-- the results are these repositories
abbrev pub AreReposOf : List RepoRow → List Repo → Type 0
AreReposOf found repos = map read_repo found ≡ map repo_fields repos

-- ---- locks

-- a row of `locks` without its rowid
pub record RepoLockFields : Type 0 where
  pub repo : List ℕ
  pub lock : LockFields

-- the fields of a row of `locks`, with its repository
abbrev pub repo_lock_fields : Lock → RepoLockFields
repo_lock_fields l = record { repo = l.repo; lock = lock_fields l }

-- the fields of a returned lock with its repository
abbrev pub read_repo_lock : RepoLock → RepoLockFields
read_repo_lock l = record { repo = repo_text l.repo; lock = read_lock l.lock }

-- the results are these locks, each with its repository
abbrev pub AreRepoLocksOf : List RepoLock → List Lock → Type 0
AreRepoLocksOf found locks = map read_repo_lock found ≡ map repo_lock_fields locks

-- ---- retired names

-- a row of `retired` without its rowid
pub record RetiredFields : Type 0 where
  pub repo : List ℕ
  pub oid : List ℕ

-- the fields of a row of `retired`
abbrev pub retired_fields : Retired → RetiredFields
retired_fields r = record { repo = r.repo; oid = r.oid }

-- the fields of a returned name with its repository
abbrev pub read_retired : RetiredRow → RetiredFields
read_retired r = record { repo = repo_text r.repo; oid = r.oid }

-- the results are these retired names, each with its repository
abbrev pub AreRetiredOf : List RetiredRow → List Retired → Type 0
AreRetiredOf found retired = map read_retired found ≡ map retired_fields retired

-- ---- uploads

-- all columns of an upload
pub record MarkedFields : Type 0 where
  pub upload : UploadFields
  pub done : ℤ

-- the columns of a row of `uploads`, with its mark
abbrev pub marked_fields : Upload → MarkedFields
marked_fields u = record { upload = upload_fields u; done = u.done }

-- the mark of an upload in the database
abbrev pub mark_of : Bool → ℤ
mark_of false = pos 0
mark_of true = pos 1

-- the columns of a returned upload, with its mark
abbrev pub read_marked : MarkedUpload → MarkedFields
read_marked u = record { upload = read_upload u.upload; done = mark_of u.is_complete }

-- the results are these uploads, each with its mark
abbrev pub AreMarkedOf : List MarkedUpload → List Upload → Type 0
AreMarkedOf found uploads = map read_marked found ≡ map marked_fields uploads

-- ---- chunks

-- the upload and the number of a chunk
pub record KeyFields : Type 0 where
  pub upload : ℤ
  pub n : ℤ

-- the upload and the number in a row of `chunks`
abbrev pub key_fields : Chunk → KeyFields
key_fields c = record { upload = c.upload; n = c.n }

-- the upload and the number that a call returned
abbrev pub read_key : ChunkKey → KeyFields
read_key k = record { upload = upload_number k.upload; n = pos k.n }

-- the results are the keys of these chunks
abbrev pub AreKeysOf : List ChunkKey → List Chunk → Type 0
AreKeysOf found chunks = map read_key found ≡ map key_fields chunks
