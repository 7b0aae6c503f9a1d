-- The statements: the text of each, the values bound to it, and the rows that it returns or changes.
use Rattle.std.specs.Prelude.{⊤, ◌≡◌, ℕ, ℤ, pos, Bool, ◌&&◌, int_le, List, [], ◌∷◌, ◌++◌, Option, Some, None, codes, filter, map, take, length}
use Rattle.std.specs.Ordering.{is_eq, nat_cmp, int_cmp, int_eq, ordering_then}
use Rattle.std.specs.declared.cmp.Ordering.{Ordering}
use Rattle.std.specs.Cmp.Lexicographic.{slice_cmp}
use Rattle.sqlite.specs.declared.types.Value.TheVariants.{Int, Text, Blob}
use Rattle.sqlite.specs.Order.{Row}
use Rattle.sqlite_keyed.specs.Keyed.{next_key}
use Rattle.sqlite_keyed.specs.Lists.{sort_by, update_where, delete_where}
use Rattle.tables.specs.Rows.{Meta, Repo, Token, Upload, Chunk, Lock, Retired, Tables}

-- ---- which rows

-- the two texts have the same bytes, by the comparison of the database
abbrev pub same_bytes : List ℕ → List ℕ → Bool
same_bytes a b = is_eq (slice_cmp nat_cmp a b)

-- the row is that of the repository of this name
abbrev pub is_named : List ℕ → Repo → Bool
is_named name r = same_bytes r.name name

-- the lock is on this path of this ref
abbrev pub is_at : List ℕ → List ℕ → List ℕ → Lock → Bool
is_at repo ref_name path l = same_bytes l.repo repo && (same_bytes l.ref_name ref_name && same_bytes l.path path)

-- the lock is the repository's, with this id
abbrev pub has_id : List ℕ → ℤ → Lock → Bool
has_id repo id l = same_bytes l.repo repo && int_eq l.id id

-- the lock is the repository's
abbrev pub is_in : List ℕ → Lock → Bool
is_in repo l = same_bytes l.repo repo

-- the lock is the repository's, and its id is this one or a later one
abbrev pub is_from : List ℕ → ℤ → Lock → Bool
is_from repo id l = same_bytes l.repo repo && int_le id l.id

-- the token has this digest
abbrev pub has_digest : List ℕ → Token → Bool
has_digest digest t = same_bytes t.digest digest

-- the token is the user's, for the repository
abbrev pub is_held_by : List ℕ → List ℕ → Token → Bool
is_held_by user repo t = same_bytes t.user user && same_bytes t.repo repo

-- the token is for the repository
abbrev pub is_for : List ℕ → Token → Bool
is_for repo t = same_bytes t.repo repo

-- the token is no longer valid at this moment
abbrev pub has_expired : ℤ → Token → Bool
has_expired moment t = int_le t.expires moment

-- the row is that of this upload
abbrev pub is_upload : ℤ → Upload → Bool
is_upload id u = int_eq u.id id

-- the upload is complete
abbrev pub is_complete : Upload → Bool
is_complete u = int_eq u.done (pos 1)

-- the upload is staged: not complete, so it counts as nothing
abbrev pub is_staged : Upload → Bool
is_staged u = int_eq u.done (pos 0)

-- the upload is a complete one of the repository, under this name
abbrev pub is_object : List ℕ → List ℕ → Upload → Bool
is_object repo oid u = same_bytes u.repo repo && (same_bytes u.oid oid && is_complete u)

-- the row is that of this upload, which is staged
abbrev pub is_staged_with : ℤ → Upload → Bool
is_staged_with id u = is_upload id u && is_staged u

-- the upload is a complete one of the repository
abbrev pub is_object_in : List ℕ → Upload → Bool
is_object_in repo u = same_bytes u.repo repo && is_complete u

-- the upload is a staged one of the repository
abbrev pub is_staged_in : List ℕ → Upload → Bool
is_staged_in repo u = same_bytes u.repo repo && is_staged u

-- the chunk is one of this upload
abbrev pub is_of : ℤ → Chunk → Bool
is_of upload c = int_eq c.upload upload

-- the chunk is one of this upload, and has this number or a later one
abbrev pub is_of_from : ℤ → ℤ → Chunk → Bool
is_of_from upload n c = int_eq c.upload upload && int_le n c.n

-- the chunk is the one of this upload with this number
abbrev pub is_chunk : ℤ → ℤ → Chunk → Bool
is_chunk upload n c = int_eq c.upload upload && int_eq c.n n

-- the chunk has this number
abbrev pub has_number : ℤ → Chunk → Bool
has_number n c = int_eq c.n n

-- the row is that of this name, which the repository has retired
abbrev pub is_retired_as : List ℕ → List ℕ → Retired → Bool
is_retired_as repo oid r = same_bytes r.repo repo && same_bytes r.oid oid

-- the row is that of a name which the repository has retired
abbrev pub is_retired_in : List ℕ → Retired → Bool
is_retired_in repo r = same_bytes r.repo repo

-- the order of locks by id; equal ids are ordered by the rowid
abbrev pub id_cmp : Lock → Lock → Ordering
id_cmp a b = ordering_then (int_cmp a.id b.id) (int_cmp a.rowid b.rowid)

-- the locks in rising ids
abbrev pub by_id : List Lock → List Lock
by_id = sort_by id_cmp

-- the order of uploads by repository and name; equal ones are ordered by the id
abbrev pub name_cmp : Upload → Upload → Ordering
name_cmp a b = ordering_then (slice_cmp nat_cmp a.repo b.repo) (ordering_then (slice_cmp nat_cmp a.oid b.oid) (int_cmp a.id b.id))

-- the uploads in the order of repositories and names
abbrev pub by_name : List Upload → List Upload
by_name = sort_by name_cmp

-- the order of retired names; equal ones are ordered by the rowid
abbrev pub oid_cmp : Retired → Retired → Ordering
oid_cmp a b = ordering_then (slice_cmp nat_cmp a.oid b.oid) (int_cmp a.rowid b.rowid)

-- the retired names in rising order
abbrev pub by_oid : List Retired → List Retired
by_oid = sort_by oid_cmp

-- ---- the columns that are returned of a row

-- the columns that are returned of a row of `meta`
abbrev pub show_meta : Meta → Row
show_meta m = Int m.one ∷ Int m.version ∷ []

-- the columns that are returned of a row of `repos`
abbrev pub show_made : Repo → Row
show_made r = Int r.rowid ∷ Int r.made ∷ []

-- the columns that are returned of a lock
abbrev pub show_lock : Lock → Row
show_lock l = Int l.id ∷ Text l.ref_name ∷ Text l.path ∷ Text l.owner ∷ Int l.moment ∷ []

-- the columns that are returned of a token
abbrev pub show_token : Token → Row
show_token t = Blob t.digest ∷ Text t.user ∷ Text t.repo ∷ Int t.op ∷ Int t.expires ∷ []

-- the columns that are returned of a row of `repos`, for the bytes that it stores
abbrev pub show_used : Repo → Row
show_used r = Int r.rowid ∷ Int r.used ∷ []

-- the columns that are returned of an upload
abbrev pub show_upload : Upload → Row
show_upload u = Int u.id ∷ Text u.repo ∷ Text u.oid ∷ Int u.size ∷ Int u.done ∷ []

-- the column that is returned of a chunk
abbrev pub show_bytes : Chunk → Row
show_bytes c = Blob c.bytes ∷ []

-- the columns that are returned of a chunk with the upload that it is of
abbrev pub show_numbered : Chunk → Row
show_numbered c = Int c.upload ∷ Blob c.bytes ∷ []

-- the column that is returned of a retired name
abbrev pub show_retired : Retired → Row
show_retired r = Text r.oid ∷ []

-- the columns that are returned of a row of `repos`, without its rowid
abbrev pub show_repo : Repo → Row
show_repo r = Text r.name ∷ Int r.made ∷ Int r.used ∷ []

-- the columns that are returned of a lock with its repository
abbrev pub show_repo_lock : Lock → Row
show_repo_lock l = Text l.repo ∷ Int l.id ∷ Text l.ref_name ∷ Text l.path ∷ Text l.owner ∷ Int l.moment ∷ []

-- the columns that are returned of a retired name with its repository
abbrev pub show_repo_retired : Retired → Row
show_repo_retired r = Text r.repo ∷ Text r.oid ∷ []

-- the columns that are returned of a chunk without its bytes
abbrev pub show_chunk_key : Chunk → Row
show_chunk_key c = Int c.upload ∷ Int c.n ∷ []

-- the statement that reads the number of the version, in a database of any version
abbrev pub meta_query_text : List ℕ
meta_query_text = codes "SELECT one, version FROM meta ORDER BY rowid"

-- ---- reading

-- a statement: its text, the values bound to it, and its meaning
pub record Statement (M : Type 0) : Type 0 where
  pub text : List ℕ
  pub params : Row
  pub meaning : M

-- the reading statements, each with the values bound to it
pub data Read : Type 0 where
  made_by : List ℕ → Read
  lock_at : List ℕ → List ℕ → List ℕ → Read
  lock_with_id : List ℕ → ℕ → Read
  locks_in : List ℕ → Read
  locks_from : List ℕ → ℕ → Read
  token : List ℕ → Read
  tokens_of : List ℕ → List ℕ → Read
  tokens_in : List ℕ → Read
  used_by : List ℕ → Read
  staged_with : ℤ → Read
  object : List ℕ → List ℕ → Read
  objects_in : List ℕ → Read
  objects : Read
  staged : Read
  chunk_at : ℤ → ℕ → Read
  numbered : ℕ → Read
  retired_as : List ℕ → List ℕ → Read
  retired_in : List ℕ → Read
  all_repos : Read
  all_locks : Read
  all_tokens : Read
  all_retired : Read
  all_uploads : Read
  chunk_keys : Read

-- each reading statement, with the rows that it returns
unfoldable pub reading : Read → Statement (Tables → List Row)
reading (made_by repo) = record {
  text = codes "SELECT rowid, made FROM repos WHERE name = ?1 ORDER BY rowid";
  params = Text repo ∷ [];
  meaning = λ t. map show_made (filter (is_named repo) t.repos);
}
reading (lock_at repo ref_name path) = record {
  text = codes "SELECT id, ref, path, owner, moment FROM locks WHERE repo = ?1 AND ref = ?2 AND path = ?3 ORDER BY rowid";
  params = Text repo ∷ Text ref_name ∷ Text path ∷ [];
  meaning = λ t. map show_lock (filter (is_at repo ref_name path) t.locks);
}
reading (lock_with_id repo id) = record {
  text = codes "SELECT id, ref, path, owner, moment FROM locks WHERE repo = ?1 AND id = ?2 ORDER BY rowid";
  params = Text repo ∷ Int (pos id) ∷ [];
  meaning = λ t. map show_lock (filter (has_id repo (pos id)) t.locks);
}
reading (locks_in repo) = record {
  text = codes "SELECT id, ref, path, owner, moment FROM locks WHERE repo = ?1 ORDER BY id, rowid";
  params = Text repo ∷ [];
  meaning = λ t. map show_lock (by_id (filter (is_in repo) t.locks));
}
reading (locks_from repo id) = record {
  text = codes "SELECT id, ref, path, owner, moment FROM locks WHERE repo = ?1 AND id >= ?2 ORDER BY id, rowid LIMIT 64";
  params = Text repo ∷ Int (pos id) ∷ [];
  meaning = λ t. map show_lock (take 64 (by_id (filter (is_from repo (pos id)) t.locks)));
}
reading (token digest) = record {
  text = codes "SELECT digest, user, repo, op, expires FROM tokens WHERE digest = ?1 ORDER BY rowid";
  params = Blob digest ∷ [];
  meaning = λ t. map show_token (filter (has_digest digest) t.tokens);
}
reading (tokens_of user repo) = record {
  text = codes "SELECT digest, user, repo, op, expires FROM tokens WHERE user = ?1 AND repo = ?2 ORDER BY rowid";
  params = Text user ∷ Text repo ∷ [];
  meaning = λ t. map show_token (filter (is_held_by user repo) t.tokens);
}
reading (tokens_in repo) = record {
  text = codes "SELECT digest, user, repo, op, expires FROM tokens WHERE repo = ?1 ORDER BY rowid";
  params = Text repo ∷ [];
  meaning = λ t. map show_token (filter (is_for repo) t.tokens);
}
reading (used_by repo) = record {
  text = codes "SELECT rowid, used FROM repos WHERE name = ?1 ORDER BY rowid";
  params = Text repo ∷ [];
  meaning = λ t. map show_used (filter (is_named repo) t.repos);
}
reading (staged_with id) = record {
  text = codes "SELECT id, repo, oid, size, done FROM uploads WHERE id = ?1 AND done = 0 ORDER BY rowid";
  params = Int id ∷ [];
  meaning = λ t. map show_upload (filter (is_staged_with id) t.uploads);
}
reading (object repo oid) = record {
  text = codes "SELECT id, repo, oid, size, done FROM uploads WHERE repo = ?1 AND oid = ?2 AND done = 1 ORDER BY rowid";
  params = Text repo ∷ Text oid ∷ [];
  meaning = λ t. map show_upload (filter (is_object repo oid) t.uploads);
}
reading (objects_in repo) = record {
  text = codes "SELECT id, repo, oid, size, done FROM uploads WHERE repo = ?1 AND done = 1 ORDER BY repo, oid, rowid";
  params = Text repo ∷ [];
  meaning = λ t. map show_upload (by_name (filter (is_object_in repo) t.uploads));
}
reading objects = record {
  text = codes "SELECT id, repo, oid, size, done FROM uploads WHERE done = 1 ORDER BY repo, oid, rowid";
  params = [];
  meaning = λ t. map show_upload (by_name (filter is_complete t.uploads));
}
reading staged = record {
  text = codes "SELECT id, repo, oid, size, done FROM uploads WHERE done = 0 ORDER BY rowid";
  params = [];
  meaning = λ t. map show_upload (filter is_staged t.uploads);
}
reading (chunk_at upload n) = record {
  text = codes "SELECT bytes FROM chunks WHERE upload = ?1 AND n = ?2 ORDER BY rowid";
  params = Int upload ∷ Int (pos n) ∷ [];
  meaning = λ t. map show_bytes (filter (is_chunk upload (pos n)) t.chunks);
}
reading (numbered n) = record {
  text = codes "SELECT upload, bytes FROM chunks WHERE n = ?1 ORDER BY rowid";
  params = Int (pos n) ∷ [];
  meaning = λ t. map show_numbered (filter (has_number (pos n)) t.chunks);
}
reading (retired_as repo oid) = record {
  text = codes "SELECT oid FROM retired WHERE repo = ?1 AND oid = ?2 ORDER BY rowid";
  params = Text repo ∷ Text oid ∷ [];
  meaning = λ t. map show_retired (filter (is_retired_as repo oid) t.retired);
}
reading (retired_in repo) = record {
  text = codes "SELECT oid FROM retired WHERE repo = ?1 ORDER BY oid, rowid";
  params = Text repo ∷ [];
  meaning = λ t. map show_retired (by_oid (filter (is_retired_in repo) t.retired));
}
reading all_repos = record {
  text = codes "SELECT name, made, used FROM repos ORDER BY rowid";
  params = [];
  meaning = λ t. map show_repo t.repos;
}
reading all_locks = record {
  text = codes "SELECT repo, id, ref, path, owner, moment FROM locks ORDER BY rowid";
  params = [];
  meaning = λ t. map show_repo_lock t.locks;
}
reading all_tokens = record {
  text = codes "SELECT digest, user, repo, op, expires FROM tokens ORDER BY rowid";
  params = [];
  meaning = λ t. map show_token t.tokens;
}
reading all_retired = record {
  text = codes "SELECT repo, oid FROM retired ORDER BY rowid";
  params = [];
  meaning = λ t. map show_repo_retired t.retired;
}
reading all_uploads = record {
  text = codes "SELECT id, repo, oid, size, done FROM uploads ORDER BY rowid";
  params = [];
  meaning = λ t. map show_upload t.uploads;
}
reading chunk_keys = record {
  text = codes "SELECT upload, n FROM chunks ORDER BY rowid";
  params = [];
  meaning = λ t. map show_chunk_key t.chunks;
}

-- the text of a reading statement
abbrev pub read_text : Read → List ℕ
read_text r = (reading r).text

-- the values bound to a reading statement
abbrev pub read_params : Read → Row
read_params r = (reading r).params

-- the rows that a reading statement returns
abbrev pub answer : Read → Tables → List Row
answer r = (reading r).meaning

-- a reading statement with these bound values returns these rows
abbrev pub Answered : List ℕ → Row → Tables → List Row → Type 0
Answered sql params t rows = (r : Read) → sql ≡ read_text r → params ≡ read_params r → rows ≡ answer r t

-- ---- writing; the rowid of an added row does not matter

-- the writing statements, each with the values bound to it
pub data Write : Type 0 where
  add_lock : Lock → Write
  add_repo : List ℕ → ℤ → Write
  set_made : ℤ → ℤ → Write
  remove_lock : List ℕ → ℕ → Write
  add_token : Token → Write
  remove_expired : ℤ → Write
  add_chunk : Chunk → Write
  remove_row : ℤ → Write
  remove_chunks : ℤ → Write
  remove_chunks_from : ℤ → ℕ → Write
  set_done : ℤ → Write
  add_used : List ℕ → ℤ → Write
  set_used : ℤ → ℤ → Write
  add_retired : List ℕ → List ℕ → Write
  add_counts : List ℕ → ℤ → ℤ → Write

-- the tables with one more lock
unfoldable pub with_lock : Lock → Tables → Tables
with_lock l t = record t { locks = t.locks ++ record l { rowid = next_key (λ x. x.rowid) t.locks } ∷ [] }

-- the tables with one more repository
unfoldable pub with_repo : List ℕ → ℤ → Tables → Tables
with_repo name made t = record t { repos = t.repos ++ record { rowid = next_key (λ x. x.rowid) t.repos; name = name; made = made; used = pos 0 } ∷ [] }

-- the tables with this number of locks made, in the row with this rowid
unfoldable pub with_made_at : ℤ → ℤ → Tables → Tables
with_made_at rowid made t = record t { repos = update_where (λ r. int_eq r.rowid rowid) (λ r. record r { made = made }) t.repos }

-- the tables without the repository's lock of this id
unfoldable pub without_lock : List ℕ → ℤ → Tables → Tables
without_lock repo id t = record t { locks = delete_where (has_id repo id) t.locks }

-- the tables with one more token
unfoldable pub with_token : Token → Tables → Tables
with_token k t = record t { tokens = t.tokens ++ record k { rowid = next_key (λ x. x.rowid) t.tokens } ∷ [] }

-- the tables without the tokens that have expired at this moment
unfoldable pub without_expired : ℤ → Tables → Tables
without_expired moment t = record t { tokens = delete_where (has_expired moment) t.tokens }

-- the tables with an upload, which comes last
unfoldable pub with_upload : Upload → Tables → Tables
with_upload u t = record t { uploads = t.uploads ++ u ∷ [] }

-- the tables with one more chunk
unfoldable pub with_chunk : Chunk → Tables → Tables
with_chunk c t = record t { chunks = t.chunks ++ record c { rowid = next_key (λ x. x.rowid) t.chunks } ∷ [] }

-- the tables without the row of this upload
unfoldable pub without_row : ℤ → Tables → Tables
without_row id t = record t { uploads = delete_where (is_upload id) t.uploads }

-- the tables without the chunks of this upload
unfoldable pub without_chunks : ℤ → Tables → Tables
without_chunks upload t = record t { chunks = delete_where (is_of upload) t.chunks }

-- the tables without the chunks of this upload from this number on
unfoldable pub without_chunks_from : ℤ → ℤ → Tables → Tables
without_chunks_from upload n t = record t { chunks = delete_where (is_of_from upload n) t.chunks }

-- the tables in which this upload is complete
unfoldable pub with_done : ℤ → Tables → Tables
with_done id t = record t { uploads = update_where (is_upload id) (λ u. record u { done = pos 1 }) t.uploads }

-- the tables with one more repository, which stores this number of bytes
unfoldable pub with_used_row : List ℕ → ℤ → Tables → Tables
with_used_row name used t = record t { repos = t.repos ++ record { rowid = next_key (λ x. x.rowid) t.repos; name = name; made = pos 0; used = used } ∷ [] }

-- the tables with this number of stored bytes, in the row with this rowid
unfoldable pub with_used_at : ℤ → ℤ → Tables → Tables
with_used_at rowid used t = record t { repos = update_where (λ r. int_eq r.rowid rowid) (λ r. record r { used = used }) t.repos }

-- the tables with one more repository, which made this number of locks and stores this number of bytes
unfoldable pub with_counts : List ℕ → ℤ → ℤ → Tables → Tables
with_counts name made used t = record t { repos = t.repos ++ record { rowid = next_key (λ x. x.rowid) t.repos; name = name; made = made; used = used } ∷ [] }

-- the tables with one more retired name
unfoldable pub with_retired : List ℕ → List ℕ → Tables → Tables
with_retired repo oid t = record t { retired = t.retired ++ record { rowid = next_key (λ x. x.rowid) t.retired; repo = repo; oid = oid } ∷ [] }

-- the effect of a writing statement on the tables, and the number of rows that a removal takes away
pub record Effect : Type 0 where
  pub step : Tables → Tables
  pub removed : Option (Tables → ℕ)

-- each writing statement
unfoldable pub writing : Write → Statement Effect
writing (add_lock l) = record {
  text = codes "INSERT INTO locks (repo, id, ref, path, owner, moment) VALUES (?1, ?2, ?3, ?4, ?5, ?6)";
  params = Text l.repo ∷ Int l.id ∷ Text l.ref_name ∷ Text l.path ∷ Text l.owner ∷ Int l.moment ∷ [];
  meaning = record { step = with_lock l; removed = None };
}
writing (add_repo name made) = record {
  text = codes "INSERT INTO repos (name, made, used) VALUES (?1, ?2, 0)";
  params = Text name ∷ Int made ∷ [];
  meaning = record { step = with_repo name made; removed = None };
}
writing (set_made rowid made) = record {
  text = codes "UPDATE repos SET made = ?2 WHERE rowid = ?1";
  params = Int rowid ∷ Int made ∷ [];
  meaning = record { step = with_made_at rowid made; removed = None };
}
writing (remove_lock repo id) = record {
  text = codes "DELETE FROM locks WHERE repo = ?1 AND id = ?2";
  params = Text repo ∷ Int (pos id) ∷ [];
  meaning = record {
    step = without_lock repo (pos id);
    removed = Some (λ t. length (filter (has_id repo (pos id)) t.locks));
  };
}
writing (add_token t) = record {
  text = codes "INSERT INTO tokens (digest, user, repo, op, expires) VALUES (?1, ?2, ?3, ?4, ?5)";
  params = Blob t.digest ∷ Text t.user ∷ Text t.repo ∷ Int t.op ∷ Int t.expires ∷ [];
  meaning = record { step = with_token t; removed = None };
}
writing (remove_expired moment) = record {
  text = codes "DELETE FROM tokens WHERE expires <= ?1";
  params = Int moment ∷ [];
  meaning = record {
    step = without_expired moment;
    removed = Some (λ t. length (filter (has_expired moment) t.tokens));
  };
}
writing (add_chunk c) = record {
  text = codes "INSERT INTO chunks (upload, n, bytes) VALUES (?1, ?2, ?3)";
  params = Int c.upload ∷ Int c.n ∷ Blob c.bytes ∷ [];
  meaning = record { step = with_chunk c; removed = None };
}
writing (remove_row id) = record {
  text = codes "DELETE FROM uploads WHERE id = ?1";
  params = Int id ∷ [];
  meaning = record { step = without_row id; removed = Some (λ t. length (filter (is_upload id) t.uploads)) };
}
writing (remove_chunks upload) = record {
  text = codes "DELETE FROM chunks WHERE upload = ?1";
  params = Int upload ∷ [];
  meaning = record { step = without_chunks upload; removed = Some (λ t. length (filter (is_of upload) t.chunks)) };
}
writing (remove_chunks_from upload n) = record {
  text = codes "DELETE FROM chunks WHERE upload = ?1 AND n >= ?2";
  params = Int upload ∷ Int (pos n) ∷ [];
  meaning = record {
    step = without_chunks_from upload (pos n);
    removed = Some (λ t. length (filter (is_of_from upload (pos n)) t.chunks));
  };
}
writing (set_done id) = record {
  text = codes "UPDATE uploads SET done = 1 WHERE id = ?1";
  params = Int id ∷ [];
  meaning = record { step = with_done id; removed = None };
}
writing (add_used name used) = record {
  text = codes "INSERT INTO repos (name, made, used) VALUES (?1, 0, ?2)";
  params = Text name ∷ Int used ∷ [];
  meaning = record { step = with_used_row name used; removed = None };
}
writing (set_used rowid used) = record {
  text = codes "UPDATE repos SET used = ?2 WHERE rowid = ?1";
  params = Int rowid ∷ Int used ∷ [];
  meaning = record { step = with_used_at rowid used; removed = None };
}
writing (add_retired repo oid) = record {
  text = codes "INSERT INTO retired (repo, oid) VALUES (?1, ?2)";
  params = Text repo ∷ Text oid ∷ [];
  meaning = record { step = with_retired repo oid; removed = None };
}
writing (add_counts name made used) = record {
  text = codes "INSERT INTO repos (name, made, used) VALUES (?1, ?2, ?3)";
  params = Text name ∷ Int made ∷ Int used ∷ [];
  meaning = record { step = with_counts name made used; removed = None };
}

-- the text of a writing statement
abbrev pub write_text : Write → List ℕ
write_text w = (writing w).text

-- the values bound to a writing statement
abbrev pub write_params : Write → Row
write_params w = (writing w).params

-- the step of a writing statement
abbrev pub after : Write → Tables → Tables
after w = (writing w).meaning.step

-- if the statement removes rows, it removed n
abbrev pub IsCount : Option (Tables → ℕ) → Tables → ℕ → Type 0
IsCount None t n = ⊤
IsCount (Some count) t n = n ≡ count t

-- if the writing statement removes rows, it removed n
abbrev pub HasRemoved : Write → Tables → ℕ → Type 0
HasRemoved w = IsCount (writing w).meaning.removed
