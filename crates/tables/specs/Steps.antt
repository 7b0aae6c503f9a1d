-- The effects of the calls on the tables, and their results.
use Rattle.std.specs.Prelude.{◌≡◌, ◌+ℤ◌, ℕ, ℤ, pos, Bool, if◌then◌else◌, List, [], ◌∷◌, find, map, Option, Some, None, is_some, option_map, unwrap_or}
use Rattle.std.specs.Ordering.{int_eq}
use Rattle.sqlite_keyed.specs.Keyed.{next_key}
use Rattle.names.specs.Names.{user_text, repo_text, ref_text, path_text}
use Rattle.names.specs.declared.operations.Operation.{Operation}
use Rattle.names.specs.declared.operations.Operation.TheVariants as operation
use Rattle.tables.specs.declared.new_rows.NewLock.{NewLock}
use Rattle.tables.specs.declared.rows.LockRow.{LockRow}
use Rattle.tables.specs.declared.locks.Count.{Count}
use Rattle.tables.specs.declared.new_rows.NewToken.{NewToken}
use Rattle.tables.specs.declared.rows.TokenRow.{TokenRow}
use Rattle.tables.specs.declared.rows.Creation.{Creation}
use Rattle.tables.specs.declared.rows.Creation.TheVariants as creation
use Rattle.tables.specs.Rows.{Repo, Token, Lock, Tables}
use Rattle.tables.specs.Statements.{is_named, is_at, has_digest, with_lock, with_token}

-- ---- rows as the calls return them

-- a lock without its repository and its rowid
pub record LockFields : Type 0 where
  pub id : ℤ
  pub ref_name : List ℕ
  pub path : List ℕ
  pub owner : List ℕ
  pub moment : ℤ

-- the fields of a row of `locks` that a call returns
abbrev pub lock_fields : Lock → LockFields
lock_fields l = record { id = l.id; ref_name = l.ref_name; path = l.path; owner = l.owner; moment = l.moment }

-- the fields of a returned lock
abbrev pub read_lock : LockRow → LockFields
read_lock row = record {
  id = pos row.id;
  ref_name = ref_text row.ref_name;
  path = path_text row.path;
  owner = user_text row.owner;
  moment = pos row.moment;
}

-- the result is this lock, or there is none
abbrev pub IsLockOf : Option LockRow → Option Lock → Type 0
IsLockOf row l = option_map read_lock row ≡ option_map lock_fields l

-- the results are these locks
abbrev pub AreLocksOf : List LockRow → List Lock → Type 0
AreLocksOf rows ls = map read_lock rows ≡ map lock_fields ls

-- a token without its rowid
pub record TokenFields : Type 0 where
  pub digest : List ℕ
  pub user : List ℕ
  pub repo : List ℕ
  pub op : ℤ
  pub expires : ℤ

-- the fields of a row of `tokens` that a call returns
abbrev pub token_fields : Token → TokenFields
token_fields t = record { digest = t.digest; user = t.user; repo = t.repo; op = t.op; expires = t.expires }

-- the number of an operation in the database
abbrev pub code_of : Operation → ℤ
code_of operation.Download = pos 1
code_of operation.Upload = pos 2

-- the fields of a returned token
abbrev pub read_token : TokenRow → TokenFields
read_token row = record {
  digest = row.digest;
  user = user_text row.user;
  repo = repo_text row.repo;
  op = code_of row.operation;
  expires = pos row.expires;
}

-- the result is this token, or there is none
abbrev pub IsTokenOf : Option TokenRow → Option Token → Type 0
IsTokenOf row t = option_map read_token row ≡ option_map token_fields t

-- the results are these tokens
abbrev pub AreTokensOf : List TokenRow → List Token → Type 0
AreTokensOf rows ts = map read_token rows ≡ map token_fields ts

-- ---- locks

-- the rowid of a repository's row, and the number of locks that the repository ever made
pub record RepoCount : Type 0 where
  pub rowid : ℤ
  pub made : ℤ

-- the rowid and the count in a row of `repos`
abbrev pub repo_count : Repo → RepoCount
repo_count r = record { rowid = r.rowid; made = r.made }

-- the rowid and the count that a call read
abbrev pub read_count : Count → RepoCount
read_count c = record { rowid = c.rowid; made = pos c.made }

-- the count is the one in the row
abbrev pub IsCountOf : Option Count → Option Repo → Type 0
IsCountOf c r = option_map read_count c ≡ option_map repo_count r

-- 0 if the repository has no row
abbrev pub made_in : Option Repo → ℤ
made_in r = unwrap_or (option_map (λ (x : Repo). x.made) r) (pos 0)

-- the number of locks that the repository ever made
abbrev pub made_of : List ℕ → Tables → ℤ
made_of name t = made_in (find (is_named name) t.repos)

-- the number of bytes that the repository stores, by its first row; 0 without a row
abbrev pub used_in : Option Repo → ℤ
used_in r = unwrap_or (option_map (λ (x : Repo). x.used) r) (pos 0)

-- the number of bytes that the repository stores
abbrev pub used_of : List ℕ → Tables → ℤ
used_of name t = used_in (find (is_named name) t.repos)

-- the repository's first row is changed; without one, this row is added at the end
abbrev pub set_first : List ℕ → (Repo → Repo) → Repo → List Repo → List Repo
set_first name change new [] = new ∷ []
set_first name change new (r ∷ rs) = if is_named name r then change r ∷ rs else r ∷ set_first name change new rs

-- the number of locks made by the repository is set; a row that is added has this rowid
abbrev pub set_made : List ℕ → ℤ → ℤ → List Repo → List Repo
set_made name made next = set_first name (λ r. record r { made = made }) (record { rowid = next; name = name; made = made; used = pos 0 })

-- the tables with this number of locks made by the repository
unfoldable pub with_made : List ℕ → ℤ → Tables → Tables
with_made name made t = record t { repos = set_made name made (next_key (λ x. x.rowid) t.repos) t.repos }

-- the lock of a request, as stored, except for its rowid and id
abbrev pub asked_lock : NewLock → Lock
asked_lock l = record {
  rowid = pos 0;
  repo = repo_text l.repo.now;
  id = pos 0;
  ref_name = ref_text l.ref_name.now;
  path = path_text l.path.now;
  owner = user_text l.owner.now;
  moment = pos l.moment;
}

-- the result of a lock request: the lock that holds the path, no more ids, or a new lock with this id
pub data Outcome : Type 0 where
  held : LockFields → Outcome
  used_up : Outcome
  created : ℤ → Outcome

-- the last id of a repository
abbrev pub greatest_id : ℤ
greatest_id = pos 4294967295

-- the outcome on a free path, after this number of locks
abbrev pub next_outcome : ℤ → Outcome
next_outcome made_so_far = if int_eq made_so_far greatest_id then used_up else created (made_so_far +ℤ pos 1)

-- the outcome, if this lock is on the path, after this number of locks
abbrev pub outcome_by : Option Lock → ℤ → Outcome
outcome_by (Some l) made_so_far = held (lock_fields l)
outcome_by None made_so_far = next_outcome made_so_far

-- the lock on the path of this one
abbrev pub held_at : Lock → Tables → Option Lock
held_at l t = find (is_at l.repo l.ref_name l.path) t.locks

-- the outcome of a request for this lock
abbrev pub outcome_of : Lock → Tables → Outcome
outcome_of l t = outcome_by (held_at l t) (made_of l.repo t)

-- the outcome that a call reports
abbrev pub read_creation : Creation → Outcome
read_creation (creation.Created id) = created (pos id)
read_creation (creation.Held row) = held (read_lock row)
read_creation creation.UsedUp = used_up

-- the call returned the outcome of this request
unfoldable pub IsOutcomeOf : Lock → Tables → Creation → Type 0
IsOutcomeOf l t creation = read_creation creation ≡ outcome_of l t

-- the lock is added, and counted
unfoldable pub with_new_lock : Lock → ℤ → Tables → Tables
with_new_lock l id t = with_made l.repo id (with_lock (record l { id = id }) t)

-- the tables after this outcome of a request for the lock
abbrev pub after_outcome : Lock → Outcome → Tables → Tables
after_outcome l (held other) t = t
after_outcome l used_up t = t
after_outcome l (created id) t = with_new_lock l id t

-- the tables after a request for the lock
unfoldable pub after_create : Lock → Tables → Tables
after_create l t = after_outcome l (outcome_of l t) t

-- ---- tokens

-- the token of a request, as stored, except for its rowid
abbrev pub asked_token : NewToken → Token
asked_token t = record {
  rowid = pos 0;
  digest = t.digest.now;
  user = user_text t.user.now;
  repo = repo_text t.repo.now;
  op = code_of t.operation;
  expires = pos t.expires;
}

-- a token with this digest is stored
abbrev pub has_token : List ℕ → Tables → Bool
has_token digest t = is_some (find (has_digest digest) t.tokens)

-- the token is added, unless one with its digest is stored
unfoldable pub after_add : Token → Tables → Tables
after_add k t = if has_token k.digest t then t else with_token k t
