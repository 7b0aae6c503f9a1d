-- What a store remembers of staged uploads.
use Rattle.std.specs.Prelude.{⊤, ◌≡◌, ◌≢◌, ℕ, ◌<◌, ℤ, Bool, true, List, find, take, length, slice_index_or, Option, Some, None, option_map, IsTrue}
use Rattle.std.specs.List.{AllByRecursion}
use Rattle.std.specs.Global.{Vec}
use Rattle.sqlite.specs.State.{State, HasCleanDisk}
use Rattle.names.specs.Names.{repo_text}
use Rattle.tables.specs.declared.staged.Remembered.{Remembered}
use Rattle.tables.specs.Rows.{Upload, Tables}
use Rattle.tables.specs.Statements.{same_bytes, is_staged, is_staged_in}
use Rattle.tables.specs.Runs.{IsReady, tables_in}
use Rattle.tables.specs.Staging.{upload_number}

-- the entry is the repository's
abbrev pub is_entry_of : List ℕ → Remembered → Bool
is_entry_of repo r = same_bytes (repo_text r.repo) repo

-- the id in the first entry of the repository
abbrev pub remembered_in : List Remembered → List ℕ → Option ℤ
remembered_in known repo = option_map (λ (r : Remembered). upload_number r.id) (find (is_entry_of repo) known)

-- the upload is the one that is remembered for its repository
abbrev pub IsLast : List Remembered → Upload → Type 0
IsLast known u = remembered_in known u.repo ≡ Some u.id

-- if the upload is staged, it is the one that is remembered for its repository
abbrev pub IsRemembered : List Remembered → Upload → Type 0
IsRemembered known u = IsTrue (is_staged u) → IsLast known u

-- each staged one of these uploads is remembered, unless the staged uploads are unknown
unfoldable pub KnowsStaged : Option (Vec Remembered) → List Upload → Type 0
KnowsStaged None uploads = ⊤
KnowsStaged (Some known) uploads = AllByRecursion (IsRemembered known.items) uploads

-- ---- entries

-- the entry has the repository and the id of the upload
pub record IsEntryOf (u : Upload) (r : Remembered) : Type 0 where
  pub repo : repo_text r.repo ≡ u.repo
  pub id : upload_number r.id ≡ u.id

-- the element at this index is the first that passes the test
pub record IsFirst {X : Type 0} (p : X → Bool) (xs : List X) (at : ℕ) : Type 0 where
  pub within : at < length xs
  pub here : (d : X) → p (slice_index_or xs at d) ≡ true
  pub before : find p (take at xs) ≡ None

-- the id is remembered for the repository, and what is remembered for any other is unchanged
pub record IsNoted (old : List Remembered) (repo : List ℕ) (id : ℤ) (new : List Remembered) : Type 0 where
  pub here : remembered_in new repo ≡ Some id
  pub others : (other : List ℕ) → other ≢ repo → remembered_in new other ≡ remembered_in old other

-- if the repository has a staged upload, it has this id
abbrev pub IsLastOf : Option ℤ → List ℕ → Tables → Type 0
IsLastOf last repo t = AllByRecursion (λ u. IsTrue (is_staged_in repo u) → last ≡ Some u.id) t.uploads

-- if the connection is open, and the repository has a staged upload, it has this id
abbrev pub IsLastIn : Option ℤ → List ℕ → State → Type 0
IsLastIn last repo s = IsTrue s.is_open → IsLastOf last repo (tables_in s)

-- the connection has the tables, and if the repository has a staged upload, it has this id
pub record HasLast (last : Option ℤ) (repo : List ℕ) (s : State) : Type 0 where
  pub ready : IsReady s
  pub only : HasCleanDisk s → IsLastIn last repo s
