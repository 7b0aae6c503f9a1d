-- The worlds that tables represent.
use Rattle.std.specs.Prelude.{◌≡◌, ℕ, pos, true, false, List, [], ◌∷◌, map, IsPermutation}
use Rattle.std.specs.List.{AllByRecursion}
use Rattle.sha2.specs.Sha256.{sha256}
use Rattle.store.specs.declared.state.State.{Ghosts}
use Rattle.model.specs.World.{World, IsWorld, Lock, Token, Retired, total, is_retired}
use Rattle.tables.specs.Rows as row
use Rattle.tables.specs.Rows.{Tables}
use Rattle.tables.specs.Runs.{current_meta, migrated}
use Rattle.tables.specs.Statements.{is_staged}
use Rattle.tables.specs.Steps.{code_of, made_of, used_of}
use Rattle.store.specs.Shown.{IsHonest, IsOpen, HasTables, shown}
use Rattle.refinement.specs.Objects.{RepresentObjects}

-- a row of `locks`, without its place in the table
abbrev pub lock_kept : row.Lock → row.Lock
lock_kept l = record l { rowid = pos 0 }

-- a row of `tokens`, without its place in the table
abbrev pub token_kept : row.Token → row.Token
token_kept t = record t { rowid = pos 0 }

-- the row of a lock
abbrev pub lock_row : Lock → row.Lock
lock_row l = record { rowid = pos 0; repo = l.repo; id = pos l.id; ref_name = l.ref; path = l.path; owner = l.owner; moment = pos l.at }

-- the row of an issued token, which stores only the digest
abbrev pub token_row : Token → row.Token
token_row t = record { rowid = pos 0; digest = sha256 t.text; user = t.user; repo = t.repo; op = code_of t.operation; expires = pos t.expires }

-- a row of `retired`, without its place in the table
abbrev pub retired_kept : row.Retired → row.Retired
retired_kept r = record r { rowid = pos 0 }

-- the row of a retired name
abbrev pub retired_row : Retired → row.Retired
retired_row r = record { rowid = pos 0; repo = r.repo; oid = r.name }

-- no staged upload has a retired name
abbrev pub AreUnretired : World → List row.Upload → Type 0
AreUnretired world = AllByRecursion (λ u. is_staged u ≡ true → is_retired u.repo u.oid world ≡ false)

-- the rows are those of the world's locks, tokens, objects and retired names, in any order; each repository has its
-- counts; and no staged upload has a retired name
pub record Represents (t : Tables) (world : World) : Type 0 where
  pub meta : t.meta ≡ current_meta ∷ []
  pub locks : IsPermutation (map lock_kept t.locks) (map lock_row world.locks)
  pub made : (repo : List ℕ) → made_of repo t ≡ pos (world.made repo)
  pub used : (repo : List ℕ) → used_of repo t ≡ pos (total repo world)
  pub tokens : IsPermutation (map token_kept t.tokens) (map token_row world.tokens)
  pub objects : RepresentObjects t.uploads t.chunks world.objects
  pub retired : IsPermutation (map retired_kept t.retired) (map retired_row world.retired)
  pub unretired : AreUnretired world t.uploads

-- rows of version 1 represent the world that they represent once migrated
abbrev pub RepresentedFirst : Tables → World → Type 0
RepresentedFirst t = Represents (migrated t)

-- the store holds the world: while the disk is honest and the store open, its tables represent it
pub record Holds {S : Type 0} (g : Ghosts S) (s : S) (world : World) : Type 0 where
  pub ready : HasTables g s
  pub laws : IsWorld world
  pub shows : IsHonest g s → IsOpen g s → Represents (shown g s) world
