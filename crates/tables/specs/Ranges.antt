-- Which rows have all their parts in range.
use Rattle.std.specs.Prelude.{◌≡◌, ◌≤ℤ◌, ℤ, pos, length, IsTrue}
use Rattle.names.specs.Texts.{last_lock_id, last_moment, is_user, is_repo, is_ref, is_lock_path}
use Rattle.names.specs.declared.operations.Operation.{Operation}
use Rattle.tables.specs.Rows.{Lock, Token}
use Rattle.tables.specs.Steps.{code_of}

-- a moment is from 0 to the last moment
abbrev pub IsMomentInRange : ℤ → Type 0
IsMomentInRange second = (pos 0 ≤ℤ second) × (second ≤ℤ pos last_moment)

-- the parts of a lock that are reported with it are in range
pub record IsLockInRange (l : Lock) : Type 0 where
  pub first : pos 1 ≤ℤ l.id
  pub last : l.id ≤ℤ pos last_lock_id
  pub ref_name : IsTrue (is_ref l.ref_name)
  pub path : IsTrue (is_lock_path l.path)
  pub owner : IsTrue (is_user l.owner)
  pub moment : IsMomentInRange l.moment

-- all parts of a token are in range
pub record IsTokenInRange (t : Token) : Type 0 where
  pub digest : length t.digest ≡ 32
  pub user : IsTrue (is_user t.user)
  pub repo : IsTrue (is_repo t.repo)
  pub operation : (o : Operation) × (code_of o ≡ t.op)
  pub expires : IsMomentInRange t.expires
