-- The caller, as the store reports it.
use Rattle.std.specs.Prelude.{◌≡◌, ◌<◌, ◌≤◌, ℕ, List, Result, Ok, Err, ⊤}
use Rattle.names.specs.Names.{user_text, repo_text}
use Rattle.names.specs.declared.rules.Rule.TheVariants.{A3}
use Rattle.model.specs.World.{World}
use Rattle.model.specs.Callers as model
use Rattle.model.specs.Callers.{caller_by}
use Rattle.tables.specs.declared.rows.TokenRow.{TokenRow}
use Rattle.tokens.specs.declared.callers.Caller.{Caller}
use Rattle.tokens.specs.declared.callers.CallerFault.{CallerFault}
use Rattle.tokens.specs.declared.callers.CallerFault.TheVariants as fault

-- the caller, as in the definitions
pub record IsHolder (c : Caller) (who : model.Caller) : Type 0 where
  pub token : c.token.now ≡ who.token
  pub user : user_text c.user ≡ who.user
  pub repo : repo_text c.repo ≡ who.repo
  pub operation : c.operation ≡ who.operation
  pub expires : c.expires ≡ who.expires

-- the result is the caller, or the rule, that the world gives for these values of Authorization; or the store refused
abbrev pub IsCalling : World → ℕ → List (List ℕ) → Result Caller CallerFault → Type 0
IsCalling world now values (Ok c) = (who : model.Caller) × (caller_by world now values ≡ Ok who) × IsHolder c who
IsCalling world now values (Err (fault.Rule rule)) = caller_by world now values ≡ Err rule
IsCalling world now values (Err (fault.Store f)) = ⊤

-- the caller of this text and of a row that is valid at the moment
pub record IsOfRow (text : List ℕ) (row : TokenRow) (c : Caller) : Type 0 where
  pub token : c.token.now ≡ text
  pub user : user_text c.user ≡ user_text row.user
  pub repo : repo_text c.repo ≡ repo_text row.repo
  pub operation : c.operation ≡ row.operation
  pub expires : c.expires ≡ row.expires

-- the same, or A3
abbrev pub IsGoodAt : List ℕ → TokenRow → ℕ → Result Caller CallerFault → Type 0
IsGoodAt text row now (Ok c) = (now < row.expires) × IsOfRow text row c
IsGoodAt text row now (Err (fault.Rule rule)) = (row.expires ≤ now) × (rule ≡ A3)
IsGoodAt text row now (Err (fault.Store f)) = ⊥
