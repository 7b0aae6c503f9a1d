-- What a verdict depends on.
use Rattle.std.specs.Prelude.{ℕ, List, Result}
use Rattle.names.specs.declared.rules.Rule.{Rule}
use Rattle.model.specs.Policy.{Policy, Repo}
use Rattle.model.specs.World.{World}
use Rattle.model.specs.RepoState.{RepoState, repo_state}
use Rattle.model.specs.Forms.{Request}
use Rattle.model.specs.Callers.{Caller}

-- the policy and the moment of a connection
pub record Setting : Type 0 where
  pub policy : Policy
  pub now : ℕ

-- a caller in a repository: all that the verdict on a request depends on, besides the request
pub record Case : Type 0 where
  pub setting : Setting
  pub caller : Caller
  pub repo : Repo
  pub state : RepoState

-- the case of a caller in a repository of the world
abbrev pub case_in : World → Setting → Caller → Repo → Case
case_in world setting caller repo =
    record { setting = setting; caller = caller; repo = repo; state = repo_state repo world }

-- a request as it reaches the desk: the values of Authorization, the repository's text, the size of the body,
-- and the request itself, or the J rule that refuses it
pub record DeskRequest : Type 0 where
  pub bearers : List (List ℕ)
  pub repo : List ℕ
  pub left : ℕ
  pub request : Result Request Rule
