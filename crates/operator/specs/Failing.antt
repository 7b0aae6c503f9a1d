-- What a task that fails leaves, and why it fails.
use Rattle.std.specs.Prelude.{◌≡◌, ◌⊎◌, Option, Result, ⊤}
use Rattle.store.specs.declared.state.State.{Ghosts}
use Rattle.model.specs.World.{World, Token}
use Rattle.model.specs.Operator.{TokenDenial, token_verdict}
use Rattle.model.specs.Steps.{Event, issues}
use Rattle.refinement.specs.Left.{Keeps, Takes}
use Rattle.tokens.specs.Issuing.{denial_of, token_asked}
use Rattle.tokens.specs.declared.requests.TokenRequest.{TokenRequest}
use Rattle.operator.specs.declared.faults.TaskFault.{TaskFault}
use Rattle.operator.specs.declared.faults.TaskFault.TheVariants.{Store as refused_store, Token as refused_token, Memory, Output}

module _ {S : Type 0} (g : Ghosts S) where
  -- the world is kept, or a step of the task's own leads from it to another one
  abbrev pub Attempts : (Event → Type 0) → S → S → World → World → Type 0
  Attempts IsOwn old new world kept =
      (Keeps g old new world × (kept ≡ world)) ⊎ ((event : Event) × IsOwn event × Takes g old new world event kept)

  -- a task failed: the world is as before, unless the step is one that a fault may follow
  pub record Fails (IsOwn : Event → Type 0) (follows : Type 0) (old new : S) (world : World) : Type 0 where
    pub kept : World
    pub attempts : Attempts IsOwn old new world kept
    pub same : (kept ≡ world) ⊎ follows

-- the database refused, memory ran out, or the output could not be written
abbrev pub IsPlain : TaskFault → Type 0
IsPlain (refused_store fault) = ⊤
IsPlain Memory = ⊤
IsPlain Output = ⊤
IsPlain _ = ⊥

-- the line could not be written
abbrev pub IsOutput : TaskFault → Type 0
IsOutput Output = ⊤
IsOutput _ = ⊥

-- the issue of the token, whatever came of it
abbrev pub IsIssueOf : TokenRequest → Event → Type 0
IsIssueOf asked event = (given : Option (Result Token TokenDenial)) × (event ≡ issues (token_asked asked) given)

-- no token is issued, as the definitions say, or for a plain reason
abbrev pub IsTokenFault : World → TokenRequest → TaskFault → Type 0
IsTokenFault world asked (refused_token fault) = denial_of fault (token_verdict world (token_asked asked))
IsTokenFault world asked fault = IsPlain fault
