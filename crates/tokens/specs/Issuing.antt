-- Issuing a token.
use Rattle.std.specs.Prelude.{◌≡◌, ℕ, Bool, true, false, is_some, List, Option, Some, None, Result, Ok, Err, ⊤}
use Rattle.store.specs.declared.state.State.{Ghosts}
use Rattle.hex.specs.Hex.{encode_lower}
use Rattle.names.specs.Names.{user_text, repo_text}
use Rattle.model.specs.World.{World, Token, IsToken, find_token, with_token}
use Rattle.model.specs.Operator as model
use Rattle.model.specs.Operator.{TokenDenial, token_verdict, already_issued, expires_too_late}
use Rattle.model.specs.Steps.{issues}
use Rattle.model.specs.Bounds.{Ending, changed, unchanged, failed, world_by}
use Rattle.tables.specs.declared.fault.StoreFault.{StoreFault}
use Rattle.refinement.specs.Left.{Ends, KeepsTables, Takes}
use Rattle.tokens.specs.declared.requests.TokenRequest.{TokenRequest}
use Rattle.tokens.specs.declared.issuing.TokenFault.{TokenFault}
use Rattle.tokens.specs.declared.issuing.TokenFault.TheVariants.{AlreadyIssued, ExpiresTooLate}
use Rattle.tokens.specs.declared.issuing.TokenFault.TheVariants as fault

-- the request, in the terms of the definitions
abbrev pub token_asked : TokenRequest → model.TokenRequest
token_asked r = record {
  text = encode_lower r.random.now;
  user = user_text r.user.now;
  repo = repo_text r.repo.now;
  operation = r.operation;
  now = r.now;
  seconds = r.seconds;
}

-- the requested token with this text, valid until it expires
abbrev pub token_until : TokenRequest → List ℕ → ℕ → Token
token_until r text expires = record {
  text = text;
  user = user_text r.user.now;
  repo = repo_text r.repo.now;
  operation = r.operation;
  expires = expires;
}

-- why no token is issued
abbrev pub denial_of : TokenFault → Result Token TokenDenial → Type 0
denial_of AlreadyIssued verdict = verdict ≡ Err already_issued
denial_of ExpiresTooLate verdict = verdict ≡ Err expires_too_late
denial_of (fault.Store f) verdict = ⊤

-- the definitions would issue a token with this text
abbrev pub Offers : World → TokenRequest → List ℕ → Type 0
Offers world asked text = (token : Token) × (token_verdict world (token_asked asked) ≡ Ok token) × (token.text ≡ text)

-- what is reported if no token is issued: the cause, or nothing if the store refused or memory ran out
abbrev pub report_of : TokenFault → Option (Result Token TokenDenial)
report_of AlreadyIssued = Some (Err already_issued)
report_of ExpiresTooLate = Some (Err expires_too_late)
report_of (fault.Store f) = None

module _ {S : Type 0} (g : Ghosts S) where
  -- the token with this text is issued, in a step to the world with it
  pub record Issues (world : World) (old new : S) (asked : TokenRequest) (text : List ℕ) : Type 0 where
    pub token : Token
    pub verdict : token_verdict world (token_asked asked) ≡ Ok token
    pub text_is : token.text ≡ text
    pub takes : Takes g old new world (issues (token_asked asked) (Some (Ok token))) (with_token token world)

  -- no token is issued, for that cause, in a step that leaves the world and the tables as they were
  pub record Refuses (world : World) (old new : S) (asked : TokenRequest) (f : TokenFault) : Type 0 where
    pub verdict : denial_of f (token_verdict world (token_asked asked))
    pub takes : Takes g old new world (issues (token_asked asked) (report_of f)) world
    pub tables : KeepsTables g old new

  -- a call to add the token to the world ended this way
  abbrev pub EndsAdding : S → S → Ending → World → Token → Type 0
  EndsAdding old new ending world token =
      Ends g old new ending world (with_token token world) (world_by ending world (with_token token world))

  -- a token that was stored is issued; one that was not is issued already; or the store refused it. Unless it was stored,
  -- the tables are as before
  abbrev pub Keeps : World → TokenRequest → List ℕ → ℕ → S → S → Result Bool StoreFault → Type 0
  Keeps world asked text expires old new (Ok true) =
      IsToken (token_until asked text expires)
      → (find_token text world ≡ None) × EndsAdding old new changed world (token_until asked text expires)
  Keeps world asked text expires old new (Ok false) =
      (is_some (find_token text world) ≡ true) × Ends g old new unchanged world world world × KeepsTables g old new
  Keeps world asked text expires old new (Err f) =
      (IsToken (token_until asked text expires) → find_token text world ≡ None
      → EndsAdding old new failed world (token_until asked text expires)) × KeepsTables g old new
