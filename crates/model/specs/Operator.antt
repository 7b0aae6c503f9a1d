-- What the operator of a server does: issuing tokens, removing those that expired, removing an object for good.
use Rattle.std.specs.Prelude.{◌≡◌, ℕ, ◌+◌, ◌≤◌, nat_le, List, Option, Some, None, Result, Ok, Err, IsTrue, is_some, if◌then◌else◌}
use Rattle.names.specs.Texts.{last_moment, is_hex_64, is_user, is_repo}
use Rattle.names.specs.declared.operations.Operation.{Operation}
use Rattle.model.specs.Reading.{◌>>=◌, check, none_or}
use Rattle.model.specs.World.{World, Token, find_token, with_token, without_expired, expired_count, is_retired, object_named, without_object}

-- a token that the operator asks for, valid for this many seconds from now on
pub record TokenRequest : Type 0 where
  pub text : List ℕ
  pub user : List ℕ
  pub repo : List ℕ
  pub operation : Operation
  pub now : ℕ
  pub seconds : ℕ

-- its parts are in range
pub record IsTokenRequest (asked : TokenRequest) : Type 0 where
  pub text : IsTrue (is_hex_64 asked.text)
  pub user : IsTrue (is_user asked.user)
  pub repo : IsTrue (is_repo asked.repo)
  pub now : asked.now ≤ last_moment

-- why no token is issued: there is one with its digest (K1), or it would expire after the last moment (K2)
pub data TokenDenial : Type 0 where
  already_issued expires_too_late : TokenDenial

-- the token that is asked for
abbrev pub new_token : TokenRequest → Token
new_token asked = record {
  text = asked.text;
  user = asked.user;
  repo = asked.repo;
  operation = asked.operation;
  expires = asked.now + asked.seconds;
}

-- the first reason not to issue the token, or the token
abbrev pub token_verdict : World → TokenRequest → Result Token TokenDenial
token_verdict world asked = do
  unknown ← none_or (find_token asked.text world) (λ _. already_issued)
  in_time ← check (nat_le (asked.now + asked.seconds) last_moment) expires_too_late
  Ok (new_token asked)

-- the world after a verdict on a token
abbrev pub after_token : World → Result Token TokenDenial → World
after_token world (Ok t) = with_token t world
after_token world (Err denial) = world

-- an answer to the operator, and the world that it leads to
pub record Outcome (A : Type 0) : Type 0 where
  pub answer : A
  pub world : World

-- what a request for a token leads to
abbrev pub issue_outcome : World → TokenRequest → Outcome (Result Token TokenDenial)
issue_outcome old asked =
    let given = token_verdict old asked in record { answer = given; world = after_token old given }

-- what removing tokens leads to: the answer is how many there were
abbrev pub prune_outcome : World → ℕ → Outcome ℕ
prune_outcome old now = record { answer = expired_count now old; world = without_expired now old }

-- what became of an object that the operator removes: it was removed now, or its name was retired before, or there is none
pub data Removal : Type 0 where
  removed_now removed_before no_object : Removal

-- what becomes of the object of this name
abbrev pub removal_of : World → List ℕ → List ℕ → Removal
removal_of world repo name =
    if is_retired repo name world then removed_before
    else (if is_some (object_named repo name world) then removed_now else no_object)

-- the world after the removal
abbrev pub after_removal : World → List ℕ → List ℕ → Removal → World
after_removal world repo name removed_now = without_object repo name world
after_removal world repo name _ = world

-- what the removal of an object leads to
abbrev pub retire_outcome : World → List ℕ → List ℕ → Outcome Removal
retire_outcome old repo name =
    let given = removal_of old repo name in record { answer = given; world = after_removal old repo name given }

-- the outcome is reported and the world is its; or nothing is reported, as the store refused, and nothing changed
pub data Reports {A : Type 0} (given : Option A) (outcome : Outcome A) (old new : World) : Type 0 where
  by_success : given ≡ Some outcome.answer → new ≡ outcome.world → Reports given outcome old new
  by_fault : given ≡ None → new ≡ old → Reports given outcome old new
