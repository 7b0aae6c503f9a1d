-- Who asks, what the policy is asked about them, and which locks they see.
use Rattle.std.specs.Prelude.{ℕ, Bool, true, false, not, ◌&&◌, ◌||◌, nat_lt, List, [], ◌∷◌, drop, take, Option, Some, None, Result, Ok, codes, bytes_eq, if◌then◌else◌}
use Rattle.std.specs.List.{list_all}
use Rattle.std.specs.Str.{str_eq_ignore_ascii_case}
use Rattle.names.specs.Texts.{between, is_empty}
use Rattle.names.specs.declared.rules.Rule.{Rule}
use Rattle.names.specs.declared.rules.Rule.TheVariants.{A1, A2, A3}
use Rattle.model.specs.declared.Right.{Right}
use Rattle.model.specs.declared.Right.TheVariants as right
use Rattle.names.specs.declared.operations.Operation.{Operation}
use Rattle.model.specs.Reading.{◌>>=◌, check, ok_or}
use Rattle.model.specs.Policy.{Policy, Question, Decision, allowed, denied, decide}
use Rattle.model.specs.World.{World, Lock, find_token}

-- ---- who asks

-- the holder of the token that a request presents: its text as presented, and what it was issued for
pub record Caller : Type 0 where
  pub token : List ℕ
  pub user : List ℕ
  pub repo : List ℕ
  pub operation : Operation
  pub expires : ℕ

-- a byte that a token may have
abbrev pub is_visible : ℕ → Bool
is_visible b = between 0x21 0x7E b

-- the token of the one Authorization value: Bearer in any case, one space, and the token (RFC 6750)
abbrev pub bearer : List (List ℕ) → Option (List ℕ)
bearer (value ∷ []) =
    let text = drop 7 value in
    if str_eq_ignore_ascii_case (take 7 value) (codes "bearer ") && not (is_empty text) && list_all is_visible text
    then Some text else None
bearer _ = None

-- the caller with these values of Authorization; a token is valid before it expires
abbrev pub caller_by : World → ℕ → List (List ℕ) → Result Caller Rule
caller_by world now values = do
  text ← ok_or (bearer values) A1
  t ← ok_or (find_token text world) A2
  good ← check (nat_lt now t.expires) A3
  Ok (record { token = text; user = t.user; repo = t.repo; operation = t.operation; expires = t.expires })

-- ---- questions

-- may the user download objects
abbrev pub pull_question : List ℕ → List ℕ → Question
pull_question user repo = record { user = user; repo = repo; right = right.Pull; ref = None; path = None }

-- may the user upload objects for the ref
abbrev pub push_question : List ℕ → List ℕ → List ℕ → Question
push_question user repo ref = record { user = user; repo = repo; right = right.Push; ref = Some ref; path = None }

-- has the user this right on the ref and the path of a lock
abbrev pub lock_question : Right → List ℕ → Lock → Question
lock_question right user l =
    record { user = user; repo = l.repo; right = right; ref = Some l.ref; path = Some l.path }

-- the policy allows it
abbrev pub is_allowed : Decision → Bool
is_allowed (allowed n) = true
is_allowed (denied n) = false

-- ---- which locks a user sees

-- the lock is the user's own
abbrev pub is_own : List ℕ → Lock → Bool
is_own user l = bytes_eq l.owner user

-- List shows the locks on which the user has the list right
abbrev pub may_list : Policy → List ℕ → Lock → Bool
may_list policy user l = is_allowed (decide policy (lock_question right.List user l))

-- users see their own locks, and those that they may list, lock or force, or to whose ref they may push
abbrev pub sees : Policy → List ℕ → Lock → Bool
sees policy user l =
    is_own user l || may_list policy user l
    || is_allowed (decide policy (lock_question right.Lock user l))
    || is_allowed (decide policy (lock_question right.Force user l))
    || is_allowed (decide policy (push_question user l.repo l.ref))
