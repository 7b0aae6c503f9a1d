-- The answer to a request: what it is granted, or why it is denied.
use Rattle.std.specs.Prelude.{ℕ, Bool, true, false, List, Option, Result, Ok, Err, ⊤}
use Rattle.names.specs.declared.rules.Rule.{Rule}
use Rattle.names.specs.declared.rules.Rule.TheVariants as rule
use Rattle.model.specs.declared.Right.{Right}
use Rattle.model.specs.Policy.{Policy, Question, Decision, allowed, denied, decide}
use Rattle.model.specs.World.{Object, Lock}
use Rattle.model.specs.Callers.{pull_question, push_question}

-- ---- denials

-- why a request is denied: a rule; the row of the policy that denies the right, with a status; a lock that is there
pub data Denial : Type 0 where
  by_rule : Rule → Denial
  by_row : ℕ → Right → ℕ → Denial
  by_lock : Lock → Denial

-- a rule's refusal as a denial
abbrev pub by_rules : {A : Type 0} → Result A Rule → Result A Denial
by_rules (Ok x) = Ok x
by_rules (Err r) = Err (by_rule r)

-- the decision allows, or it is the denial by its row
abbrev pub permit_by : Decision → Right → ℕ → Result ⊤ Denial
permit_by (allowed n) right status = Ok tt
permit_by (denied n) right status = Err (by_row n right status)

-- the policy allows what the question asks, or its row denies it with this status
abbrev pub permit : Policy → Question → ℕ → Result ⊤ Denial
permit policy q status = permit_by (decide policy q) q.right status

-- 404 hides the repository from a user who may not pull
abbrev pub hiding_status : Decision → ℕ
hiding_status (allowed n) = 403
hiding_status (denied n) = 404

-- the user may pull, or is denied with this status
abbrev pub may_pull : Policy → List ℕ → List ℕ → ℕ → Result ⊤ Denial
may_pull policy user repo status = permit policy (pull_question user repo) status

-- the user may push objects to the ref
abbrev pub may_push : Policy → List ℕ → List ℕ → List ℕ → Result ⊤ Denial
may_push policy user repo ref =
    permit policy (push_question user repo ref) (hiding_status (decide policy (pull_question user repo)))

-- ---- grants

-- where to download, upload or verify an object, with which token, and for how many seconds
pub record Action : Type 0 where
  pub href : List ℕ
  pub token : List ℕ
  pub expires_in : ℕ

-- what the client can do with an object of a batch
pub data Actions : Type 0 where
  downloads : Action → Actions
  uploads : (upload verify : Action) → Actions
  is_stored : Actions

-- an object of a batch as it was given, and its actions, or the rule that refuses it
pub record Offer : Type 0 where
  pub oid : List ℕ
  pub size : ℕ
  pub actions : Result Actions Rule

-- locks in rising order of their ids, and the id of the next lock
pub record Page : Type 0 where
  pub locks : List Lock
  pub next : Option ℕ

-- what is granted, with all that its reply shows and all that it changes
pub data Grant : Type 0 where
  offers : List Offer → Grant
  serves : Object → Grant
  stores : Object → Grant
  confirms : Grant
  makes_lock : Lock → Grant
  lists : Page → Grant
  splits : (user : List ℕ) → Page → Grant
  releases : Lock → Grant

-- a grant or a denial
abbrev pub Answer : Type 0
Answer = Result Grant Denial

-- the store refused or memory ran out
abbrev pub store_refusal : Answer
store_refusal = Err (by_rule rule.S1)

-- a denial by a rule that passes the test
abbrev pub is_rule : (Rule → Bool) → Answer → Bool
is_rule test (Err (by_rule rule)) = test rule
is_rule test _ = false

-- the rule S1
abbrev pub is_s1 : Rule → Bool
is_s1 rule.S1 = true
is_s1 _ = false

-- a denial by S1
abbrev pub is_store_refusal : Answer → Bool
is_store_refusal given = is_rule is_s1 given

-- the verdict before a content is read: a grant; or to send the content of that name, or to receive it
pub data Plan : Type 0 where
  grants : Grant → Plan
  sends : (name : List ℕ) (size : ℕ) → Plan
  receives : (name : List ℕ) → Plan
