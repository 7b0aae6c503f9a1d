-- One step of the server: the answer to a message, and the world after it.
use Rattle.std.specs.Prelude.{◌≡◌, ℕ, ◌<◌, ◌≤◌, length, Bool, true, false, not, ◌&&◌, ◌||◌, List, [], ◌∷◌, Option, Some, None, Result, Ok, Err, codes, if◌then◌else◌, IsTrue, ⊤}
use Rattle.httparse.specs.Grammar.{RequestHead}
use Rattle.names.specs.Texts.{last_moment, is_hex_64, is_repo}
use Rattle.names.specs.declared.rules.Rule.{Rule}
use Rattle.names.specs.declared.rules.Rule.TheVariants as rule
use Rattle.model.specs.Policy.{IsPolicy}
use Rattle.model.specs.World.{World, Token, with_lock, without_lock, with_object}
use Rattle.model.specs.Heads.{Target, head_verdict, body_length, is_method, methods_at, asks_close}
use Rattle.model.specs.Cases.{Setting}
use Rattle.model.specs.Answers.{Denial, by_rule, Answer, Grant, stores, makes_lock, releases, store_refusal, is_rule, is_store_refusal}
use Rattle.model.specs.Verdict.{verdict, early_verdict}
use Rattle.model.specs.Operator.{TokenRequest, IsTokenRequest, TokenDenial, Removal, issue_outcome, prune_outcome, retire_outcome, Reports}

-- ---- messages

-- a head, the bytes of its body that are there, and whether they are all; or bytes that are no head
pub data Message : Type 0 where
  message : RequestHead → (body : List ℕ) → (whole : Bool) → Message
  bad_head : Message

-- the body is as long as the head says, or shorter if it is cut off; the body of a refused head is empty and whole
abbrev pub IsMessage : Message → Type 0
IsMessage (message head body true) = length body ≡ body_length head
IsMessage (message head body false) = length body < body_length head
IsMessage bad_head = ⊤

-- the repository of a target, if the head has one
abbrev pub repo_of : Result Target Rule → Option (List ℕ)
repo_of (Ok target) = Some target.repo
repo_of (Err rule) = None

-- the repository that a message asks about, if its head is not refused
abbrev pub repo_asked : Message → Option (List ℕ)
repo_asked (message head body whole) = repo_of (head_verdict head)
repo_asked bad_head = None

-- a denial as the answer, and no answer if there is none
abbrev pub denial_alone : {A : Type 0} → Result A Denial → Option Answer
denial_alone (Ok x) = None
denial_alone (Err denial) = Some (Err denial)

-- the verdict on a message; if its body is cut off, only what denies it before the body is an answer
abbrev pub verdict_on : World → Setting → Message → Option Answer
verdict_on world setting (message head body true) = Some (verdict world setting head body)
verdict_on world setting (message head body false) = denial_alone (early_verdict world setting head)
verdict_on world setting bad_head = Some (Err (by_rule rule.H1))

-- ---- the world after an answer

-- the world after a grant
abbrev pub after_grant : World → Grant → World
after_grant world (stores o) = with_object o world
after_grant world (makes_lock l) = with_lock l world
after_grant world (releases l) = without_lock l world
after_grant world _ = world

-- the world after an answer, or after none
abbrev pub after : World → Option Answer → World
after world (Some (Ok grant)) = after_grant world grant
after world _ = world

-- ---- exchanges

-- a message and its answer, if it has one, under a policy and at a moment
pub record Exchange : Type 0 where
  pub setting : Setting
  pub asked : Message
  pub given : Option Answer

-- the refusals of a head before its route is known: H1 to H5
abbrev pub is_early : Rule → Bool
is_early rule.H1 = true
is_early rule.H2 = true
is_early rule.H3 = true
is_early rule.H4 = true
is_early rule.H5 = true
is_early _ = false

-- the refusals of a head: H1 to H8
abbrev pub is_of_head : Rule → Bool
is_of_head rule.H6 = true
is_of_head rule.H7 = true
is_of_head rule.H8 = true
is_of_head r = is_early r

-- an answer that needs neither store nor memory, so neither can refuse
abbrev pub is_sure : Option Answer → Bool
is_sure (Some (Err (by_rule rule))) = is_early rule
is_sure _ = false

-- the verdict on the message of an exchange
abbrev pub judgement : World → Exchange → Option Answer
judgement world e = verdict_on world e.setting e.asked

-- the answer is the verdict, and the world is the one after it; or the store refused, and nothing changed
pub data Carries (old : World) (e : Exchange) (new : World) : Type 0 where
  by_verdict : e.given ≡ judgement old e → new ≡ after old (judgement old e) → Carries old e new
  by_refusal : e.given ≡ Some store_refusal → is_sure (judgement old e) ≡ false → new ≡ old → Carries old e new

-- the exchange leads from one world to another
pub record IsExchange (old : World) (e : Exchange) (new : World) : Type 0 where
  pub policy : IsPolicy e.setting.policy
  pub now : e.setting.now ≤ last_moment
  pub asked : IsMessage e.asked
  pub carries : Carries old e new

-- ---- runs

-- a message is answered; or the operator issues a token, removes those not valid at a moment, or removes an object for
-- good, and gets a report
pub data Event : Type 0 where
  exchanged : Exchange → Event
  issues : TokenRequest → (given : Option (Result Token TokenDenial)) → Event
  prunes : (now : ℕ) → (given : Option ℕ) → Event
  retires : (repo name : List ℕ) → (given : Option Removal) → Event

-- the event leads from one world to another
abbrev pub IsStep : World → Event → World → Type 0
IsStep old (exchanged e) new = IsExchange old e new
IsStep old (issues asked given) new = IsTokenRequest asked × Reports given (issue_outcome old asked) old new
IsStep old (prunes now given) new = (now ≤ last_moment) × Reports given (prune_outcome old now) old new
IsStep old (retires repo name given) new =
    IsTrue (is_repo repo) × IsTrue (is_hex_64 name) × Reports given (retire_outcome old repo name) old new

-- the events lead from the old world to the new one, step by step
abbrev pub Run : World → List Event → World → Type 0
Run old [] new = new ≡ old
Run old (event ∷ events) new = (mid : World) × IsStep old event mid × Run mid events new

-- ---- when the connection closes

-- the rule X2
abbrev pub is_x2 : Rule → Bool
is_x2 rule.X2 = true
is_x2 _ = false

-- the rule H7
abbrev pub is_h7 : Rule → Bool
is_h7 rule.H7 = true
is_h7 _ = false

-- the answer is a denial
abbrev pub is_denial : Answer → Bool
is_denial (Ok grant) = false
is_denial (Err denial) = true

-- an upload is denied before its body is read; X2 is the one denial that comes after it
abbrev pub denies_put : RequestHead → Answer → Bool
denies_put head given = is_method (codes "PUT") head && is_denial given && not (is_rule is_x2 given)

-- the server closes the connection after this answer
abbrev pub closes_after : Message → Answer → Bool
closes_after (message head body whole) given =
    asks_close head || is_rule is_of_head given || is_store_refusal given || denies_put head given
closes_after bad_head given = true

-- if there is no answer, the stream has ended, and the server does not close
abbrev pub closes_if : Message → Option Answer → Bool
closes_if asked (Some given) = closes_after asked given
closes_if asked None = false

-- the server closes the connection after this exchange
abbrev pub closes : Exchange → Bool
closes e = closes_if e.asked e.given

-- the methods that the reply lists: with H7 those of the route, and else none
abbrev pub allow : Message → Answer → List ℕ
allow (message head body whole) given = if is_rule is_h7 given then methods_at head.target else []
allow bad_head given = []
