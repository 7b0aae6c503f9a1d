-- What a user can learn of a repository; nothing else decides the replies to that user.
use Rattle.std.specs.Prelude.{◌≡◌, ℕ, Bool, true, false, ◌&&◌, ◌||◌, nat_lt, List, [], length, map, filter, find, Option, Some, None, Result, Ok, Err, bytes_eq, if◌then◌else◌, ℤ, pos, ◌-ℤ◌}
use Rattle.std.specs.List.{list_any}
use Rattle.sha2.specs.Sha256.{sha256}
use Rattle.names.specs.declared.rules.Rule.TheVariants as rule
use Rattle.model.specs.declared.Right.TheVariants as right
use Rattle.model.specs.declared.Effect.{Effect}
use Rattle.model.specs.declared.Effect.TheVariants as effect
use Rattle.names.specs.declared.operations.Operation.{Operation}
use Rattle.model.specs.Reading.{◌>>=◌, check, ok_or}
use Rattle.model.specs.Policy.{Policy, Repo, Row, held_by, same_right, repo_named, decide}
use Rattle.model.specs.World.{World, Token, total}
use Rattle.model.specs.Orders.{sort_by, text_before}
use Rattle.model.specs.RepoState.{RepoState, objects_of, retired_of, locks_of}
use Rattle.model.specs.Forms.{Request}
use Rattle.model.specs.Callers.{Caller, bearer, pull_question, is_allowed, sees}
use Rattle.model.specs.Cases.{Case, DeskRequest}
use Rattle.model.specs.Answers.{Denial, by_rules, Plan, grants, sends, receives}
use Rattle.model.specs.Objects.{content_verdict}
use Rattle.model.specs.Verdict.{plan_for, is_covered}
use Rattle.model.specs.Replies.{Reply, reply, reply_of, grant_reply, content}

-- a token of the user, by the digest of its text
pub record OwnToken : Type 0 where
  pub digest : List ℕ
  pub operation : Operation
  pub expires : ℕ

-- a user, a repository, the policy, the user's tokens there, and what the user can see of the repository
pub record View : Type 0 where
  pub user : List ℕ
  pub repo : List ℕ
  pub policy : Policy
  pub tokens : List OwnToken
  pub state : RepoState

-- ---- the view of a world

-- a token without its text
abbrev pub own_token : Token → OwnToken
own_token t = record { digest = sha256 t.text; operation = t.operation; expires = t.expires }

-- the token was issued to the user for the repository
abbrev pub is_issued_to : List ℕ → List ℕ → Token → Bool
is_issued_to user repo t = bytes_eq t.user user && bytes_eq t.repo repo

-- the tokens of a user for a repository, by digest
abbrev pub tokens_of : List ℕ → List ℕ → World → List OwnToken
tokens_of user repo world =
    sort_by (λ a b. text_before a.digest b.digest) (map own_token (filter (is_issued_to user repo) world.tokens))

-- the row allows what it matches
abbrev pub is_allow : Effect → Bool
is_allow effect.Allow = true
is_allow effect.Deny = false

-- the row may allow the user a push to some ref of the repository
abbrev pub may_allow_push : List ℕ → List ℕ → Row → Bool
may_allow_push user repo row =
    is_allow row.effect && held_by row.users user && held_by row.repos repo
    && list_any (same_right right.Push) row.rights

-- names and sizes, and retired names, are seen by those who may pull, or may push to some ref
abbrev pub sees_objects : Policy → List ℕ → List ℕ → Bool
sees_objects policy user repo =
    is_allowed (decide policy (pull_question user repo)) || list_any (may_allow_push user repo) policy.rows

-- the quota less the stored total; 0 if the policy has no such repository
abbrev pub room_in : Option Repo → World → ℤ
room_in (Some repo) world = pos repo.quota -ℤ pos (total repo.name world)
room_in None world = pos 0

-- what the user sees of the repository
abbrev pub visible_state : World → Policy → List ℕ → List ℕ → RepoState
visible_state world policy user repo = record {
  objects = if sees_objects policy user repo then objects_of repo world else [];
  retired = if sees_objects policy user repo then retired_of repo world else [];
  locks = filter (sees policy user) (locks_of repo world);
  made = world.made repo;
  room = room_in (repo_named repo policy) world;
}

-- the view that a user has of a repository
abbrev pub view_of : World → Policy → List ℕ → List ℕ → View
view_of world policy user repo = record {
  user = user;
  repo = repo;
  policy = policy;
  tokens = tokens_of user repo world;
  state = visible_state world policy user repo;
}

-- every user has the same view of the repository in both worlds, under any policy
abbrev pub SameViews : List ℕ → World → World → Type 0
SameViews repo old new = (policy : Policy) (user : List ℕ) → view_of new policy user repo ≡ view_of old policy user repo

-- ---- the replies that a view foretells

-- the token that is presented is not a valid token of the view
pub data NoCaller : Type 0 where
  no_caller : NoCaller

-- a request with the values of Authorization and its whole body
pub record CallerRequest : Type 0 where
  pub bearers : List (List ℕ)
  pub request : Request
  pub body : List ℕ

-- the request as it comes to the desk, in a repository
abbrev pub to_desk : List ℕ → CallerRequest → DeskRequest
to_desk repo asked =
    record { bearers = asked.bearers; repo = repo; left = length asked.body; request = Ok asked.request }

-- the caller whose token is presented, if it is a valid one of the view
abbrev pub caller_in : View → ℕ → List (List ℕ) → Result Caller NoCaller
caller_in view now bearers = do
  text ← ok_or (bearer bearers) no_caller
  t ← ok_or (find (λ t. bytes_eq t.digest (sha256 text)) view.tokens) no_caller
  good ← check (nat_lt now t.expires) no_caller
  Ok (record { token = text; user = view.user; repo = view.repo; operation = t.operation; expires = t.expires })

-- the case of a caller, by what the view shows
abbrev pub case_seen : View → ℕ → Caller → Repo → Case
case_seen view now caller repo =
    record { setting = record { policy = view.policy; now = now }; caller = caller; repo = repo; state = view.state }

-- the first refusal of the request, or the plan, by what the view shows
abbrev pub plan_in : View → ℕ → Caller → CallerRequest → Result Plan Denial
plan_in view now caller asked = do
  repo ← by_rules (ok_or (repo_named view.repo view.policy) rule.R1)
  covered ← by_rules (check (is_covered caller asked.request) rule.A5)
  plan_for (case_seen view now caller repo) (length asked.body) asked.request

-- the reply that a plan leads to, with the body that an upload has; a download's reply names the object and its size
abbrev pub plan_reply : List ℕ → List ℕ → Result Plan Denial → Reply
plan_reply repo body (Ok (grants grant)) = grant_reply grant
plan_reply repo body (Ok (sends name size)) = reply 200 (content name size)
plan_reply repo body (Ok (receives name)) =
    reply_of (content_verdict (record { repo = repo; name = name; bytes = body }))
plan_reply repo body (Err denial) = reply_of (Err denial)

-- the reply to a request of the user in the repository, or that there is no caller
abbrev pub foresee : View → ℕ → CallerRequest → Result Reply NoCaller
foresee view now asked = do
  caller ← caller_in view now asked.bearers
  Ok (plan_reply view.repo asked.body (plan_in view now caller asked))
