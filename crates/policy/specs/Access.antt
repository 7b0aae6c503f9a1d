-- What Git asks before it begins: whether a user may pull from a repository, or push something to it.
use Rattle.std.specs.Prelude.{◌≡◌, ℕ, Bool, true, false, ◌&&◌, ◌||◌, List, Option, Some, None}
use Rattle.std.specs.List.{find, list_any}
use Rattle.model.specs.declared.Right.TheVariants as right
use Rattle.model.specs.Callers.{is_allowed, pull_question}
use Rattle.model.specs.Policy.{Policy, Row, Question, decide}
use Rattle.model.specs.Views.{is_allow, may_allow_push}
use Rattle.policy.specs.Applicable.{applies, covers_place}
use Rattle.policy.specs.declared.access.Access.{Access}
use Rattle.policy.specs.declared.access.Access.TheVariants.{Pull, Push}

-- may the user push to this ref and this path of the repository
abbrev pub push_to : (user repo : List ℕ) → (ref path : Option (List ℕ)) → Question
push_to user repo ref path = record { user = user; repo = repo; right = right.Push; ref = ref; path = path }

-- a row that applies to a question settles whether anything is allowed, if it allows, or holds every ref and every path
abbrev pub settles : Question → Row → Bool
settles q row = applies q row && (is_allow row.effect || covers_place q row)

-- the row, if there is one, allows
abbrev pub is_allowing : Option Row → Bool
is_allowing (Some row) = is_allow row.effect
is_allowing None = false

-- the user may push something to the repository: the first row that settles it allows
abbrev pub may_push_something : Policy → (user repo : List ℕ) → Bool
may_push_something policy user repo = is_allowing (find (settles (push_to user repo None None)) policy.rows)

-- Git may begin this for the user
abbrev pub may : Access → Policy → (user repo : List ℕ) → Bool
may Pull policy user repo = is_allowed (decide policy (pull_question user repo))
may Push policy user repo = may_push_something policy user repo

-- whoever may push nothing is denied every push; whoever may push something has a row that may allow it
pub record AccessIsRight : Type 0 where
  pub refused : (policy : Policy) (user repo : List ℕ) → may_push_something policy user repo ≡ false
      → (ref path : Option (List ℕ)) → is_allowed (decide policy (push_to user repo ref path)) ≡ false
  pub given : (policy : Policy) (user repo : List ℕ) → may_push_something policy user repo ≡ true
      → list_any (may_allow_push user repo) policy.rows ≡ true
