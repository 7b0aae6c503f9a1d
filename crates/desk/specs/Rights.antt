-- A caller in a repository, and why a request is denied, in the terms of the definitions.
use Rattle.std.specs.Prelude.{◌≡◌, ℕ, Bool, ◌||◌, List, Some, None, Result, Ok, Err}
use Rattle.names.specs.Names.{path_text, ref_text, user_text}
use Rattle.model.specs.World.{World, Lock}
use Rattle.model.specs.declared.Right.{Right}
use Rattle.model.specs.declared.Right.TheVariants as right
use Rattle.model.specs.Policy as model
use Rattle.model.specs.Policy.{decide}
use Rattle.model.specs.Callers.{Caller, is_allowed, is_own, lock_question}
use Rattle.model.specs.Cases as model_case
use Rattle.model.specs.Cases.{case_in}
use Rattle.model.specs.Answers as answer
use Rattle.model.specs.Answers.{by_rule, by_row}
use Rattle.forms.specs.Replies.{denial_status}
use Rattle.policy.specs.Applicable.{question_on}
use Rattle.policy.specs.Values.{policy_view, repo_view}
use Rattle.tables.specs.declared.rows.LockRow.{LockRow}
use Rattle.desk.specs.Asking.{setting_of}
use Rattle.desk.specs.declared.cases.Case.{Case}
use Rattle.desk.specs.declared.cases.Denial.{Denial}
use Rattle.desk.specs.declared.cases.Denial.TheVariants.{Rule, Row}

-- the policy
abbrev pub case_policy : Case → model.Policy
case_policy case = policy_view case.policy.now

-- the repository
abbrev pub case_repo : Case → model.Repo
case_repo case = repo_view case.repo.now

-- the user
abbrev pub case_user : Case → List ℕ
case_user case = user_text case.user.now

-- the case of this caller in the world
abbrev pub case_seen : World → Case → Caller → model_case.Case
case_seen world case who = case_in world (setting_of case.policy.now case.now) who (case_repo case)

-- the caller of the definitions is the user of the case
abbrev pub IsUserOf : Case → Caller → Type 0
IsUserOf case who = case_user case ≡ who.user

-- the same, with the token that the caller presented
pub record IsCallerOf (case : Case) (who : Caller) : Type 0 where
  pub user : IsUserOf case who
  pub token : case.token.now ≡ who.token
  pub expires : case.expires ≡ who.expires

-- the question whether the caller may list locks, on no ref and no path
abbrev pub list_question : Case → model.Question
list_question case = record { user = case_user case; repo = (case_repo case).name; right = right.List; ref = None; path = None }

-- the policy allows on the ref and the path of the lock what the question asks
abbrev pub allow_on : model.Policy → model.Question → LockRow → Bool
allow_on policy q row = is_allowed (decide policy (question_on q (Some (ref_text row.ref_name)) (Some (path_text row.path))))

-- the denial
abbrev pub denial_view : Denial → answer.Denial
denial_view (Rule rule) = by_rule rule
denial_view (Row row right status) = by_row row right (denial_status status)

-- the result is that of the definitions: the same value, mapped by `view`, or the same denial
abbrev pub Judges : {X Y : Type 0} → (X → Y) → Result X Denial → Result Y answer.Denial → Type 0
Judges view (Ok x) judged = judged ≡ Ok (view x)
Judges view (Err denial) judged = judged ≡ Err (denial_view denial)
