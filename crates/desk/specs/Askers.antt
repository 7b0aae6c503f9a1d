-- What the policy says of a user in a repository.
use Rattle.std.specs.Prelude.{◌≡◌, ℕ, Bool, ◌||◌, List, None}
use Rattle.names.specs.Names.{repo_text, user_text}
use Rattle.model.specs.World.{Lock}
use Rattle.model.specs.declared.Right.{Right}
use Rattle.model.specs.declared.Right.TheVariants as right
use Rattle.model.specs.Policy as model
use Rattle.model.specs.Policy.{decide}
use Rattle.model.specs.Callers.{is_allowed, is_own, lock_question}
use Rattle.policy.specs.Values.{policy_view, question_view}
use Rattle.policy.specs.declared.applicable.ApplicableRows.{ApplicableRows}
use Rattle.desk.specs.declared.rights.Asker.{Asker}

-- the policy
abbrev pub asker_policy : Asker → model.Policy
asker_policy a = policy_view a.policy.now

-- the user
abbrev pub asker_user : Asker → List ℕ
asker_user a = user_text a.user.now

-- the repository
abbrev pub asker_repo : Asker → List ℕ
asker_repo a = repo_text a.repo.now

-- the user has the right on the ref and the path of the lock
abbrev pub has_right : Asker → Right → Lock → Bool
has_right a right l = is_allowed (decide (asker_policy a) (lock_question right (asker_user a) l))

-- the lock is the user's own, or the user may list or lock it
abbrev pub may_list_or_lock : Asker → Lock → Bool
may_list_or_lock a l = is_own (asker_user a) l || has_right a right.List l || has_right a right.Lock l

-- the question whether the user has the right, on no ref and no path
abbrev pub right_question : Asker → Right → model.Question
right_question a right = record { user = asker_user a; repo = asker_repo a; right = right; ref = None; path = None }

-- the rows of the policy that decide on which refs and paths the user has the right
abbrev pub AreRowsFor : Asker → Right → ApplicableRows → Type 0
AreRowsFor a right rows = (policy_view rows.policy.now ≡ asker_policy a) × (question_view rows.question ≡ right_question a right)
