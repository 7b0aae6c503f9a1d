-- Push checks: whether a user may push each path of a push.
use Rattle.std.specs.Prelude.{ℕ, ◌&&◌, List, find, map, Option, Some, None, bytes_eq, if◌then◌else◌}
use Rattle.model.specs.declared.Right.TheVariants as right
use Rattle.model.specs.Policy.{Policy, Question, Decision, allowed, denied, decide}
use Rattle.model.specs.World.{World, Lock}
use Rattle.model.specs.RepoState.{locks_of}
use Rattle.model.specs.Callers.{is_own}

-- a push: who pushes, and to which ref of which repository
pub record Push : Type 0 where
  pub user : List ℕ
  pub repo : List ℕ
  pub ref : List ℕ

-- the verdict on a path: a row of the policy denies it, row 0 if no row matches; or another user's lock is on it; or it
-- may be pushed
pub data PushVerdict : Type 0 where
  denied_by : ℕ → PushVerdict
  locked_by : List ℕ → ℕ → PushVerdict
  free : PushVerdict

-- may the user push this path to the ref
abbrev pub path_question : Push → List ℕ → Question
path_question push path =
    record { user = push.user; repo = push.repo; right = right.Push; ref = Some push.ref; path = Some path }

-- the lock on the path of the ref
abbrev pub lock_on_path : World → Push → List ℕ → Option Lock
lock_on_path world push path =
    find (λ l. bytes_eq l.ref push.ref && bytes_eq l.path path) (locks_of push.repo world)

-- a lock is in the way of every user but its owner
abbrev pub verdict_by_lock : List ℕ → Option Lock → PushVerdict
verdict_by_lock user None = free
verdict_by_lock user (Some l) = if is_own user l then free else locked_by l.owner l.id

-- a denial by the policy comes before a lock
abbrev pub verdict_by : Decision → List ℕ → Option Lock → PushVerdict
verdict_by (denied n) user found = denied_by n
verdict_by (allowed n) user found = verdict_by_lock user found

-- the verdict on a path
abbrev pub path_verdict : Policy → World → Push → List ℕ → PushVerdict
path_verdict policy world push path =
    verdict_by (decide policy (path_question push path)) push.user (lock_on_path world push path)

-- the verdict on each path, in their order
abbrev pub push_verdicts : Policy → World → Push → List (List ℕ) → List PushVerdict
push_verdicts policy world push paths = map (path_verdict policy world push) paths
