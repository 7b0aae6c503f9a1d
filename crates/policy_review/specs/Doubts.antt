-- What is dubious about the entries and the rights of a row.
use Rattle.std.specs.Prelude.{ℕ, Bool, not, ◌&&◌, ◌==◌, List}
use Rattle.std.specs.List.{list_any}
use Rattle.model.specs.declared.Effect.{Effect}
use Rattle.model.specs.declared.Effect.TheVariants as effect
use Rattle.model.specs.declared.Right.{Right}
use Rattle.model.specs.declared.Right.TheVariants as right
use Rattle.model.specs.Policy.{Policy, Repo, Row, is_any, holds, held_by, same_right}
use Rattle.policy_review.specs.declared.doubts.EntryDoubt.{EntryDoubt}
use Rattle.policy_review.specs.declared.doubts.EntryDoubt.TheVariants.{NeverAllowed, NotServed, StarInPath}
use Rattle.policy_review.specs.declared.doubts.RightDoubt.{RightDoubt}
use Rattle.policy_review.specs.declared.doubts.RightDoubt.TheVariants.{PullWithRefs, PullWithPaths, PushWithPaths}

-- the byte `*`
abbrev pub star : ℕ
star = 42

-- the effect is to allow
abbrev pub is_allow : Effect → Bool
is_allow effect.Allow = Bool.true
is_allow effect.Deny = Bool.false

-- the row allows the user something
abbrev pub allows : List ℕ → Row → Bool
allows user row = is_allow row.effect && held_by row.users user

-- some row allows the user something
abbrev pub is_ever_allowed : List Row → List ℕ → Bool
is_ever_allowed rows user = list_any (allows user) rows

-- the entry matches a repository of the file
abbrev pub is_served : List Repo → List ℕ → Bool
is_served repos entry = list_any (λ repo. holds repo.name entry) repos

-- one of the bytes is `*`
abbrev pub has_star : List ℕ → Bool
has_star text = list_any (λ b. b == star) text

-- a user whom no row allows anything; an entry that matches no repository of the file; `*` within a path
abbrev pub is_entry_doubtful : Policy → EntryDoubt → List ℕ → Bool
is_entry_doubtful policy NeverAllowed entry = not (is_any entry) && not (is_ever_allowed policy.rows entry)
is_entry_doubtful policy NotServed entry = not (is_any entry) && not (is_served policy.repos entry)
is_entry_doubtful policy StarInPath entry = not (is_any entry) && has_star entry

-- the row has the right
abbrev pub has_right : Right → Row → Bool
has_right asked row = list_any (same_right asked) row.rights

-- the entries match a question that does not name this part
abbrev pub has_any : List (List ℕ) → Bool
has_any entries = list_any is_any entries

-- the row has the right, and does not match the requests that ask it
abbrev pub is_right_doubtful : Row → RightDoubt → Bool
is_right_doubtful row PullWithRefs = has_right right.Pull row && not (has_any row.refs)
is_right_doubtful row PullWithPaths = has_right right.Pull row && not (has_any row.paths)
is_right_doubtful row PushWithPaths = has_right right.Push row && not (has_any row.paths)
