-- The warnings of a policy.
use Rattle.std.specs.Prelude.{ℕ, ◌+◌, nat_lt, List, [], ◌∷◌, ◌++◌, if◌then◌else◌}
use Rattle.model.specs.Policy.{Policy, Row}
use Rattle.policy_review.specs.declared.doubts.EntryDoubt.{EntryDoubt}
use Rattle.policy_review.specs.declared.doubts.EntryDoubt.TheVariants.{NeverAllowed, NotServed, StarInPath}
use Rattle.policy_review.specs.declared.doubts.RightDoubt.{RightDoubt}
use Rattle.policy_review.specs.declared.doubts.RightDoubt.TheVariants.{PullWithRefs, PullWithPaths, PushWithPaths}
use Rattle.policy_review.specs.Doubts.{is_entry_doubtful, is_right_doubtful}

-- a warning
pub data Warning : Type 0 where
  -- tokens are valid for this many seconds, which is short
  short_token : ℕ → Warning
  -- the row of this number has an entry that is doubtful
  of_entry : ℕ → EntryDoubt → List ℕ → Warning
  -- the row of this number has a right that is doubtful
  of_right : ℕ → RightDoubt → Warning

-- the shortest life of a token without a warning, in seconds
abbrev pub shortest_life : ℕ
shortest_life = 60

-- a warning if the life of a token is short
abbrev pub token_warnings : ℕ → List Warning
token_warnings seconds = if nat_lt seconds shortest_life then short_token seconds ∷ [] else []

-- a warning for each doubtful entry of row number n, in their order
abbrev pub entry_warnings : Policy → ℕ → EntryDoubt → List (List ℕ) → List Warning
entry_warnings policy n doubt [] = []
entry_warnings policy n doubt (entry ∷ entries) =
    if is_entry_doubtful policy doubt entry
    then of_entry n doubt entry ∷ entry_warnings policy n doubt entries
    else entry_warnings policy n doubt entries

-- a warning if the right is doubtful in row number n
abbrev pub right_warning : ℕ → Row → RightDoubt → List Warning
right_warning n row doubt = if is_right_doubtful row doubt then of_right n doubt ∷ [] else []

-- the warnings of row number n: of its users, its repositories, its paths, and its rights
abbrev pub row_warnings : Policy → ℕ → Row → List Warning
row_warnings policy n row =
    entry_warnings policy n NeverAllowed row.users
    ++ entry_warnings policy n NotServed row.repos
    ++ entry_warnings policy n StarInPath row.paths
    ++ right_warning n row PullWithRefs
    ++ right_warning n row PullWithPaths
    ++ right_warning n row PushWithPaths

-- the warnings of the rows from number n on
abbrev pub rows_warnings : Policy → ℕ → List Row → List Warning
rows_warnings policy n [] = []
rows_warnings policy n (row ∷ rows) = row_warnings policy n row ++ rows_warnings policy (n + 1) rows

-- the warnings of a policy, in the order of the file
abbrev pub warnings : Policy → List Warning
warnings policy = token_warnings policy.token_seconds ++ rows_warnings policy 1 policy.rows
