-- The rows that can decide the questions of one user for one right in one repository.
use Rattle.std.specs.Prelude.{◌≡◌, ℕ, ◌+◌, Bool, ◌&&◌, List, [], ◌∷◌, Option, if◌then◌else◌}
use Rattle.std.specs.List.{list_any, filter}
use Rattle.model.specs.Policy.{Policy, Row, Question, Decision, denied, decision_by, decide, held_by, held_if_named, same_right}

-- a row of the policy with its number
pub record NumberedRow : Type 0 where
  pub number : ℕ
  pub row : Row

-- the rows with their numbers, which begin at n
abbrev pub numbered_from : ℕ → List Row → List NumberedRow
numbered_from n [] = []
numbered_from n (row ∷ rows) = record { number = n; row = row } ∷ numbered_from (n + 1) rows

-- the row holds the user, the repository and the right
abbrev pub applies : Question → Row → Bool
applies q row = held_by row.users q.user && held_by row.repos q.repo && list_any (same_right q.right) row.rights

-- the row holds the ref and the path
abbrev pub covers_place : Question → Row → Bool
covers_place q row = held_if_named row.refs q.ref && held_if_named row.paths q.path

-- the rows that apply, in the order of the file
abbrev pub applicable_rows : Policy → Question → List NumberedRow
applicable_rows policy q = filter (λ numbered. applies q numbered.row) (numbered_from 1 policy.rows)

-- the first of the rows that holds the ref and the path decides
abbrev pub decide_among : List NumberedRow → Question → Decision
decide_among [] q = denied 0
decide_among (numbered ∷ rows) q =
    if covers_place q numbered.row then decision_by numbered.row.effect numbered.number else decide_among rows q

-- the question about another ref and path
abbrev pub question_on : Question → Option (List ℕ) → Option (List ℕ) → Question
question_on q ref path = record q { ref = ref; path = path }

-- the rows that apply to a question are the same for each ref and path, and decide as the policy does
abbrev pub ApplicableRowsDecide : Type 0
ApplicableRowsDecide = (policy : Policy) (q : Question) (ref path : Option (List ℕ))
    → decide_among (applicable_rows policy q) (question_on q ref path) ≡ decide policy (question_on q ref path)
