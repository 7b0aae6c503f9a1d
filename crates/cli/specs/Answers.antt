-- What the command `policy` answers, the lines that it prints, and those of `migrate`.
use Rattle.std.specs.Prelude.{ℕ, ◌+◌, ◌-◌, ◌==◌, Bool, true, false, List, [], ◌∷◌, Option, Some, None, codes, decimal, ◌++◌, slice_get, if◌then◌else◌}
use Rattle.model.specs.Policy.{Row, Decision, allowed, denied}
use Rattle.policy.specs.Covering.{covers}
use Rattle.tables.specs.declared.rows.Migrated.TheVariants.{From1, Already}
use Rattle.cli.specs.declared.opening.Found.{Found}
use Rattle.cli.specs.declared.opening.Found.TheVariants.{New, Rows, Places}

-- the question is allowed
abbrev pub is_allowed : Decision → Bool
is_allowed (allowed _) = true
is_allowed (denied _) = false

-- the number of the row that decides
abbrev pub number_of : Decision → ℕ
number_of (allowed n) = n
number_of (denied n) = n

-- the row of that number, counted from 1
abbrev pub row_numbered : ℕ → List Row → Option Row
row_numbered n rows = if n == 0 then None else slice_get rows (n - 1)

-- the number of the first of the earlier rows that covers the row; they are numbered from n on
abbrev pub covering_from : ℕ → List Row → Row → Option ℕ
covering_from n [] row = None
covering_from n (other ∷ earlier) row =
    if covers other row then Some n else covering_from (n + 1) earlier row

-- the number of the first of the earlier rows that covers the row, counted from 1
abbrev pub covering_in : List Row → Row → Option ℕ
covering_in earlier row = covering_from 1 earlier row

-- the line with the row that decides a question
abbrev pub decision_line : Decision → List ℕ
decision_line (allowed row) = codes "allowed by row " ++ decimal row
decision_line (denied row) = codes "denied by row " ++ decimal row

-- the line before a row: its number, and the number of an earlier row that covers it
abbrev pub row_line : ℕ → Option ℕ → List ℕ
row_line row None = codes "row " ++ decimal row
row_line row (Some earlier) =
    codes "row " ++ decimal row ++ codes ": never reached, row " ++ decimal earlier ++ codes " covers it"

-- the line of a database that was migrated, or had version 2 or 3 already
abbrev pub migrated_line : Found → List ℕ
migrated_line New = codes "already version 2" ++ 10 ∷ []
migrated_line (Rows From1) = codes "migrated from version 1" ++ 10 ∷ []
migrated_line (Rows Already) = codes "already version 2" ++ 10 ∷ []
migrated_line Places = codes "already version 3" ++ 10 ∷ []
