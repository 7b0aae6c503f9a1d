-- Rows that decide no question, since an earlier row matches each question that they match.
use Rattle.std.specs.Prelude.{◌≡◌, ℕ, Bool, true, ◌&&◌, List}
use Rattle.std.specs.List.{list_all, list_any}
use Rattle.model.specs.declared.Right.{Right}
use Rattle.model.specs.Policy.{Row, Question, held_by, matches, same_right}

-- each of the other patterns, read as a text, is held: so is each text that it holds
abbrev pub hold_all : List (List ℕ) → List (List ℕ) → Bool
hold_all patterns others = list_all (held_by patterns) others

-- each of the other rights is one of these
abbrev pub have_all : List Right → List Right → Bool
have_all rights others = list_all (λ r. list_any (same_right r) rights) others

-- each list of the row has all that the same list of the other row has
abbrev pub covers : Row → Row → Bool
covers row other =
    hold_all row.users other.users && hold_all row.repos other.repos && hold_all row.refs other.refs
    && hold_all row.paths other.paths && have_all row.rights other.rights

-- a row matches each question that a row matches which it covers
abbrev pub CoveringRowMatches : Type 0
CoveringRowMatches = (row other : Row) (q : Question) → covers row other ≡ true → matches other q ≡ true → matches row q ≡ true
