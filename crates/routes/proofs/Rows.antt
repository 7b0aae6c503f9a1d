-- Rows of a table, part by part; and tests of a table.
use Rattle.routes.proofs.Prelude.{ℕ, Bool, true, false, ◌&&◌, ◌||◌, ◌==◌, not, nat_lt, List, [], ◌∷◌, ◌++◌, length, Option, Some, None, bytes_eq, cond, list_all, or_else, Segment, literal, parameter}

-- the parts of a path, each after its slash
abbrev pub joined : List (List ℕ) → List ℕ
joined [] = []
joined (part ∷ parts) = 47 ∷ (part ++ joined parts)

-- ---- which tables are good

-- a byte other than a slash
abbrev pub is_clean_byte : ℕ → Bool
is_clean_byte b = nat_lt b 256 && not (b == 47)

-- a text without a slash
abbrev pub is_clean : List ℕ → Bool
is_clean text = list_all is_clean_byte text

-- the literals are not empty, and have no slash
abbrev pub is_good : List Segment → Bool
is_good [] = true
is_good (literal text ∷ parts) = (nat_lt 0 (length text) && is_clean text) && is_good parts
is_good (parameter ∷ parts) = is_good parts

module _ {K : Type 0} where
  -- the same for all rows
  abbrev pub are_good : List (List Segment × K) → Bool
  are_good [] = true
  are_good ((parts, key) ∷ rows) = is_good parts && are_good rows

-- two rows that no path fits both: their lengths differ, or they have two texts at one place
abbrev pub are_apart : List Segment → List Segment → Bool
are_apart [] [] = false
are_apart [] (p ∷ ps) = true
are_apart (p ∷ ps) [] = true
are_apart (literal a ∷ ps) (literal b ∷ qs) = not (bytes_eq a b) || are_apart ps qs
are_apart (literal a ∷ ps) (parameter ∷ qs) = are_apart ps qs
are_apart (parameter ∷ ps) (literal b ∷ qs) = are_apart ps qs
are_apart (parameter ∷ ps) (parameter ∷ qs) = are_apart ps qs

module _ {K : Type 0} where
  -- a row is apart from each of these rows
  abbrev pub is_apart_from : List Segment → List (List Segment × K) → Bool
  is_apart_from ps [] = true
  is_apart_from ps ((qs, key) ∷ rows) = are_apart ps qs && is_apart_from ps rows

  -- any two rows are apart
  abbrev pub are_all_apart : List (List Segment × K) → Bool
  are_all_apart [] = true
  are_all_apart ((ps, key) ∷ rows) = is_apart_from ps rows && are_all_apart rows

-- ---- the row of a path

module _ {K : Type 0} where
  -- the rows that end here
  abbrev pub ended : List (List Segment × K) → Option K
  ended [] = None
  ended (([], key) ∷ rows) = Some key
  ended ((_ ∷ _, key) ∷ rows) = ended rows

  -- the rest of the rows that continue with this part
  abbrev pub after_literal : List ℕ → List (List Segment × K) → List (List Segment × K)
  after_literal part [] = []
  after_literal part (([], key) ∷ rows) = after_literal part rows
  after_literal part ((literal text ∷ parts, key) ∷ rows) = cond (bytes_eq part text) ((parts, key) ∷ after_literal part rows) (after_literal part rows)
  after_literal part ((parameter ∷ parts, key) ∷ rows) = after_literal part rows

  -- the rest of the rows that continue with a parameter
  abbrev pub after_parameter : List (List Segment × K) → List (List Segment × K)
  after_parameter [] = []
  after_parameter (([], key) ∷ rows) = after_parameter rows
  after_parameter ((literal text ∷ parts, key) ∷ rows) = after_parameter rows
  after_parameter ((parameter ∷ parts, key) ∷ rows) = (parts, key) ∷ after_parameter rows

  -- the row of a path, part by part: a literal first, then a parameter
  abbrev pub row_by_parts : List (List Segment × K) → List (List ℕ) → Option K
  row_by_parts rows [] = ended rows
  row_by_parts rows ([] ∷ parts) = None
  row_by_parts rows ((b ∷ part) ∷ parts) = or_else (row_by_parts (after_literal (b ∷ part) rows) parts) (row_by_parts (after_parameter rows) parts)
