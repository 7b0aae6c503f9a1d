-- Tables with aligned columns.
use Rattle.std.specs.Prelude.{ℕ, ◌-◌, ◌++◌, List, [], ◌∷◌, flat_map, fold, length, max, replicate}
use Rattle.operator.specs.Listed.{line}

-- spaces from the end of the text to the width of its column
abbrev pub gap : (width : ℕ) (text : List ℕ) → List ℕ
gap width text = replicate (width - length text) 32

-- a text at the right of its column, with two spaces before the column
abbrev pub at_right : (width : ℕ) (text : List ℕ) → List ℕ
at_right width text = 32 ∷ 32 ∷ gap width text ++ text

-- texts at the right of their columns
abbrev pub to_right : (widths : List ℕ) (texts : List (List ℕ)) → List ℕ
to_right (width ∷ widths) (text ∷ texts) = at_right width text ++ to_right widths texts
to_right _ _ = []

-- the line of a row: the first text is at the left of its column
abbrev pub aligned : (widths : List ℕ) (texts : List (List ℕ)) → List ℕ
aligned (width ∷ widths) (text ∷ texts) = text ++ gap width text ++ to_right widths texts
aligned _ _ = []

-- the widths of columns that are also as wide as these texts
abbrev pub widened : (widths : List ℕ) (texts : List (List ℕ)) → List ℕ
widened (width ∷ widths) (text ∷ texts) = max width (length text) ∷ widened widths texts
widened widths _ = widths

-- the widths of the eight columns: of each the length of its longest text
abbrev pub widths_of : (rows : List (List (List ℕ))) → List ℕ
widths_of rows = fold widened (replicate 8 0) rows

-- a line of headings and a line for each row, in columns that are as wide as their longest texts
abbrev pub table_lines : (headings : List (List ℕ)) (rows : List (List (List ℕ))) → List ℕ
table_lines headings rows =
    flat_map (λ row. line (aligned (widened (widths_of rows) headings) row)) (headings ∷ rows)
