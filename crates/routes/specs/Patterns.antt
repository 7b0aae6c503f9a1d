-- The patterns of the router, and the row of a table that a path fits.
use Rattle.std.specs.Prelude.{ℕ, Bool, not, List, [], ◌∷◌, ◌++◌, Option, Some, None, cond}
use Rattle.std.specs.List.{list_all}
use Rattle.matchit.specs.Rows.{RowsOf, param_token}
use Rattle.names.specs.Texts.{is_empty, slash}
use Rattle.model.specs.Heads.{Segment, literal, parameter, fits}

-- the text is not empty
abbrev pub is_some_text : List ℕ → Bool
is_some_text text = not (is_empty text)

-- the tokens of a pattern: each part after its slash
abbrev pub tokens : List Segment → List ℕ
tokens [] = []
tokens (literal text ∷ parts) = slash ∷ (text ++ tokens parts)
tokens (parameter ∷ parts) = slash ∷ param_token ∷ tokens parts

module _ {K : Type 0} where
  -- the patterns of a table's rows, with the value that the router returns for each
  abbrev pub patterns : List (List Segment × K) → RowsOf K
  patterns [] = []
  patterns ((parts, key) ∷ rows) = (tokens parts, key) ∷ patterns rows

  -- the first row that fits
  abbrev pub fitting : List (List Segment × K) → List (List ℕ) → Option K
  fitting [] parts = None
  fitting ((ps, key) ∷ rows) parts = cond (fits ps parts) (Some key) (fitting rows parts)

  -- the row of a path, by its parts: the path begins with a slash, and no part is empty
  abbrev pub row_at : List (List Segment × K) → List (List ℕ) → Option K
  row_at rows ([] ∷ parts) = cond (list_all is_some_text parts) (fitting rows parts) None
  row_at rows _ = None
