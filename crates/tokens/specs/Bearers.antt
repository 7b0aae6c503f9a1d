-- The field that holds a token.
use Rattle.std.specs.Prelude.{ℕ, List, [], ◌∷◌, Option, Some, None}

-- the values of a field that occurs at most once
abbrev pub single_value : Option (List ℕ) → List (List ℕ)
single_value None = []
single_value (Some value) = value ∷ []
