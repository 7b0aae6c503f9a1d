-- The paths of a push, in lines of text.
use Rattle.std.specs.Prelude.{◌≡◌, ◌⊎◌, ◌++◌, ℕ, List, [], ◌∷◌, flat_map}

-- a path with the end of its line (LF, 10)
abbrev pub line : (path : List ℕ) → List ℕ
line path = path ++ 10 ∷ []

-- the bytes are the lines of the paths, of which the last may lack its end
abbrev pub AreLinesOf : (bytes : List ℕ) (paths : List (List ℕ)) → Type 0
AreLinesOf bytes paths = (bytes ≡ flat_map line paths) ⊎ (bytes ++ 10 ∷ [] ≡ flat_map line paths)
