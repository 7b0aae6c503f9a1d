-- The version of the messages, and what a server sends to a program of another version.
use Rattle.std.specs.Prelude.{ℕ, List, [], ◌∷◌, ◌++◌, codes}
use Rattle.control.specs.Fields.{field}

-- the byte that each message begins with; those of the first version begin with 0, 1 or 2
abbrev pub version : ℕ
version = 3

-- a reply of the first version: status 2, no output, and a line on the error stream
abbrev pub refusal_bytes : List ℕ
refusal_bytes = 2 ∷ field [] ++ field (codes "custody: the server has another version" ++ 10 ∷ [])
