-- The tokens of a repository, and those of a user in it.
use Rattle.std.specs.Prelude.{ℕ, pos, Bool, ◌&&◌, List, bytes_eq}
use Rattle.sha2.specs.Sha256.{sha256}
use Rattle.model.specs.World.{Token}
use Rattle.tables.specs.Steps.{TokenFields, code_of}

-- the token is the user's, for the repository
abbrev pub is_of : List ℕ → List ℕ → Token → Bool
is_of user repo t = bytes_eq t.user user && bytes_eq t.repo repo

-- the token is for the repository
abbrev pub is_in : List ℕ → Token → Bool
is_in repo t = bytes_eq t.repo repo

-- the reported fields of a token: its digest replaces its text
abbrev pub fields_of_token : Token → TokenFields
fields_of_token t = record { digest = sha256 t.text; user = t.user; repo = t.repo; op = code_of t.operation; expires = pos t.expires }
