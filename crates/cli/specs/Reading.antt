-- What is read of a source.
use Rattle.std.specs.Prelude.{ℕ, ◌<◌, length, List, Option}
use Rattle.std.specs.Io.KnownBytes.{Consumes, IsAtEnd}

-- the bytes were read: all that were left, or as many as wanted or more
abbrev pub IsReadTo : (wanted : ℕ) → (left rest : Option (List ℕ)) → List ℕ → Type 0
IsReadTo wanted left rest bytes = Consumes left rest bytes × (length bytes < wanted → IsAtEnd rest)
