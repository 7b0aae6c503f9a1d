-- Which flags are given.
use Rattle.std.specs.Prelude.{ℕ, Bool, List, [], ◌∷◌, ◌++◌, take, drop, bytes_eq, codes, if◌then◌else◌}

-- the flag is one of the words before the first "--", after which no word is an option
abbrev pub is_given : (flag : List ℕ) → (words : List (List ℕ)) → Bool
is_given flag [] = Bool.false
is_given flag (word ∷ words) =
    if bytes_eq word (codes "--") then Bool.false
    else if bytes_eq word flag then Bool.true
    else is_given flag words

-- the arguments with this server, which is named after the command
abbrev pub with_server : (socket : List ℕ) → (words : List (List ℕ)) → List (List ℕ)
with_server socket words = take 2 words ++ (codes "--via" ∷ socket ∷ drop 2 words)
