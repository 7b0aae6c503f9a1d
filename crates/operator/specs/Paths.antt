-- The repository that the path of a Git remote names.
use Rattle.std.specs.Prelude.{◌≡◌, ◌≢◌, ◌⊎◌, ◌++◌, ℕ, List, Some, codes}
use Rattle.model.specs.Policy.{Policy, Repo, repo_named}

-- the text after this beginning, or the whole text if it does not begin so
abbrev pub IsRestAfter : (beginning text rest : List ℕ) → Type 0
IsRestAfter beginning text rest = (text ≡ beginning ++ rest) ⊎ (((after : List ℕ) → text ≢ beginning ++ after) × (rest ≡ text))

-- the text before this ending, or the whole text if it does not end so
abbrev pub IsBefore : (ending text rest : List ℕ) → Type 0
IsBefore ending text rest = (text ≡ rest ++ ending) ⊎ (((before : List ℕ) → text ≢ before ++ ending) × (rest ≡ text))

-- the repository's name, perhaps with a slash before it and .git after it
abbrev pub IsRepoAt : (path repo : List ℕ) → Type 0
IsRepoAt path repo = (rest : List ℕ) × IsRestAfter (codes "/") path rest × IsBefore (codes ".git") rest repo

-- the policy has a repository of the name
abbrev pub HasRepo : Policy → (name : List ℕ) → Type 0
HasRepo policy name = (repo : Repo) × (repo_named name policy ≡ Some repo)
