-- The names of repositories.
use Rattle.std.specs.Prelude.{ℕ, List, map}
use Rattle.names.specs.Names.{repo_text}
use Rattle.policy.specs.declared.repos.Repo.{Repo}

-- the name of each repository
abbrev pub names_of : List Repo → List (List ℕ)
names_of repos = map (λ r. repo_text r.name) repos
