use Rattle.tables.proofs.Prelude.{◌≡◌, List, map, take}
use Rattle.tables.specs.Rows.{Repo}
use Rattle.tables.specs.Statements.{show_repo}
use Rattle.tables.specs.Listing.{repo_fields, read_repo}
use Rattle.tables.proofs.listing.all_repos.Given as goal

abbrev pub invariant-loop-row : goal.invariant-loop-row
invariant-loop-row l = (repos : List Repo) → l.rows ≡ map show_repo repos → map read_repo l.found.items ≡ map repo_fields (take l.row-index repos)
