use Rattle.tables.proofs.Prelude.{◌≡◌, List, map, take}
use Rattle.tables.specs.Rows.{Retired}
use Rattle.tables.specs.Statements.{show_repo_retired}
use Rattle.tables.specs.Listing.{retired_fields, read_retired}
use Rattle.tables.proofs.listing.all_retired.Given as goal

abbrev pub invariant-loop-row : goal.invariant-loop-row
invariant-loop-row l = (retired : List Retired) → l.rows ≡ map show_repo_retired retired → map read_retired l.found.items ≡ map retired_fields (take l.row-index retired)
