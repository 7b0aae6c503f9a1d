use Rattle.tables.proofs.Prelude.{◌≡◌, List, map, take}
use Rattle.tables.specs.Rows.{Lock}
use Rattle.tables.specs.Statements.{show_repo_lock}
use Rattle.tables.specs.Listing.{repo_lock_fields, read_repo_lock}
use Rattle.tables.proofs.listing.all_repo_locks.Given as goal

abbrev pub invariant-loop-row : goal.invariant-loop-row
invariant-loop-row l = (locks : List Lock) → l.rows ≡ map show_repo_lock locks → map read_repo_lock l.found.items ≡ map repo_lock_fields (take l.row-index locks)
