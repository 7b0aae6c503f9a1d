use Rattle.tables.proofs.Prelude.{◌≡◌, List, map, take}
use Rattle.tables.specs.Rows.{Chunk}
use Rattle.tables.specs.Statements.{show_numbered}
use Rattle.tables.specs.Staging.{numbered_fields, read_numbered}
use Rattle.tables.proofs.rows.all_numbered.Given as goal

abbrev pub invariant-loop-row : goal.invariant-loop-row
invariant-loop-row l = (chunks : List Chunk) → l.rows ≡ map show_numbered chunks → map read_numbered l.found.items ≡ map numbered_fields (take l.row-index chunks)
