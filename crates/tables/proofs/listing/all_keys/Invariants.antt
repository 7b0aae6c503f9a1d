use Rattle.tables.proofs.Prelude.{◌≡◌, List, map, take}
use Rattle.tables.specs.Rows.{Chunk}
use Rattle.tables.specs.Statements.{show_chunk_key}
use Rattle.tables.specs.Listing.{key_fields, read_key}
use Rattle.tables.proofs.listing.all_keys.Given as goal

abbrev pub invariant-loop-row : goal.invariant-loop-row
invariant-loop-row l = (chunks : List Chunk) → l.rows ≡ map show_chunk_key chunks → map read_key l.found.items ≡ map key_fields (take l.row-index chunks)
