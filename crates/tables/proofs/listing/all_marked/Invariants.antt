use Rattle.tables.proofs.Prelude.{◌≡◌, List, map, take}
use Rattle.tables.specs.Rows.{Upload}
use Rattle.tables.specs.Statements.{show_upload}
use Rattle.tables.specs.Listing.{marked_fields, read_marked}
use Rattle.tables.proofs.listing.all_marked.Given as goal

abbrev pub invariant-loop-row : goal.invariant-loop-row
invariant-loop-row l = (uploads : List Upload) → l.rows ≡ map show_upload uploads → map read_marked l.found.items ≡ map marked_fields (take l.row-index uploads)
