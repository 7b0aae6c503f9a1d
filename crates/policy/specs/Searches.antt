-- Rows with an index, in the terms of the definitions.
use Rattle.std.specs.Prelude.{ℕ, List, map}
use Rattle.policy.specs.Applicable.{NumberedRow}
use Rattle.policy.specs.Index.{buckets_view}
use Rattle.policy.specs.Values.{numbered_view}
use Rattle.policy.specs.declared.path_index.IndexedRows.{IndexedRows}

-- the rows
abbrev pub rows_in : IndexedRows → List NumberedRow
rows_in indexed = map numbered_view indexed.rows.items

-- the buckets of the index
abbrev pub buckets_in : IndexedRows → List (List ℕ)
buckets_in indexed = buckets_view indexed.buckets.items
