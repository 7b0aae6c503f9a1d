use Rattle.tables.proofs.Prelude.{◌≡◌, ℕ, List, map, take}
use Rattle.tables.specs.Rows.{Retired}
use Rattle.tables.specs.Statements.{show_retired}
use Rattle.tables.proofs.retiring.all_names.Given as goal

abbrev pub invariant-loop-row : goal.invariant-loop-row
invariant-loop-row l = (retired : List Retired) → l.rows ≡ map show_retired retired → map (λ (o : List ℕ). o) l.names.items ≡ map (λ (r : Retired). r.oid) (take l.row-index retired)
