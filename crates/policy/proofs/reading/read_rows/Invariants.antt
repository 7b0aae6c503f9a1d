use Rattle.policy.proofs.Prelude.{drop, map, view}
use Rattle.policy.proofs.Steps.{RowsSoFar}
use Rattle.policy.proofs.reading.read_rows.Given as goal

abbrev pub invariant-loop-index : goal.invariant-loop-index
invariant-loop-index l = RowsSoFar (map view l.entries) l.index l.rows.items (map view (drop l.index l.entries))
