-- The uploads that were gone through are removed.
use Rattle.std.proofs.Common.{map, take}
use Rattle.tables.specs.Staging.{upload_number}
use Rattle.placed.proofs.Cleared.{Removes}
use Rattle.placed.proofs.opening.clear_staged.Given as goal

abbrev pub invariant-loop-id : goal.invariant-loop-id
invariant-loop-id g l = Removes g.T.State (map upload_number (take l.id-index l.id-items)) l.initial.rows l.rows
