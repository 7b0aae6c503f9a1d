-- The rows that were gone through are the same.
use Rattle.compared.proofs.Paired.{ArePairedBelow}
use Rattle.compared.proofs.rows.are_same.Given as goal

abbrev pub invariant-loop-i : goal.invariant-loop-i
invariant-loop-i g l = ArePairedBelow g.T.ListedRow.same_columns l.old l.new l.i
