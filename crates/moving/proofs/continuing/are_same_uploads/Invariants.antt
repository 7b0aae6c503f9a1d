-- The uploads that were gone through are the same.
use Rattle.std.proofs.Common.{◌≡◌}
use Rattle.tables.specs.Listing.{read_marked}
use Rattle.compared.proofs.Paired.{ArePairedBelow}
use Rattle.moving.proofs.continuing.are_same_uploads.Given as goal

abbrev pub invariant-loop-i : goal.invariant-loop-i
invariant-loop-i l = ArePairedBelow (λ a b. read_marked a ≡ read_marked b) l.first l.second l.i
