-- The rows that were gone through name the regions.
use Rattle.std.proofs.Common.{take}
use Rattle.placed.specs.Opening.{AreNamed}
use Rattle.placed.proofs.opening.regions_named.Given as goal

abbrev pub invariant-loop-row : goal.invariant-loop-row
invariant-loop-row l = AreNamed (take l.row-index l.rows) l.regions.items
