-- The regions in use are those that were gone through.
use Rattle.std.proofs.Common.{◌≡◌, take}
use Rattle.contents.specs.InUse.{regions_of}
use Rattle.placed.proofs.opening.in_order.Given as goal

abbrev pub invariant-loop-region : goal.invariant-loop-region
invariant-loop-region l = regions_of l.found ≡ take l.region-index l.region-items
