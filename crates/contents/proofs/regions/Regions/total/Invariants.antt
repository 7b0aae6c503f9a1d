-- The bytes of the regions so far.
use Rattle.std.proofs.Common.{◌≡◌}
use Rattle.contents.proofs.Order.{sum_of}
use Rattle.contents.proofs.regions.Regions.total.Given as goal

abbrev pub invariant-loop-region : goal.invariant-loop-region
invariant-loop-region l = l.total ≡ sum_of l.region-index l.fn.self.items.items
