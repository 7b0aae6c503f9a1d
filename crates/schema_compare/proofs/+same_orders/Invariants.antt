use Rattle.std.proofs.Common.{length}
use Rattle.schema_compare.proofs.+same_orders.Given as goal

abbrev pub decreases-same_orders : goal.decreases-same_orders
decreases-same_orders l = length l.a.now
