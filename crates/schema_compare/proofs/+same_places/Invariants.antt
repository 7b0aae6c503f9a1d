use Rattle.std.proofs.Common.{length}
use Rattle.schema_compare.proofs.+same_places.Given as goal

abbrev pub decreases-same_places : goal.decreases-same_places
decreases-same_places l = length l.a.now
