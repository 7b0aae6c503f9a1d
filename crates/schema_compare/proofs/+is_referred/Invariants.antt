use Rattle.std.proofs.Common.{length}
use Rattle.schema_compare.proofs.+is_referred.Given as goal

abbrev pub decreases-is_referred : goal.decreases-is_referred
decreases-is_referred l = length l.tables.now
