use Rattle.std.proofs.Common.{length}
use Rattle.schema_compare.proofs.+refers.Given as goal

abbrev pub decreases-refers : goal.decreases-refers
decreases-refers l = length l.references.now
