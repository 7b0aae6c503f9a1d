use Rattle.std.proofs.Common.{length}
use Rattle.schema_compare.proofs.+same_terms_at.Given as goal

abbrev pub decreases-same_terms_at : goal.decreases-same_terms_at
decreases-same_terms_at l = length l.places.now
