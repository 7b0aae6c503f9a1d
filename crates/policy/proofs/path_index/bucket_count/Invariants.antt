use Rattle.policy.proofs.Prelude.{◌<◌}
use Rattle.policy.proofs.path_index.bucket_count.Given as goal

abbrev pub invariant-loop-numbered : goal.invariant-loop-numbered
invariant-loop-numbered l = 0 < l.count
