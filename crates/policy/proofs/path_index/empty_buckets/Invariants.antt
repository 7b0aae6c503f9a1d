use Rattle.policy.proofs.Prelude.{◌≡◌}
use Rattle.std.specs.Prelude.{vec_len}
use Rattle.policy.proofs.path_index.empty_buckets.Given as goal

abbrev pub invariant-loop : goal.invariant-loop
invariant-loop l = vec_len l.buckets ≡ l.counter
