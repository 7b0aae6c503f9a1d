use Rattle.policy.proofs.Prelude.{ℕ, ◌<◌, map, numbered_view}
use Rattle.std.specs.Prelude.{vec_len, slice_get}
use Rattle.policy.specs.Index.{buckets_view, paths_of, AreIndexed}
use Rattle.policy.proofs.path_index.buckets_for.Given as goal

-- each row before this one is in the bucket of each of its path patterns
abbrev pub invariant-loop-position : goal.invariant-loop-position
invariant-loop-position l =
    (0 < vec_len l.buckets)
    × ((n : ℕ) → n < l.position
    → AreIndexed (buckets_view l.buckets.items) n (paths_of (slice_get (map numbered_view l.rows) n)))
