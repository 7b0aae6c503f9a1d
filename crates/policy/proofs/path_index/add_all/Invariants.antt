use Rattle.policy.proofs.Prelude.{◌<◌, take, texts}
use Rattle.std.specs.Prelude.{vec_len}
use Rattle.policy.specs.Index.{buckets_view, AreIndexed, HaveGrown}
use Rattle.policy.proofs.path_index.add_all.Given as goal

-- the position is in the bucket of each text before this one
abbrev pub invariant-loop-text : goal.invariant-loop-text
invariant-loop-text l =
    (0 < vec_len l.buckets) × HaveGrown (buckets_view l.initial.buckets.items) (buckets_view l.buckets.items)
    × AreIndexed (buckets_view l.buckets.items) l.position (texts (take l.text-index l.spelled))
