use Rattle.policy.proofs.Prelude.{subst, arith, List, ℕ, true, ◌≡◌, take, texts}
use Rattle.policy.specs.Index.{hashed, buckets_view, bucket_of, has}
use Rattle.policy.proofs.Indexed.{grown_twice, still_some, indexed_still, indexed_more, indexed_all}
use Rattle.policy.proofs.path_index.add_all.Goals as goal

pub loop-text-preserved : goal.loop-text-preserved
loop-text-preserved c =
    let old = buckets_view c.loop-text.buckets.items in
    let new = buckets_view c.add.new.buckets.items in
    let position = c.args.position in
    let spelled = c.args.spelled.now in
    let i = c.loop-text.text-index in
    let (some, grown, indexed) = c.loop-text.invariant in
    let more = c.in_ok-add.ensures.grown in (
      still_some c.loop-text.buckets c.add.new.buckets more some,
      grown_twice (buckets_view c.args.buckets.now.items) old new grown more,
      indexed_more new position spelled i c.text-item.result c.loop-text-test.true c.text-item.is
          (indexed_still old new position (texts (take i spelled)) more indexed)
          (subst (λ (t : List ℕ). has (bucket_of new (hashed 0 t)) position ≡ true) c.as_bytes.ensures.value c.in_ok-add.ensures.added),
    )

pub returns-clause-added : goal.returns-clause-added
returns-clause-added c =
    let buckets = buckets_view c.loop-text.buckets.items in
    indexed_all buckets c.args.position c.args.spelled.now c.loop-text.text-index
    (omega (arith, c.loop-text-test.false)) c.loop-text.invariant.2
