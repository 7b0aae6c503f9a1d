use Rattle.policy.proofs.Prelude.{◌∙◌, ap₂, arith, ℕ}
use Rattle.std.specs.Prelude.{◌%◌}
use Rattle.policy.specs.Index.{hashed}
use Rattle.policy.proofs.Indexed.{pushed}
use Rattle.policy.proofs.path_index.add.Goals as goal

pub returns-clause-grown : goal.returns-clause-grown
returns-clause-grown c =
    let bucket = c.bucket_number-number in
    let hash = hashed 0 c.args.text.now in
    let long = c.len.ensures ∙ c.args.buckets.now.ok.0 in
    let number = bucket.ensures.number ∙ ap₂ (λ (h n : ℕ). h % n) c.hash_of.ensures long in
    (pushed c.args.buckets.now.items hash bucket.result c.args.position c.index_mut.result.now c.push.new.self number
    (omega (arith, bucket.ensures.within, long)) c.index_mut.ensures.value c.in_ok-push.ensures.items).0

pub returns-clause-added : goal.returns-clause-added
returns-clause-added c =
    let bucket = c.bucket_number-number in
    let hash = hashed 0 c.args.text.now in
    let long = c.len.ensures ∙ c.args.buckets.now.ok.0 in
    let number = bucket.ensures.number ∙ ap₂ (λ (h n : ℕ). h % n) c.hash_of.ensures long in
    (pushed c.args.buckets.now.items hash bucket.result c.args.position c.index_mut.result.now c.push.new.self number
    (omega (arith, bucket.ensures.within, long)) c.index_mut.ensures.value c.in_ok-push.ensures.items).1
