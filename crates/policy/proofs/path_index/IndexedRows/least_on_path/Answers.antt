use Rattle.policy.proofs.Prelude.{◌≡◌, ◌+◌, ◌∙◌, ℕ, ap, sym, subst, arith, take, get_or, question_view}
use Rattle.std.proofs.Common.{below_more}
use Rattle.policy.specs.Index.{mixed, hashed, bucket_of, NoneBefore}
use Rattle.policy.specs.Searches.{rows_in, buckets_in}
use Rattle.policy.proofs.Indexed.{hashed_more, none_before_less}
use Rattle.policy.proofs.path_index.IndexedRows.least_on_path.Goals as goal

pub loop-byte-preserved : goal.loop-byte-preserved
loop-byte-preserved c =
    let q = question_view c.args.question.now in
    let rows = rows_in c.args.self.now in
    let buckets = buckets_in c.args.self.now in
    let path = c.args.path.now in
    let i = c.loop-byte.byte-index in
    let n = c.least_in_folder-least.result in
    let next = c.least_in_folder-least.ensures in
    let (found, less, hash, none) = c.loop-byte.invariant in
    let more = c.mixed-hash.ensures ∙ ap (λ (h : ℕ). mixed h (get_or path i 0)) hash ∙ sym (hashed_more path i 0 c.loop-byte-test.true) in (
      next.found,
      omega (arith, next.least, less),
      more,
      below_more (λ k. get_or path k 0 ≡ 47 → NoneBefore q rows n (bucket_of buckets (hashed 0 (take (k + 1) path)))) i
          (λ k below slash.
          none_before_less q rows c.loop-byte.least n (bucket_of buckets (hashed 0 (take (k + 1) path))) next.least (none k below slash))
          (λ slash. subst (λ (h : ℕ). NoneBefore q rows n (bucket_of buckets h)) more (next.first slash)),
    )
