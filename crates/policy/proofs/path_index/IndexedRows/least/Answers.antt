use Rattle.policy.proofs.Prelude.{◌≡◌, ◌≤◌, ◌∙◌, ℕ, ap, sym, arith, true, take, question_view}
use Rattle.std.specs.Prelude.{◌%◌}
use Rattle.std.proofs.lemmas.List.{take_all}
use Rattle.std.proofs.lemmas.List.Elements.{All-more, All-same}
use Rattle.policy.specs.Index.{buckets_view, bucket_of, covers_at}
use Rattle.policy.specs.Searches.{rows_in}
use Rattle.policy.proofs.Indexed.{none_before_less, bucket_here}
use Rattle.policy.proofs.path_index.IndexedRows.least.Goals as goal

pub loop-other-preserved : goal.loop-other-preserved
loop-other-preserved c =
    let q = question_view c.args.question.now in
    let rows = rows_in c.args.self.now in
    let items = c.deref-other-items.result.now in
    let i = c.loop-other.other-index in
    let n = c.lesser-least.result in
    let next = c.lesser-least.ensures in
    let (found, less, none) = c.loop-other.invariant in (
      next.found,
      omega (arith, next.least, less),
      All-more (λ (k : ℕ). covers_at q rows k ≡ true → n ≤ k) items i 0 c.loop-other-test.true
          (none_before_less q rows c.loop-other.least n (take i items) next.least none) next.first,
    )

pub returns-clause-first : goal.returns-clause-first
returns-clause-first c =
    let q = question_view c.args.question.now in
    let rows = rows_in c.args.self.now in
    let buckets = c.args.self.now.buckets in
    let hash = c.args.hash in
    let bucket = c.bucket_number in
    let items = c.deref-other-items.result.now in
    let i = c.loop-other.other-index in
    let long = c.len.ensures ∙ buckets.ok.0 in
    let number = bucket.ensures.number ∙ ap (λ (n : ℕ). hash % n) long in
    All-same (λ (k : ℕ). covers_at q rows k ≡ true → c.loop-other.least ≤ k) (bucket_of (buckets_view buckets.items) hash)
    (take i items)
    (bucket_here buckets.items hash bucket.result c.index.result.now number (omega (arith, bucket.ensures.within, long)) c.index.ensures
    ∙ sym c.deref-other-items.ensures.value ∙ sym (take_all i items (omega (arith, c.loop-other-test.false))))
    c.loop-other.invariant.2
