-- A region that may not follow those before it has a byte in common with one of them, since they are sorted.
use Rattle.std.proofs.Common.{rules, sym, subst, slice_index_or}
use Rattle.std.proofs.lemmas.List.Sorted.{IsNonDecreasingBy-from_sort_by_key}
use Rattle.contents.specs.Regions.{FitsAfter}
use Rattle.placed.proofs.Sorting.{fits_at}
use Rattle.placed.proofs.opening.in_order.Goals as goal

pub returns-then-not-branch-clause-err : goal.returns-then-not-branch-clause-err
returns-then-not-branch-clause-err c = λ bad are apart.
    let sorted = IsNonDecreasingBy-from_sort_by_key (λ r. r.start) _ c.sort_unstable_by_key.ensures.sorted (λ a r q k. search rules) in
    let region = slice_index_or c.sort_unstable_by_key.new.self c.loop-region.region-index (record { start = 0; size = 0 }) in
    let refused = rw c.if-not-branch.true at c.in_ok-push.ensures.ok in
    refused.0
    (subst (λ l. FitsAfter l region) (sym c.loop-region.invariant)
    (fits_at c.args.regions.now c.sort_unstable_by_key.new.self c.sort_unstable_by_key.ensures.permutation sorted are apart
    c.loop-region.region-index (record { start = 0; size = 0 }) c.loop-region-test.true))
