-- What the regions have fits, since they are apart and end where a file may end.
use Rattle.std.proofs.Common.{arith, refl, sym, ap, ◌+◌, ◌<◌, length, take_all, sum_by, slice_index_or, ◌∙◌}
use Rattle.contents.specs.declared.region.Region.{Region}
use Rattle.contents.proofs.Order.{one_more, sum_fits}
use Rattle.contents.proofs.regions.Regions.total.Goals as goal

pub loop-region-init : goal.loop-region-init
loop-region-init c = refl

pub overflow_add-total : goal.overflow_add-total
overflow_add-total c =
    let items = c.args.self.now.items.items in
    let d : Region = record { start = 0; size = 0 } in
    let less : c.loop-region.region-index < length items = rw c.deref-region-items.ensures.value at c.loop-region-test.true in
    let most = sum_fits items d (c.loop-region.region-index + 1) c.args.self.now.in_order (omega arith) in
    let more = one_more items d c.loop-region.region-index less in
    let is = c.loop-region.invariant in
    rw c.deref-region-items.ensures.value (omega arith)

pub loop-region-preserved : goal.loop-region-preserved
loop-region-preserved c =
    let items = c.args.self.now.items.items in
    let d : Region = record { start = 0; size = 0 } in
    rw c.deref-region-items.ensures.value
    (ap (λ n. n + (slice_index_or items c.loop-region.region-index d).size) c.loop-region.invariant
    ∙ sym (one_more items d c.loop-region.region-index (rw c.deref-region-items.ensures.value at c.loop-region-test.true)))

pub returns : goal.returns
returns c =
    c.loop-region.invariant ∙ ap (sum_by (λ (it : Region). it.size))
    (take_all c.loop-region.region-index c.args.self.now.items.items (rw c.deref-region-items.ensures.value at c.loop-region-test.false))
