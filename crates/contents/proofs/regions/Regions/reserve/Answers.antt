-- The region in the gap keeps the order, and is what was asked.
use Rattle.std.proofs.Common.{subst}
use Rattle.contents.specs.Regions.{IsGap}
use Rattle.contents.proofs.Order.{in_order_if, in_order_inserted, reserved}
use Rattle.contents.proofs.regions.Regions.reserve.Goals as goal

pub invariant_of-self : goal.invariant_of-self
invariant_of-self c = record {
  in_order =
      let gap = subst (λ it. IsGap it c.args.size c.in-Some.index c.in-Some.start) c.deref.ensures.value c.in-Some.ensures.some in
      rw c.insert.ensures.items (in_order_if _ _ _ (in_order_inserted c.args.self.now.items.items c.args.size c.in-Some.index c.in-Some.start c.args.self.now.in_order gap) c.args.self.now.in_order);
}

pub returns-clause-ok : goal.returns-clause-ok
returns-clause-ok c =
    let gap = subst (λ it. IsGap it c.args.size c.in-Some.index c.in-Some.start) c.deref.ensures.value c.in-Some.ensures.some in
    rw c.in_ok-insert.ensures.items (reserved c.args.self.now.items.items c.args.size c.in-Some.index c.in-Some.start c.args.self.now.in_order gap)
