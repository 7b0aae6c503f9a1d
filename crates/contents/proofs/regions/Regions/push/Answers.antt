-- A region that is refused begins too early or ends too late; one that is added keeps the order.
use Rattle.std.proofs.Common.{arith, refl}
use Rattle.contents.proofs.Order.{in_order_if, in_order_pushed}
use Rattle.contents.proofs.regions.Regions.push.Goals as goal
use Rattle.contents.proofs.regions.Regions.push.Goals.{then-region-end-via-then-region-end, then-region-end-via-else-region-end+then-end-gt-LARGEST_END}

pub returns-then-region-end-clause-ok : goal.returns-then-region-end-clause-ok
returns-then-region-end-clause-ok c = elim c.then-region-end.branch [
  | then-region-end-via-then-region-end w ↦ ((λ may. let early = c.end-2.ensures.last.least c.args.region.start may.after in let begins = w.if-region-end.true in omega arith), refl)
  | then-region-end-via-else-region-end+then-end-gt-LARGEST_END w ↦ ((λ may. let most = may.within in let late = w.if-end-gt-LARGEST_END.true in let is = c.in-Some.ensures.1 in omega arith), refl)
]

pub invariant_of-self : goal.invariant_of-self
invariant_of-self c = record {
  in_order = rw c.push.ensures.items (in_order_if _ _ _ (in_order_pushed c.args.self.now.items.items c.args.region c.args.self.now.in_order (record {
    after = λ k d less. let it = c.end-2.ensures.last.all k d less in let begins = c.if-region-end.false in omega arith;
    within = let late = c.if-end-gt-LARGEST_END.false in let is = c.in-Some.ensures.1 in omega arith;
  })) c.args.self.now.in_order);
}
