-- The region that is found is the one, and without it the others keep their order.
use Rattle.std.proofs.Common.{◌≡◌, ◌<◌, length, subst, HoldsAt}
use Rattle.contents.proofs.Order.{removed_one, in_order_removed}
use Rattle.contents.proofs.regions.Regions.release.Goals as goal

pub invariant_of-self : goal.invariant_of-self
invariant_of-self c = record {
  in_order =
      let index = c.in-Some.index in
      let found = subst (λ it. (index < length it) × HoldsAt (λ it. it ≡ c.args.region) it index) c.deref.ensures.value c.in-Some.ensures.some in
      rw c.remove.ensures.items (in_order_removed c.args.self.now.items.items index c.args.region found.0 found.1 c.args.self.now.in_order);
}

pub returns : goal.returns
returns c =
    let index = c.in-Some.index in
    let found = subst (λ it. (index < length it) × HoldsAt (λ it. it ≡ c.args.region) it index) c.deref.ensures.value c.in-Some.ensures.some in
    rw c.remove.ensures.items (removed_one c.args.self.now.items.items index c.args.region found.0 found.1)
