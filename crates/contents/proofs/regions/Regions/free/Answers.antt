-- What is in use is no more than its end.
use Rattle.std.proofs.Common.{arith, subst, ◌≡◌, ◌+◌, ◌-◌, sum_by}
use Rattle.contents.specs.declared.region.Region.{Region}
use Rattle.contents.specs.Regions.{IsLastEnd}
use Rattle.contents.specs.InUse.{regions_of}
use Rattle.contents.proofs.Order.{sum_within}
use Rattle.contents.proofs.regions.Regions.free.Goals as goal

pub overflow_sub-result : goal.overflow_sub-result
overflow_sub-result c =
    let self = c.args.self.now in
    let less = sum_within (regions_of self) c.end.result self.in_order c.end.ensures.last.all in
    let is = c.total.ensures in
    omega arith

pub returns : goal.returns
returns c =
    let self = c.args.self.now in
    let less = sum_within (regions_of self) c.end.result self.in_order c.end.ensures.last.all in
    let is = c.total.ensures in
    let whole : c.end.result ≡ sum_by (λ (it : Region). it.size) (regions_of self) + (c.end.result - c.total.result) = omega arith in
    subst (IsLastEnd (regions_of self)) whole c.end.ensures.last
