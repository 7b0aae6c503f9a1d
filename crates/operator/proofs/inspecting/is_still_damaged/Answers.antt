use Rattle.operator.proofs.Prelude.{reads_weaker}
use Rattle.operator.proofs.Damaged.{reads_damaged}
use Rattle.operator.proofs.Sound.{looked_at, passed_over}
use Rattle.operator.proofs.inspecting.is_still_damaged.Goals as goal

pub returns-then-branch-clause-world : goal.returns-then-branch-clause-world
returns-then-branch-clause-world g c =
    reads_damaged g.S.State c.args.store.now c.is_stored.new.store c.is_damaged.new.store c.args.row.now c.is_damaged.result
    (reads_weaker g.S.State c.args.store.now c.is_stored.new.store _ _ (λ world laws whole. whole c.if-branch.true) c.in_ok-is_stored.ensures.world) c.is_damaged.ensures.reads c.is_damaged.ensures.exact

pub returns-then-branch-clause-exact : goal.returns-then-branch-clause-exact
returns-then-branch-clause-exact g c =
    looked_at g.S.State c.args.store.now c.is_stored.new.store c.is_damaged.new.store c.args.row.now c.is_damaged.result c.is_stored.ensures.world.same c.is_damaged.ensures.reads.same.was_honest
    (λ honest ready. (c.in_ok-is_stored.ensures.exact honest ready).0) c.is_damaged.ensures.exact

pub returns-else-branch-clause-exact : goal.returns-else-branch-clause-exact
returns-else-branch-clause-exact g c = passed_over g.S.State c.args.store.now c.is_stored.new.store c.args.row.now _ c.if-branch.false c.in_ok-is_stored.ensures.exact
