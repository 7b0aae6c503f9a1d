-- The room before a region is large enough, or the walk goes on.
use Rattle.contents.proofs.Gaps.{gap_here, walked_on}
use Rattle.contents.proofs.regions.gap.Goals as goal

pub returns-then-region-from-clause-some : goal.returns-then-region-from-clause-some
returns-then-region-from-clause-some c =
    gap_here c.args.regions.now c.loop-index.index _ c.loop-index-test.true c.args.size c.loop-index.from c.requires c.loop-index.invariant c.if-region-from.true

pub loop-index-preserved : goal.loop-index-preserved
loop-index-preserved c =
    walked_on c.args.regions.now c.loop-index.index _ c.loop-index-test.true c.args.size c.loop-index.from c.requires c.loop-index.invariant c.if-region-from.false
