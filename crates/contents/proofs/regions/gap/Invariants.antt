-- The regions so far leave no room that is large enough.
use Rattle.contents.proofs.Gaps.{IsWalked}
use Rattle.contents.proofs.regions.gap.Given as goal

abbrev pub invariant-loop-index : goal.invariant-loop-index
invariant-loop-index l = IsWalked l.regions l.size l.index l.from
