use Rattle.std.proofs.Common.{map, take}
use Rattle.refinement.specs.Left.{Reads}
use Rattle.policy.specs.Values.{repo_view}
use Rattle.server.specs.Numbers.{AllStored}
use Rattle.server.proofs.operators.OperatorContext.stored.Given as goal

-- so far the store was only read, and these are the numbers of the repositories so far
abbrev pub invariant-loop-repo : goal.invariant-loop-repo
invariant-loop-repo g l = Reads g.S.State l.fn.store l.store (λ world. AllStored world (map repo_view (take l.repo-index l.repo-items)) l.all.items)
