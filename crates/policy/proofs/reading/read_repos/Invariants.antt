use Rattle.policy.proofs.Prelude.{drop, map, view}
use Rattle.policy.proofs.Steps.{ReposSoFar}
use Rattle.policy.proofs.reading.read_repos.Given as goal

abbrev pub invariant-loop-index : goal.invariant-loop-index
invariant-loop-index l = ReposSoFar (map view l.entries) l.index l.repos.items (map view (drop l.index l.entries))
