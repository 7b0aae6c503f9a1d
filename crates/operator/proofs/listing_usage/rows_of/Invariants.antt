use Rattle.std.proofs.Common.{map, take, string_bytes}
use Rattle.std.specs.List.{AllZip}
use Rattle.refinement.specs.Left.{Reads}
use Rattle.operator.specs.Usage.{IsLineOf}
use Rattle.operator.proofs.listing_usage.rows_of.Given as goal

abbrev pub invariant-loop-repo : goal.invariant-loop-repo
invariant-loop-repo g l =
    Reads g.S.State l.fn.store l.store
    (λ world. AllZip (IsLineOf g.S.State world l.store l.now) (take l.repo-index l.repos) (map (map string_bytes) l.rows.items))
