use Rattle.std.proofs.Common.{◌-◌, List, ℕ}
use Rattle.store.specs.Shown.{IsHonest, HasTables, Moves, AddsNothing, shown}
use Rattle.tables.specs.Staging.{upload_number}
use Rattle.refinement.specs.Objects.{HasPieces}
use Rattle.chunks.proofs.Poured.{HasHashed}
use Rattle.chunks.proofs.verifying.is_whole.Given as goal

abbrev pub invariant-chunks : goal.invariant-chunks
invariant-chunks g l = record {
  same : Moves g.S.State (λ t. t) l.fn.store l.store;
  adds : AddsNothing g.S.State l.fn.store l.store;
  hashed : IsHonest g.S.State l.store → HasTables g.S.State l.fn.store → (pieces : List (List ℕ)) → HasPieces (upload_number l.upload) pieces (shown g.S.State l.fn.store).chunks
      → HasHashed l.hasher l.count l.n pieces;
}

abbrev pub decreases-chunks : goal.decreases-chunks
decreases-chunks g l = 4294967295 - l.n
