use Rattle.std.proofs.Common.{◌≡◌, ◌-◌, ◌⊎◌, List, ℕ}
use Rattle.store.specs.Shown.{IsHonest, IsOpen, HasTables, Moves, AddsNothing, shown}
use Rattle.tables.specs.Staging.{upload_number}
use Rattle.refinement.specs.Objects.{HasPieces}
use Rattle.chunks.proofs.Poured.{HasPoured, IsUntouched}
use Rattle.chunks.proofs.pouring.pour.Given as goal

abbrev pub invariant-chunks : goal.invariant-chunks
invariant-chunks g l = record {
  same : Moves g.S.State (λ t. t) l.fn.store l.store;
  adds : AddsNothing g.S.State l.fn.store l.store;
  good : g.K.Sink.failed l.sink ≡ g.K.Sink.failed l.fn.sink;
  begun : IsHonest g.S.State l.store → HasTables g.S.State l.fn.store → IsUntouched (g.K.Sink.taken l.fn.sink) (g.K.Sink.taken l.sink) l.written l.n ⊎ IsOpen g.S.State l.fn.store;
  poured : IsHonest g.S.State l.store → HasTables g.S.State l.fn.store → (pieces : List (List ℕ)) → HasPieces (upload_number l.upload) pieces (shown g.S.State l.fn.store).chunks
      → HasPoured (g.K.Sink.taken l.fn.sink) (g.K.Sink.taken l.sink) l.written l.n pieces;
}

abbrev pub decreases-chunks : goal.decreases-chunks
decreases-chunks g l = 4294967295 - l.n
