-- The contract of the call by which a store learns which uploads are staged.
use Rattle.std.specs.Prelude.{Some, Result, IfOk}
use Rattle.std.specs.Global.{Vec}
use Rattle.sqlite_trees.specs.declared.store.Store.{Ghosts}
use Rattle.tables.specs.declared.Store.{Store}
use Rattle.tables.specs.declared.staged.Remembered.{Remembered}
use Rattle.tables.specs.declared.fault.StoreFault.{StoreFault}
use Rattle.tables.specs.Remembered.{KnowsStaged}
use Rattle.tables.specs.Shown.{IsHonest, IsOpen, HasTables, Moves, AddsNothing, shown}

-- the result is what is remembered of the uploads that the store shows; the tables are unchanged
pub record Learns {S : Type 0} (g : Ghosts S) (old new : Store S)
    (result : Result (Vec Remembered) StoreFault) : Type 0 where
  pub answers : IsHonest g new → HasTables g old
      → IfOk result (λ known. IsOpen g new → KnowsStaged (Some known) (shown g new).uploads)
  pub same : Moves g (λ t. t) old new
  pub adds : AddsNothing g old new
