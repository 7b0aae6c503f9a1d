-- The state of a connection after calls inside a transaction, and after whole transactions.
use Rattle.std.specs.Prelude.{◌≡◌, Result, OnOk, IsTrue}
use Rattle.sqlite.specs.State.{State, HasCleanDisk, KeepsCommit, Survives}
use Rattle.sqlite.specs.Held.{Held, state}
use Rattle.sqlite_trees.specs.declared.store.Store.{Ghosts}

-- while it is open, the connection shows what it showed, and has committed nothing new
pub record Keeps (old new : State) : Type 0 where
  pub was_open : IsTrue new.is_open → IsTrue old.is_open
  pub now : IsTrue new.is_open → new.now ≡ old.now
  pub committed : IsTrue new.is_open → new.committed ≡ old.committed

module _ {S : Type 0} (g : Ghosts S) where
  -- nothing was committed, the transaction continues after an Ok, and a stop leaves no more than an earlier one
  pub record Inside {T E : Type 0} (old new : Held S) (result : Result T E) : Type 0 where
    pub kept : HasCleanDisk (state g new) → IsTrue old.in_transaction → KeepsCommit (state g old) (state g new)
    pub inside : HasCleanDisk (state g new) → IsTrue old.in_transaction → OnOk result (IsTrue new.in_transaction)
    pub survives : Survives (state g old) (state g new) (λ _. ⊥)
