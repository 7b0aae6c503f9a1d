-- The contracts of functions on a connection whose step depends on the value that they return.
use Rattle.std.specs.Prelude.{Result, IfOk, OnErr, IsTrue}
use Rattle.sqlite.specs.Tree.{Trees}
use Rattle.sqlite_trees.specs.declared.store.Store.{Ghosts}
use Rattle.sqlite.specs.State.{HasCleanDisk, Survives}
use Rattle.sqlite.specs.Held.{Held, state}
use Rattle.typed_rows.specs.Transactions.{Keeps}
use Rattle.tables.specs.declared.fault.StoreFault.{StoreFault}
use Rattle.tables.specs.Rows.{Tables}
use Rattle.tables.specs.Runs.{Steps, Leads, tables_in}
use Rattle.tables.specs.Calls.{IfReady, Commits}

module _ {S : Type 0} (g : Ghosts S) where
  -- if the result is Ok, the step of its value was made
  abbrev pub MakesItsStep : {T E : Type 0} → Held S → Held S → Result T E → (T → Tables → Tables) → Type 0
  MakesItsStep old new result step = IfReady g old new (IfOk result (λ x. Steps (step x) (state g old) (state g new)))

  -- the trees of a database after the step of some value that is so related to the tables before
  abbrev pub LeadsSome : {T : Type 0} → Held S → (T → Tables → Tables) → (Tables → T → Type 0) → Trees → Type 0
  LeadsSome {T} old step P trees = (x : T) × P (tables_in (state g old)) x × Leads (step x) (state g old) trees

  -- the whole contract of a call that makes the step of the value that it returns, on a connection for which `Given` holds
  pub record Chooses {T : Type 0} (Given : Type 0) (old new : Held S) (result : Result T StoreFault)
      (step : T → Tables → Tables) (P : Tables → T → Type 0) : Type 0 where
    pub answers : HasCleanDisk (state g new) → Given
        → IfOk result (λ x. IsTrue (state g old).is_open × P (tables_in (state g old)) x)
    pub made : IfOk result (λ x. Commits g Given old new result (step x))
    pub err : HasCleanDisk (state g new) → OnErr result (Keeps (state g old) (state g new))
    pub clean : HasCleanDisk (state g new) → HasCleanDisk (state g old)
    pub stop : Given → Survives (state g old) (state g new) (LeadsSome old step P)
