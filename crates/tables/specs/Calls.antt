-- The contracts of the functions on a connection, each as one definition.
use Rattle.std.specs.Prelude.{◌≡◌, false, List, [], Result, IfOk, OnOk, OnErr, IsTrue}
use Rattle.sqlite.specs.Tree.{Trees}
use Rattle.sqlite.specs.State.{State, HasCleanDisk, Shows, IsRolledBack, Survives}
use Rattle.sqlite.specs.Held.{Held, state}
use Rattle.sqlite_trees.specs.declared.store.Store.{Ghosts}
use Rattle.typed_rows.specs.Transactions.{Keeps, Inside}
use Rattle.tables.specs.declared.fault.StoreFault.{StoreFault}
use Rattle.tables.specs.Layout.{Version, version_one}
use Rattle.tables.specs.Rows.{Part, Meta, Tables, parts_of}
use Rattle.tables.specs.Making.{IsBlank}
use Rattle.tables.specs.Runs.{IsReady, IsOld, HasMeta, IsAfter, Blanks, Leads, Steps, tables_in, with_fresh, raised}

module _ {S : Type 0} (g : Ghosts S) where
  -- ---- inside a transaction

  -- the claim, if the connection of the transaction had the tables, on a clean disk
  abbrev pub IfReady : Held S → Held S → Type 0 → Type 0
  IfReady old new A = HasCleanDisk (state g new) → IsTrue old.in_transaction → IsReady (state g old) → A

  -- if the result is Ok, this step was made
  abbrev pub MakesStep : {T E : Type 0} → Held S → Held S → Result T E → (Tables → Tables) → Type 0
  MakesStep old new result step = IfReady old new (OnOk result (Steps step (state g old) (state g new)))

  -- if the result is Ok, the connection was open, and this relates its tables and the value
  abbrev pub Says : {T E : Type 0} → Held S → Held S → Result T E → (Tables → T → Type 0) → Type 0
  Says old new result P =
      IfReady old new (IfOk result (λ x. IsTrue (state g old).is_open × P (tables_in (state g old)) x))

  -- a call that makes this step
  pub record Does {T E : Type 0} (old new : Held S) (result : Result T E) (step : Tables → Tables) : Type 0 where
    pub within : Inside g old new result
    pub ok : MakesStep old new result step

  -- if the result is Ok, a database with some of the tables of version 1, and no rows in them, got more
  abbrev pub MakesBlank : {T E : Type 0} → Held S → Held S → Result T E → List Part → List Part → Type 0
  MakesBlank old new result before after =
      HasCleanDisk (state g new) → IsTrue old.in_transaction
      → OnOk result (Blanks before after (state g old) (state g new))

  -- if the result is Ok, a database with none of our tables got those of version 1
  abbrev pub MakesFirst : {T E : Type 0} → Held S → Held S → Result T E → Type 0
  MakesFirst old new result = MakesBlank old new result [] (parts_of version_one)

  -- if the result is Ok, a database with none of our tables got the fresh ones
  abbrev pub MakesFresh : {T E : Type 0} → Version → Held S → Held S → Result T E → Type 0
  MakesFresh v old new result =
      HasCleanDisk (state g new) → IsTrue old.in_transaction → (IsTrue (state g old).is_open → IsBlank [] (state g old).now)
      → OnOk result (Steps (with_fresh v (state g old).now.schema) (state g old) (state g new))

  -- if the result is Ok, a database of version 1 became one of this version
  abbrev pub Upgrades : {T E : Type 0} → Version → Held S → Held S → Result T E → Type 0
  Upgrades v old new result =
      HasCleanDisk (state g new) → IsTrue old.in_transaction → (IsTrue (state g old).is_open → IsOld (state g old).now)
      → OnOk result (Steps (raised v) (state g old) (state g new))

  -- ---- a transaction of its own

  -- if the result is Ok, the connection was open, and this relates its tables and the value
  abbrev pub Answers : {T E : Type 0} → Held S → Held S → Result T E → (Tables → T → Type 0) → Type 0
  Answers old new result P =
      HasCleanDisk (state g new) → IsReady (state g old)
      → IfOk result (λ x. IsTrue (state g old).is_open × P (tables_in (state g old)) x)

  -- a call that only reads
  pub record Looks {T : Type 0} (old new : Held S) (result : Result T StoreFault)
      (P : Tables → T → Type 0) : Type 0 where
    pub answers : Answers old new result P
    pub same : HasCleanDisk (state g new) → Keeps (state g old) (state g new)
    pub survives : Survives (state g old) (state g new) (λ _. ⊥)

  -- a call that reads `meta` alone, in a database of any version
  pub record LooksAtMeta {T : Type 0} (old new : Held S) (result : Result T StoreFault)
      (P : List Meta → T → Type 0) : Type 0 where
    pub answers : (v : Version) → HasCleanDisk (state g new)
        → (IsTrue (state g old).is_open → HasMeta v (state g old).now)
        → IfOk result (λ x. IsTrue (state g old).is_open × P (tables_in (state g old)).meta x)
    pub same : HasCleanDisk (state g new) → Keeps (state g old) (state g new)
    pub survives : Survives (state g old) (state g new) (λ _. ⊥)

  -- a stop now leaves what the connection shows
  abbrev pub IsSaved : State → Type 0
  IsSaved s = (trees : Trees) → s.may_leave trees → trees ≡ s.now.trees

  -- a call that makes this step and commits it, or changes nothing, on a connection for which `Given` holds
  pub record Commits {T : Type 0} (Given : Type 0) (old new : Held S) (result : Result T StoreFault)
      (step : Tables → Tables) : Type 0 where
    pub ok : HasCleanDisk (state g new) → Given
        → OnOk result (IsTrue (state g old).is_open × IsAfter step (state g old).now (state g new).now)
    pub is_open : HasCleanDisk (state g new) → OnOk result (IsTrue (state g new).is_open)
    pub saved : HasCleanDisk (state g new) → OnOk result (IsSaved (state g new))
    pub err : HasCleanDisk (state g new) → OnErr result (Keeps (state g old) (state g new))
    pub clean : HasCleanDisk (state g new) → HasCleanDisk (state g old)
    pub stop : Given → Survives (state g old) (state g new) (Leads step (state g old))

  -- a commit of what the transaction shows, or its rollback
  pub record Finishes {T : Type 0} (old new : Held S) (result : Result T StoreFault) : Type 0 where
    pub ok : HasCleanDisk (state g new)
        → OnOk result (Shows (state g old) (state g new) (state g old).now (state g old).now false)
    pub err : HasCleanDisk (state g new) → IsTrue old.in_transaction
        → OnErr result (IsRolledBack (state g old) (state g new))
    pub survives : Survives (state g old) (state g new) (λ trees. trees ≡ (state g old).now.trees)

  -- the whole contract of a call that makes a step of the tables
  pub record Transacts {T : Type 0} (old new : Held S) (result : Result T StoreFault)
      (step : Tables → Tables) (P : Tables → T → Type 0) : Type 0 where
    pub answers : Answers old new result P
    pub commits : Commits (IsReady (state g old)) old new result step
