-- The contracts of the calls that find the staged upload of a repository.
use Rattle.std.specs.Prelude.{find, Option, Result, IfOk, option_map, List, ℕ}
use Rattle.sqlite.specs.State.{HasCleanDisk, Survives}
use Rattle.sqlite.specs.Held.{Held, state}
use Rattle.sqlite_trees.specs.declared.store.Store.{Ghosts}
use Rattle.typed_rows.specs.Transactions.{Keeps}
use Rattle.tables.specs.declared.Store.{Store}
use Rattle.tables.specs.declared.rows.UploadId.{UploadId}
use Rattle.tables.specs.declared.rows.UploadRow.{UploadRow}
use Rattle.tables.specs.declared.fault.StoreFault.{StoreFault}
use Rattle.tables.specs.Rows.{Tables}
use Rattle.tables.specs.Statements.{is_staged_in}
use Rattle.tables.specs.Staging.{upload_number, IsUploadOf}
use Rattle.tables.specs.Remembered.{IsLastOf}
use Rattle.tables.specs.Runs.{IsReady, tables_in}
use Rattle.tables.specs.Shown.{IsHonest, IsOpen, HasTables, Moves, AddsNothing, shown}

-- the row is the staged upload of the repository, or there is none
abbrev pub IsStagedOf : List ℕ → Tables → Option UploadRow → Type 0
IsStagedOf repo t found = IsUploadOf found (find (is_staged_in repo) t.uploads)

module _ {S : Type 0} (g : Ghosts S) where
  -- if this is the last upload that the repository began, the result is the one that it has staged; nothing is changed
  pub record Seeks (old new : Held S) (last : Option UploadId) (repo : List ℕ)
      (result : Result (Option UploadRow) StoreFault) : Type 0 where
    pub answers : HasCleanDisk (state g new) → IsReady (state g old)
        → IfOk result (λ found. IsLastOf (option_map upload_number last) repo (tables_in (state g old)) → IsStagedOf repo (tables_in (state g old)) found)
    pub same : HasCleanDisk (state g new) → Keeps (state g old) (state g new)
    pub survives : Survives (state g old) (state g new) (λ _. ⊥)

  -- the result is the upload that the repository has staged, of those that the store shows; the tables are unchanged
  pub record Finds (old new : Store S) (repo : List ℕ) (result : Result (Option UploadRow) StoreFault) : Type 0 where
    pub answers : IsHonest g new → HasTables g old
        → IfOk result (λ found. IsOpen g new → IsStagedOf repo (shown g new) found)
    pub same : Moves g (λ t. t) old new
    pub adds : AddsNothing g old new
