-- The effect of a DROP TABLE, for a table whose rowids are not counted and whose rows no foreign key acts on.
use Rattle.typed_rows.proofs.Prelude.{◌≡◌, ℕ, List, [], false, cond, slice_get, Some, None, Ok, Err, sym, ap, subst, ◌∙◌, IsSound, Enforced, Tally, Task, AtPlace, Database, understood, mode_of, Does, Writes, Shows, Executes, IsPlain, command_of, statement_of, runs_as}
use Rattle.sqlite.specs.Does.{Drops, Empties, Uncounts, is_acted_on}
use Rattle.sqlite.specs.Tree.{Trees}
use Rattle.sqlite.specs.Table.{Table}
use Rattle.sqlite.specs.Schema.{Schema}
use Rattle.sqlite.specs.Command.TheVariants.{DropTable}
use Rattle.sqlite_catalog.specs.Change.{KeepsRows, without_table}
use Rattle.sqlite.specs.State.{State}
use Rattle.typed_rows.proofs.Inserts.{went, same_value}

-- no row is removed before, since no foreign key acts on it
emptied_none : (task : Task) (db after : Trees) → is_acted_on task.schema task.keys task.table ≡ false → Empties task db (Ok after) → after ≡ db
emptied_none task db after unacted h = same_value (rw unacted at h)

-- and no row that counts for the table
uncounted_none : (task : Task) (db after : Trees) → task.table.is_counted ≡ false → Uncounts task db (Ok after) → after ≡ db
uncounted_none task db after uncounted h = same_value (rw uncounted at h)

module _ (sql : List ℕ) (old new : State) (schema : Schema) (has : old.now.schema ≡ schema) (plain : IsPlain (understood schema sql)) (at : ℕ)
    (command : command_of (understood schema sql) ≡ DropTable at) (table : Table) (found : slice_get schema.tables at ≡ Some table)
    (unacted : is_acted_on schema Enforced table ≡ false) (uncounted : table.is_counted ≡ false) where
  -- the table is gone, and the others are unchanged
  pub record IsDropped : Type 0 where
    pub schema_is : new.now.schema ≡ without_table schema table.tree
    pub sound : IsSound new.now.schema new.now.trees
    pub others : KeepsRows (without_table schema table.tree).tables old.now.trees new.now.trees
    pub shown : Shows old new new.now (cond old.in_transaction old.committed new.now) old.in_transaction

  pub drops : (count : ℕ) → Executes sql [] old new (Ok count) → IsDropped
  drops count h =
      let db = old.now.trees in
      let w = runs_as sql [] old new schema has (DropTable at) command plain count h in
      let text = statement_of sql (understood schema sql) in
      let task = λ (t : Table). let made : Task = record { limit = old.step_limit; keys = Enforced; schema = schema; table = t; params = [] } in made in
      let done = subst (λ s. Does old.step_limit (mode_of old) [] (record old.now { schema = s }) text None (DropTable at) (Ok (w.tally, new.now))) has w.changed in
      let ran = subst (λ o. AtPlace (λ t. Drops (task t) (mode_of old) db) o (Ok (w.tally, new.now))) found done in
      let emptied = went ran in
      let same_rows : emptied.0 ≡ db = emptied_none (task table) db emptied.0 unacted emptied.1 in
      let uncounts = went emptied.2 in
      let same_counts : uncounts.0 ≡ emptied.0 = uncounted_none (task table) emptied.0 uncounts.0 uncounted uncounts.1 in
      let tested = went uncounts.2 in
      let leaves = went tested.2 in
      let now : new.now ≡ leaves.0 = ap (λ (p : Tally × Database). p.1) (same_value leaves.2) in
      record {
        schema_is = ap (λ (d : Database). d.schema) now ∙ leaves.1.0;
        sound = w.sound;
        others = subst (λ (d : Database). KeepsRows (without_table schema table.tree).tables db d.trees) (sym now)
            (subst (λ (t : Trees). KeepsRows (without_table schema table.tree).tables t leaves.0.trees) (same_counts ∙ same_rows) leaves.1.1);
        shown = w.shown;
      }
