-- From what a statement means over one table to what its text means.
use Rattle.typed_rows.proofs.Prelude.{◌≡◌, ℕ, ◌+◌, ◌^◌, nat_lt, nat_le, ◌==◌, true, false, List, [], refl, Some, None, slice_get, Ok, Err, find, if◌then◌else◌, ◌&&◌, not, length, sym, subst, ◌∙◌, Command, table_named, Checked, and_then, Name, new_rows, small, with_command, is_reserved, Unsupported, reads_listing, IsPlain, command_of, statement_of, text_of, paging}
use Rattle.sqlite_schema.specs.declared.schema.Schema.{Schema}
use Rattle.sqlite_schema.specs.declared.schema.Table.{Table}
use Rattle.sqlite_schema.specs.declared.command.Command.TheVariants.{Insert, Update, Delete, CreateTable, DropTable}
use Rattle.sqlite_ast.specs.declared.Conflict.TheVariants as conflict
use Rattle.sqlite_ast.specs.declared.Statement.{Statement}
use Rattle.sqlite_ast.specs.declared.Statement.TheVariants as written
use Rattle.sqlite_syntax.specs.declared.statement.Parsed.{Parsed}
use Rattle.sqlite_resolve.specs.Write.{deleted, updated}
pub use Rattle.sqlite_resolve.specs.Compile.{first}
use Rattle.sqlite_resolve.specs.Compile.{compiled, planned, meaning, timed, returning, shows, command, insert_or_abort, create_table, drop_table, is_attached, creates}
use Rattle.sqlite_resolve.specs.Define as define
use Rattle.sqlite.specs.Listing.{understood}
use Rattle.sqlite_schema.specs.Names.{view_named}
use Rattle.typed_rows.specs.Queries.{IsFree}
use Rattle.typed_rows.proofs.Scopes.{lone}
use Rattle.typed_rows.proofs.ScopedSelects.{IsPlainSelect, TakesPage, read_is}
use Rattle.typed_rows.proofs.ScopedWrites.{is_simple_test, are_simple, Takes, insert_same, delete_is, update_is}

-- under the schema the text is this command, which shows nothing and reads the database itself
pub record Means (schema : Schema) (sql : List ℕ) (c : Command) : Type 0 where
  pub plain : IsPlain (understood schema sql)
  pub unlisted : reads_listing schema sql ≡ false
  pub command : command_of (understood schema sql) ≡ c

planned_is : (schema : Schema) (p : Parsed) (c : Command) → p.formats ≡ [] → timed schema [] p.statement ≡ [] → returning schema (small p.names + 0) p.statement ≡ Ok None → command schema [] (small p.names + 0) p.statement ≡ Ok c
    → and_then (planned schema p) (λ plan. Ok (with_command p plan)) ≡ Ok (with_command p ([], (c, None)))
unfolding planned meaning
planned_is schema p c plain untimed shown does = rw (plain, untimed, shown, does) refl

module _ (schema : Schema) (at : ℕ) (table : Table) (wanted : Name) where
  -- the statement names this table alone, and over it is this command
  abbrev pub Alone : ℕ → Statement → Command → Type 0
  Alone base (written.Insert conflict.Abort name columns rows [] []) c = (name ≡ wanted) × (table.stamps.formats ≡ []) × (Ok c ≡ and_then (new_rows schema table base columns rows) (λ s. Ok (Insert at s)))
  Alone base (written.Update name sets test []) c = (name ≡ wanted) × (are_simple sets ≡ true) × (is_simple_test test ≡ true) × Takes table (Update at) (updated (lone table) 0 table sets test) c
  Alone base (written.Delete name test []) c = (name ≡ wanted) × (is_simple_test test ≡ true) × Takes table (Delete at) (deleted (lone table) 0 table test) c
  Alone base (written.Select s) c = IsPlainSelect wanted s × TakesPage table at wanted s (paging schema s) c
  Alone base _ c = ⊥

  -- the text is such a statement, and asks for no time
  abbrev pub Plans : Checked Parsed → Command → Type 0
  Plans (Ok p) c = (p.formats ≡ []) × Alone (small p.names + 0) p.statement c
  Plans (Err e) c = ⊥

  module _ (found : slice_get schema.tables at ≡ Some table) (low : nat_lt table.tree (2 ^ 31) ≡ true) (high : nat_le (2 ^ 31) table.tree ≡ false) (by_tree : find (λ (t : Table). t.tree == table.tree) schema.tables ≡ Some table)
      (named : table_named schema wanted ≡ Some at) where
    compiles : (base : ℕ) (st : Statement) (c : Command) → Alone base st c → (timed schema [] st ≡ []) × (returning schema base st ≡ Ok None) × (command schema [] base st ≡ Ok c)
    unfolding timed returning shows command insert_or_abort
    compiles base (written.Insert conflict.Abort name columns rows [] []) c h =
        let here : table_named schema name ≡ Some at = subst (λ n. table_named schema n ≡ Some at) (sym h.0) named in
        (rw (here, found) h.1, refl, insert_same schema at table found low high by_tree name here base columns rows ∙ sym h.2)
    compiles base (written.Update name sets test []) c h =
        let here : table_named schema name ≡ Some at = subst (λ n. table_named schema n ≡ Some at) (sym h.0) named in
        (refl, refl, update_is schema at table found low high by_tree name here sets test c h.1 h.2 h.3)
    compiles base (written.Delete name test []) c h =
        let here : table_named schema name ≡ Some at = subst (λ n. table_named schema n ≡ Some at) (sym h.0) named in
        (refl, refl, delete_is schema at table found low high by_tree name here test c h.1 h.2)
    compiles base (written.Select s) c h = (refl, refl, read_is schema at table found low high by_tree wanted named s c h.0 h.1)
    compiles base _ c h = absurd h

    pub means : (sql : List ℕ) (c : Command) → Plans (first sql) c → Means schema sql c
    unfolding compiled understood
    means sql c h =
        let it = go (first sql) h in
        record { plain = rw it.1 (refl, refl); unlisted = rw it.1 refl; command = rw it.1 refl }
      where
        go : (r : Checked Parsed) → Plans r c → (p : Parsed) × (and_then r (λ p. and_then (planned schema p) (λ plan. Ok (with_command p plan))) ≡ Ok (with_command p ([], (c, None))))
        go (Ok p) k = let it = compiles (small p.names + 0) p.statement c k.1 in (p, planned_is schema p c k.0 it.0 it.1 it.2)
        go (Err e) k = absurd k

-- the statement makes a table of this name, which the program understands
abbrev pub Creates : Name → Statement → Type 0
Creates wanted (written.CreateTable def) = (def.name ≡ wanted) × (is_reserved wanted ≡ false) × (Ok CreateTable ≡ and_then (define.table [] def) (λ t. if length t.computed == length t.stamps.places && not def.resolves then Ok CreateTable else Err Unsupported))
Creates wanted _ = ⊥

-- the whole text is such a statement, and asks for no time
abbrev pub PlansTable : List ℕ → Name → Checked Parsed → Type 0
PlansTable sql wanted (Ok p) = (p.formats ≡ []) × Creates wanted p.statement × (sql ≡ text_of sql (with_command p ([], (CreateTable, None))))
PlansTable sql wanted (Err e) = ⊥

-- under the schema the text is a CREATE TABLE
pub record MeansTable (schema : Schema) (sql : List ℕ) : Type 0 where
  pub means : Means schema sql CreateTable
  pub text : statement_of sql (understood schema sql) ≡ sql

module _ (schema : Schema) (wanted : Name) (free : IsFree schema wanted) where
  creates_table : (base : ℕ) (st : Statement) → Creates wanted st → (timed schema [] st ≡ []) × (returning schema base st ≡ Ok None) × (command schema [] base st ≡ Ok CreateTable)
  unfolding timed returning command create_table is_attached creates
  creates_table base (written.CreateTable def) h =
      let here = subst (IsFree schema) (sym h.0) free in
      let plain : is_reserved def.name ≡ false = subst (λ n. is_reserved n ≡ false) (sym h.0) h.1 in
      (refl, refl, rw (here.view, here.table, here.index, plain) (sym h.2))
  creates_table base _ h = absurd h

  pub means_table : (sql : List ℕ) → PlansTable sql wanted (first sql) → MeansTable schema sql
  unfolding compiled understood
  means_table sql h =
      let it = go (first sql) h in
      record { means = record { plain = rw it.1 (refl, refl); unlisted = rw it.1 refl; command = rw it.1 refl }; text = rw it.1 (sym it.2) }
    where
      go : (r : Checked Parsed) → PlansTable sql wanted r
          → (p : Parsed) × (and_then r (λ p. and_then (planned schema p) (λ plan. Ok (with_command p plan))) ≡ Ok (with_command p ([], (CreateTable, None)))) × (sql ≡ text_of sql (with_command p ([], (CreateTable, None))))
      go (Ok p) k = let it = creates_table (small p.names + 0) p.statement k.1 in (p, planned_is schema p CreateTable k.0 it.0 it.1 it.2, k.2)
      go (Err e) k = absurd k

-- the statement drops the table of this name
abbrev pub Drops : Name → Statement → Type 0
Drops wanted (written.DropTable false name) = (name ≡ wanted) × (is_reserved wanted ≡ false)
Drops wanted _ = ⊥

-- the text is such a statement, and asks for no time
abbrev pub PlansDrop : Name → Checked Parsed → Type 0
PlansDrop wanted (Ok p) = (p.formats ≡ []) × Drops wanted p.statement
PlansDrop wanted (Err e) = ⊥

module _ (schema : Schema) (at : ℕ) (wanted : Name) (named : table_named schema wanted ≡ Some at) (unseen : view_named schema wanted ≡ None) where
  drops_table : (base : ℕ) (st : Statement) → Drops wanted st → (timed schema [] st ≡ []) × (returning schema base st ≡ Ok None) × (command schema [] base st ≡ Ok (DropTable at))
  unfolding timed returning command drop_table
  drops_table base (written.DropTable false name) h =
      let here : table_named schema name ≡ Some at = subst (λ n. table_named schema n ≡ Some at) (sym h.0) named in
      let view : view_named schema name ≡ None = subst (λ n. view_named schema n ≡ None) (sym h.0) unseen in
      let plain : is_reserved name ≡ false = subst (λ n. is_reserved n ≡ false) (sym h.0) h.1 in
      (refl, refl, rw (plain, view, here) refl)
  drops_table base _ h = absurd h

  pub means_drop : (sql : List ℕ) → PlansDrop wanted (first sql) → Means schema sql (DropTable at)
  unfolding compiled understood
  means_drop sql h =
      let it = go (first sql) h in
      record { plain = rw it.1 (refl, refl); unlisted = rw it.1 refl; command = rw it.1 refl }
    where
      go : (r : Checked Parsed) → PlansDrop wanted r → (p : Parsed) × (and_then r (λ p. and_then (planned schema p) (λ plan. Ok (with_command p plan))) ≡ Ok (with_command p ([], (DropTable at, None))))
      go (Ok p) k = let it = drops_table (small p.names + 0) p.statement k.1 in (p, planned_is schema p (DropTable at) k.0 it.0 it.1 it.2)
      go (Err e) k = absurd k
