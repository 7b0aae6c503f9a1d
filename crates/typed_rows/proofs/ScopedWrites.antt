-- A statement that names one table means what it means over that table alone.
use Rattle.typed_rows.proofs.Prelude.{◌≡◌, ℕ, ◌^◌, nat_lt, nat_le, ◌==◌, Bool, true, false, ◌&&◌, List, [], ◌∷◌, ◌++◌, refl, Some, None, Option, slice_get, Ok, Err, find, if◌then◌else◌, sym, ap, ◌∙◌, inner, end, Command, Program, table_named, Expr, Draft, Mismatch, Checked, and_then, Lowering, ◌>>=◌, ◌<$>◌, fresh, max_budget, Name, lower, value_of, on_table, new_rows, first_of_both, second_of_both}
use Rattle.sqlite_sql.specs.Term.{Term, col}
use Rattle.sqlite_schema.specs.declared.schema.Schema.{Schema}
use Rattle.sqlite_schema.specs.declared.schema.Table.{Table}
use Rattle.sqlite_schema.specs.declared.command.Command.TheVariants.{Insert, Update, Delete}
use Rattle.sqlite_ast.specs.declared.Rows.{Rows}
use Rattle.sqlite_typing.specs.Types.{row_classes, accepts_after, is_count}
use Rattle.sqlite_draft.specs.Query.{query_of}
use Rattle.sqlite_resolve.specs.declared.scope.Output.{Output}
use Rattle.sqlite_resolve.specs.Body.{tests}
use Rattle.sqlite_resolve.specs.Program.{program}
use Rattle.sqlite_resolve.specs.Write.{deleted, updated, updated_in, assigned, sets, sets_from, picked, row, with_place, over}
use Rattle.sqlite_resolve.specs.Compile.{delete, update, insert}
use Rattle.typed_rows.proofs.Scopes.{lone, is_simple, lower_same, cx, cx₀}

-- a test that is simple, or none
abbrev pub is_simple_test : Option Expr → Bool
is_simple_test None = true
is_simple_test (Some e) = is_simple 700 e

-- each value is simple
abbrev pub are_simple : List (Name × Expr) → Bool
are_simple [] = true
are_simple (set ∷ more) = is_simple 700 set.1 && are_simple more

-- the query, if its types fit, over rows of this table alone
abbrev pub program_alone : Table → Draft → Checked Program
program_alone table d =
    if accepts_after [] (query_of d) (Some (row_classes table ∷ [])) && (is_count [] (query_of d).limit && is_count [] (query_of d).offset) then Ok (record { lets = []; body = query_of d }) else Err Mismatch

-- the query reads this table and no other, and is so made a command
abbrev pub Takes : Table → (Program → Command) → Checked Draft → Command → Type 0
Takes table make (Ok d) c = (inner table.tree end ≡ (query_of d).from) × (Ok c ≡ and_then (program_alone table d) (λ p. Ok (make p)))
Takes table make (Err e) c = ⊥

module _ (schema : Schema) (at : ℕ) (table : Table) (found : slice_get schema.tables at ≡ Some table) (low : nat_lt table.tree (2 ^ 31) ≡ true) (high : nat_le (2 ^ 31) table.tree ≡ false)
    (by_tree : find (λ (t : Table). t.tree == table.tree) schema.tables ≡ Some table) where
  pub tests_same : (name : Name) (shown : List Output) (may_aggregate may_alias : Bool) (done : List Term) (test : Option Expr) → is_simple_test test ≡ true
      → tests lower (cx schema at table found low name shown may_aggregate may_alias) done test ≡ tests lower (cx₀ schema at table found low name shown may_aggregate may_alias) done test
  unfolding tests
  tests_same name shown may_aggregate may_alias done None h = refl
  tests_same name shown may_aggregate may_alias done (Some e) h = ap (λ (f : Lowering Term). (λ t. done ++ Rattle.sqlite_resolve.specs.Terms.conjuncts t) <$> f) (lower_same schema at table found low name shown may_aggregate may_alias 700 e h)

  pub program_same : (d : Draft) → (query_of d).from ≡ inner table.tree end → program schema [] d ≡ program_alone table d
  unfolding program
  program_same d from = rw (from, high, by_tree) refl

  takes : (make : Program → Command) (c : Command) (r : Checked Draft) → Takes table make r c → and_then r (λ d. and_then (program schema [] d) (λ p. Ok (make p))) ≡ Ok c
  takes make c (Ok d) h = ap (λ r. and_then r (λ p. Ok (make p))) (program_same d (sym h.0)) ∙ sym h.1
  takes make c (Err e) h = absurd h

  picked_same : (project : List Term) (test : Option Expr) → is_simple_test test ≡ true
      → picked (over schema at table.name) table project test ≡ picked (over (lone table) 0 table.name) table project test
  unfolding picked
  picked_same project test h = ap (λ (f : Lowering (List Term)). f >>= (λ filter. Rattle.sqlite_resolve.specs.Lowering.take_steps >>= (λ steps. Rattle.sqlite_resolve.specs.Lowering.pure (Rattle.sqlite_resolve.specs.Write.simple (Rattle.sqlite_draft.specs.declared.join.Step.TheVariants.Inner table.tree ∷ steps) filter project))))
      (tests_same table.name [] false true [] test h)

  deleted_same : (test : Option Expr) → is_simple_test test ≡ true → deleted schema at table test ≡ deleted (lone table) 0 table test
  unfolding deleted
  deleted_same test h = ap (λ f. value_of (f (fresh 2 max_budget))) (picked_same (col 1 0 ∷ []) test h)

  sets_same : (done : List ℕ × List Term) (all : List (Name × Expr)) → are_simple all ≡ true → sets_from (over schema at table.name) table done all ≡ sets_from (over (lone table) 0 table.name) table done all
  sets_same done [] h = refl
  sets_same done (set ∷ more) h = λ i s. and_then (with_place table done.0 set.0) (λ places. and_then (lower_same schema at table found low table.name [] false true 700 set.1 (first_of_both (is_simple 700 set.1) (are_simple more) h) i s)
      (λ r. sets_same (places, done.1 ++ r.0 ∷ []) more (second_of_both (is_simple 700 set.1) (are_simple more) h) i r.1))

  updated_same : (all : List (Name × Expr)) (test : Option Expr) → are_simple all ≡ true → is_simple_test test ≡ true → updated schema at table all test ≡ updated (lone table) 0 table all test
  unfolding updated updated_in assigned sets
  updated_same all test h k = λ i. and_then ((sets_same ([], []) all h i >>= (λ found. Rattle.sqlite_resolve.specs.Lowering.get >>= (λ s. if Rattle.sqlite_resolve.specs.Reach.any_scans table.tree s.steps then Rattle.sqlite_resolve.specs.Lowering.fail Rattle.sqlite_resolve.specs.declared.error.CompileError.TheVariants.Unsupported else Rattle.sqlite_resolve.specs.Lowering.pure found))) (fresh 2 max_budget)) (λ r.
      and_then (row table None r.0.0 (col 1 0 ∷ []) r.0.1) (λ project. value_of (picked_same project test k i r.1)))

  module _ (name : Name) (named : table_named schema name ≡ Some at) where
    on_same : (f : ℕ → Table → Checked Command) → on_table schema name f ≡ f at table
    on_same f = rw (named, found) refl

    pub insert_same : (base : ℕ) (columns : List Name) (rows : Rows) → insert schema base name columns rows ≡ and_then (new_rows schema table base columns rows) (λ s. Ok (Insert at s))
    unfolding insert
    insert_same base columns rows = on_same _

    pub delete_is : (test : Option Expr) (c : Command) → is_simple_test test ≡ true → Takes table (Delete at) (deleted (lone table) 0 table test) c → delete schema name test ≡ Ok c
    unfolding delete
    delete_is test c h t = on_same _ ∙ ap (λ r. and_then r (λ d. and_then (program schema [] d) (λ p. Ok (Delete at p)))) (deleted_same test h) ∙ takes (Delete at) c _ t

    pub update_is : (all : List (Name × Expr)) (test : Option Expr) (c : Command) → are_simple all ≡ true → is_simple_test test ≡ true → Takes table (Update at) (updated (lone table) 0 table all test) c → update schema name all test ≡ Ok c
    unfolding update
    update_is all test c h k t = on_same _ ∙ ap (λ r. and_then r (λ d. and_then (program schema [] d) (λ p. Ok (Update at p)))) (updated_same all test h k) ∙ takes (Update at) c _ t
