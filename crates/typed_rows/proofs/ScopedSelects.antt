-- The query of a SELECT from one table.
use Rattle.typed_rows.proofs.Prelude.{◌≡◌, ℕ, ◌^◌, nat_lt, nat_le, ◌==◌, Bool, true, false, not, ◌&&◌, List, [], ◌∷◌, map, refl, Some, None, Option, slice_get, Ok, Err, find, length, sym, ap, ◌∙◌, inner, end, Command, table_named, Collation, Draft, Expr, Sort, Bound, Level, Checked, and_then, Lowering, ◌>>=◌, pure, get, fresh, max_budget, Name, Context, outputs_from, sorts_from, lower, inside, assembled, paging}
use Rattle.sqlite_sql.specs.Term.{Term}
use Rattle.sqlite_schema.specs.declared.schema.Schema.{Schema}
use Rattle.sqlite_schema.specs.declared.schema.Table.{Table}
use Rattle.sqlite_schema.specs.declared.program.Table.{Table as Let}
use Rattle.sqlite_schema.specs.declared.command.Command.TheVariants.{Select as Selects}
use Rattle.sqlite_draft.specs.declared.join.Step.TheVariants.{Inner}
use Rattle.sqlite_draft.specs.Query.{query_of}
use Rattle.sqlite_ast.specs.declared.Shown.{Shown}
use Rattle.sqlite_ast.specs.declared.Origin.TheVariants as origin
use Rattle.sqlite_ast.specs.declared.Source.{Source, out-Source}
use Rattle.sqlite_ast.specs.declared.Core.{Core, out-Core}
use Rattle.sqlite_ast.specs.declared.Select.{Select, out-Select}
use Rattle.sqlite_resolve.specs.declared.scope.Output.{Output}
use Rattle.sqlite_resolve.specs.declared.body.Body.{Body}
use Rattle.sqlite_resolve.specs.declared.body.Joined.{Joined}
use Rattle.sqlite_resolve.specs.declared.select.Clauses.{Clauses}
use Rattle.sqlite_resolve.specs.declared.state.State.{State}
use Rattle.sqlite_resolve.specs.Lowering.{take_slot}
use Rattle.sqlite_resolve.specs.Body.{table_in, bound, bounds, outputs, result, matching, joins, join, shared, inner_join, tests, body}
use Rattle.sqlite_resolve.specs.Order.{keys, sorts}
use Rattle.sqlite_resolve.specs.Select.{having, parts, named}
use Rattle.sqlite_resolve.specs.Program.{Building, Shown as Shown', source, sources, viewing, single, alone, with, whole, level, query_to, query, program}
use Rattle.sqlite_resolve.specs.Compile.{read}
use Rattle.typed_rows.proofs.Scopes.{lone, context_over}
use Rattle.typed_rows.proofs.ScopedWrites.{is_simple_test, tests_same, program_alone, program_same}
use Rattle.typed_rows.proofs.ScopedReads.{are_shown, are_sorts, outputs_same, sorts_same}

-- FROM is the table of this name
abbrev pub IsPlainSource : Name → List Source → Type 0
IsPlainSource wanted (s ∷ []) = ((out-Source s).origin ≡ origin.Table wanted) × ((out-Source s).alias ≡ None) × ((out-Source s).using ≡ []) × ((out-Source s).is_left ≡ false) × ((out-Source s).on ≡ None)
IsPlainSource wanted _ = ⊥

-- a SELECT of simple terms from the table of this name, ungrouped
pub record IsPlainSelect (wanted : Name) (s : Select) : Type 0 where
  pub alone : (out-Select s).with ≡ []
  pub single : (out-Select s).others ≡ []
  pub source : IsPlainSource wanted (out-Core (out-Select s).first).from
  pub ungrouped : (out-Core (out-Select s).first).group ≡ []
  pub whole : (out-Core (out-Select s).first).having ≡ None
  pub shown : are_shown (out-Core (out-Select s).first).shown ≡ true
  pub filter : is_simple_test (out-Core (out-Select s).first).filter ≡ true
  pub order : are_sorts (out-Select s).order ≡ true

abbrev pub bound_at : ℕ → Name → Bound
bound_at at name = record { name = name; table = at; slot = 1; shared = [] }

abbrev pub joined_of : ℕ → List Term → Joined
joined_of tree kept = record { steps = Inner tree ∷ []; filter = kept }

abbrev pub body_of : List Bound → List Output → Joined → Body
body_of tables columns joined = record { level = record { tables = tables; shown = columns }; steps = joined.steps; filter = joined.filter }

-- ORDER BY, after the other clauses
abbrev pub ordered : (Level → Bool → Context) → List Sort → Body → Lowering Clauses
ordered c by_order whole = get >>= (λ so_far. sorts_from lower (c whole.level (not (true && length so_far.aggregates == 0))) whole.level.shown [] by_order >>= (λ order.
    pure (record { body = whole; is_grouped = not (true && length so_far.aggregates == 0); keys = []; collations = []; having = []; order = order })))

abbrev pub clauses : (List Output → Bool → Context) → List Bound → ℕ → List Shown → Option Expr → List Sort → Lowering Clauses
clauses c tables tree shown filter by_order =
    outputs_from lower (c [] true) tables [] shown >>= (λ columns. tests lower (c columns false) [] filter >>= (λ kept. ordered (λ level grouped. c columns grouped) by_order (body_of tables columns (joined_of tree kept))))

flat : {A B C : Type 0} (o : Lowering A) (f : A → Lowering B) (g : B → Lowering C) → ((o >>= f) >>= g) ≡ (o >>= (λ a. f a >>= g))
flat {A} {B} {C} o f g = λ i s. go (o s) i
  where
    go : (r : Checked (A × State)) → and_then (and_then r (λ r. f r.0 r.1)) (λ q. g q.0 q.1) ≡ and_then r (λ r. and_then (f r.0 r.1) (λ q. g q.0 q.1))
    go (Ok r) = refl
    go (Err e) = refl

-- the query, and the names and collations of its columns
abbrev pub shown_by : (List Output → Bool → Context) → List Bound → ℕ → Core → List Sort → Term × Term → Checked (Draft × List Name × List (Option Collation))
shown_by c tables tree core by_order page =
    and_then (clauses c tables tree (out-Core core).shown (out-Core core).filter by_order (record (fresh 1 max_budget) { next = 2 })) (λ r.
    and_then (assembled (out-Core core).distinct page.0 page.1 r.0 r.1) (λ d. Ok (d, map (λ (o : Output). o.name) r.0.body.level.shown, map (λ (o : Output). o.carried.collation) r.0.body.level.shown)))

-- the query reads this table and no other, and is this command
abbrev pub TakesShown : Table → Checked (Draft × List Name × List (Option Collation)) → Command → Type 0
TakesShown table (Ok r) c = (inner table.tree end ≡ (query_of r.0).from) × (Ok c ≡ and_then (program_alone table r.0) (λ p. Ok (Selects p r.1)))
TakesShown table (Err e) c = ⊥

abbrev pub TakesPage : Table → ℕ → Name → Select → Checked (Term × Term) → Command → Type 0
TakesPage table at wanted s (Ok page) c = TakesShown table (shown_by (λ shown grouped. context_over (lone table) 0 wanted shown grouped true) (bound_at at wanted ∷ []) table.tree (out-Select s).first (out-Select s).order page) c
TakesPage table at wanted s (Err e) c = ⊥

module _ (schema : Schema) (at : ℕ) (table : Table) (found : slice_get schema.tables at ≡ Some table) (low : nat_lt table.tree (2 ^ 31) ≡ true) (high : nat_le (2 ^ 31) table.tree ≡ false)
    (by_tree : find (λ (t : Table). t.tree == table.tree) schema.tables ≡ Some table) (wanted : Name) (table_is : table_named schema wanted ≡ Some at) where
  flattened : (by_order : List Sort) (shown : List Shown) (filter : Option Expr) →
      ((outputs_from lower (context_over schema at wanted [] true true) (bound_at at wanted ∷ []) [] shown >>= (λ columns. (tests lower (context_over schema at wanted columns false true) [] filter >>= (λ kept. pure (joined_of table.tree kept)))
      >>= (λ joined. pure (body_of (bound_at at wanted ∷ []) columns joined)))) >>= ordered (inside schema) by_order)
      ≡ clauses (λ shown grouped. context_over schema at wanted shown grouped true) (bound_at at wanted ∷ []) table.tree shown filter by_order
  flattened by_order shown filter =
      let all = outputs_from lower (context_over schema at wanted [] true true) (bound_at at wanted ∷ []) [] shown in
      let test = λ (columns : List Output). tests lower (context_over schema at wanted columns false true) [] filter in
      let made = λ (columns : List Output) (joined : Joined). let it : Lowering Body = pure (body_of (bound_at at wanted ∷ []) columns joined) in it in
      let joins = λ (kept : List Term). let it : Lowering Joined = pure (joined_of table.tree kept) in it in
      flat all (λ columns. (test columns >>= joins) >>= made columns) (ordered (inside schema) by_order)
      ∙ (λ i. all >>= (λ columns. (flat (test columns >>= joins) (made columns) (ordered (inside schema) by_order) ∙ flat (test columns) joins (λ joined. made columns joined >>= ordered (inside schema) by_order)) i))

  parts_is : (core : Core) (s : Source) (by_order : List Sort) → (out-Core core).from ≡ s ∷ [] → IsPlainSource wanted (s ∷ []) → (out-Core core).group ≡ [] → (out-Core core).having ≡ None
      → parts schema core by_order (fresh 1 max_budget) ≡ clauses (λ shown grouped. context_over schema at wanted shown grouped true) (bound_at at wanted ∷ []) table.tree (out-Core core).shown (out-Core core).filter by_order (record (fresh 1 max_budget) { next = 2 })
  unfolding parts body bounds bound table_in result matching joins join shared inner_join tests having keys sorts outputs take_slot
  parts_is core s by_order from one group kept = rw (from, one.0, table_is, one.1, one.2, found, one.3, one.4, group, kept) (λ i. flattened by_order (out-Core core).shown (out-Core core).filter i (record (fresh 1 max_budget) { next = 2 }))

  clauses_same : (tables : List Bound) (shown : List Shown) (filter : Option Expr) (by_order : List Sort) → are_shown shown ≡ true → is_simple_test filter ≡ true → are_sorts by_order ≡ true
      → clauses (λ shown grouped. context_over schema at wanted shown grouped true) tables table.tree shown filter by_order ≡ clauses (λ shown grouped. context_over (lone table) 0 wanted shown grouped true) tables table.tree shown filter by_order
  clauses_same tables shown filter by_order a b d = λ i.
      outputs_same schema at table found low wanted [] true true tables [] shown a i >>= (λ columns. tests_same schema at table found low high by_tree wanted columns false true [] filter b i >>= (λ kept. get >>= (λ so_far.
      sorts_same schema at table found low wanted columns (not (true && length so_far.aggregates == 0)) true columns [] by_order d i >>= (λ order.
      pure (record { body = body_of tables columns (joined_of table.tree kept); is_grouped = not (true && length so_far.aggregates == 0); keys = []; collations = []; having = []; order = order })))))

  named_same : (s : Select) → IsPlainSelect wanted s → (page : Term × Term)
      → named schema (out-Select s).first (out-Select s).order page ≡ shown_by (λ shown grouped. context_over (lone table) 0 wanted shown grouped true) (bound_at at wanted ∷ []) table.tree (out-Select s).first (out-Select s).order page
  unfolding named
  named_same s plain page = go (out-Core (out-Select s).first).from refl plain.source
    where
      go : (from : List Source) → (out-Core (out-Select s).first).from ≡ from → IsPlainSource wanted from
          → named schema (out-Select s).first (out-Select s).order page ≡ shown_by (λ shown grouped. context_over (lone table) 0 wanted shown grouped true) (bound_at at wanted ∷ []) table.tree (out-Select s).first (out-Select s).order page
      go [] e one = absurd one
      go (src ∷ []) e one = ap (λ r. and_then r (λ r. and_then (assembled (out-Core (out-Select s).first).distinct page.0 page.1 r.0 r.1) (λ d. Ok (d, map (λ (o : Output). o.name) r.0.body.level.shown, map (λ (o : Output). o.carried.collation) r.0.body.level.shown))))
          (parts_is (out-Select s).first src (out-Select s).order e one plain.ungrouped plain.whole ∙ ap (λ (f : Lowering Clauses). f (record (fresh 1 max_budget) { next = 2 })) (clauses_same (bound_at at wanted ∷ []) (out-Core (out-Select s).first).shown (out-Core (out-Select s).first).filter (out-Select s).order plain.shown plain.filter plain.order))
      go (a ∷ b ∷ more) e one = absurd one

  level_is : (q : Schema → Select → Building Shown') (s : Select) (page : Term × Term) (shown : Draft × List Name × List (Option Collation)) → IsPlainSelect wanted s → paging schema s ≡ Ok page → named schema (out-Select s).first (out-Select s).order page ≡ Ok shown
      → level q schema s [] ≡ Ok (shown, [])
  unfolding level with whole alone single sources source viewing
  level_is q s page shown plain paged is = go (out-Core (out-Select s).first).from refl plain.source
    where
      go : (from : List Source) → (out-Core (out-Select s).first).from ≡ from → IsPlainSource wanted from → level q schema s [] ≡ Ok (shown, [])
      go [] e one = absurd one
      go (src ∷ []) e one = rw (plain.alone, plain.single, paged, e, one.0, is) refl
      go (a ∷ b ∷ more) e one = absurd one

  pub read_is : (s : Select) (c : Command) → IsPlainSelect wanted s → TakesPage table at wanted s (paging schema s) c → read schema s ≡ Ok c
  unfolding read query query_to
  read_is s c plain h = paged (paging schema s) refl h
    where
      showing : (page : Term × Term) → paging schema s ≡ Ok page → (r : Checked (Draft × List Name × List (Option Collation))) → named schema (out-Select s).first (out-Select s).order page ≡ r → TakesShown table r c → read schema s ≡ Ok c
      showing page e (Ok r) f k = ap (λ q. and_then q (λ (q : Shown' × List Let). and_then (program schema q.1 q.0.0) (λ p. Ok (Selects p q.0.1)))) (level_is (query_to 15) s page r plain e f)
          ∙ ap (λ p. and_then p (λ p. Ok (Selects p r.1))) (program_same schema at table found low high by_tree r.0 (sym k.0)) ∙ sym k.1
      showing page e (Err x) f k = absurd k

      paged : (r : Checked (Term × Term)) → paging schema s ≡ r → TakesPage table at wanted s r c → read schema s ≡ Ok c
      paged (Ok page) e k = showing page e (shown_by (λ shown grouped. context_over (lone table) 0 wanted shown grouped true) (bound_at at wanted ∷ []) table.tree (out-Select s).first (out-Select s).order page) (named_same s plain page) k
      paged (Err x) e k = absurd k
