-- The effect of an INSERT of literal rows into a table with AUTOINCREMENT, whose next rowid a row of another table counts.
use Rattle.typed_rows.proofs.Prelude.{arith, ◌≡◌, ◌≢◌, ◌⊎◌, inl, inr, ℕ, ℤ, pos, ◌+ℤ◌, ◌<ℤ◌, ◌≤ℤ◌, ◌/◌, Bool, true, false, cond, is_lt, List, [], ◌∷◌, ◌++◌, length, map, fold, slice_get, Some, None, Option, unwrap_or, Ok, MatchBool, int_cmp, Ordering, Less, Equal, Greater, sym, ap, subst, refl, ◌∙◌, ints, AllByRecursion, Int, Values, Enforced, rowid, IsTable, put_row, IsTable-put_row, IsKeyedBy, insert_by, next_key, above_all, Less-from_lt, all_of, all_weaker, edit_of, taken_by, at_least, next_rowid, Applies, works, Chosen, Above, puts-map, Database, value_rows, IsSound, Written, Outcome, Task, Edited, Sourced, Counts, CountsIn, counting, stamped, rowids_for, count_of, higher, last_id, sequence, Tally, Does, OnRows, AtPlace, understood, mode_of, Shows, Executes, IsPlain, command_of, statement_of, runs_as, one_step, IsTypedBy}
use Rattle.sqlite.specs.Order.{Row}
use Rattle.sqlite.specs.Tree.{Trees}
use Rattle.sqlite.specs.Term.{Term}
use Rattle.sqlite.specs.Table.{Table}
use Rattle.sqlite.specs.Schema.{Schema}
use Rattle.sqlite_schema.specs.declared.command.Source.{Source}
use Rattle.sqlite.specs.Command.TheVariants.{Insert}
use Rattle.sqlite.specs.Rows.{Inserts as DoesInsert}
use Rattle.sqlite.specs.State.{State}
use Rattle.typed_rows.proofs.Inserts.{went, same_value}
use Rattle.typed_rows.proofs.Typed.{keys_rise, next_is, retyped, IsAppended}

-- ---- the statement

-- the count is as it was, or is set
counts_some : (task : Task) (mid next : Trees) (o : Option Row) (top : ℤ) (counters : Table) → sequence task.schema ≡ Some counters → Counts task mid o top (Ok next)
    → (next ≡ mid) ⊎ Edited task.schema task.keys mid (counting mid task.table counters top o) (Ok next)
counts_some task mid next o top counters there h = go _ h
  where
    go : (b : Bool) → MatchBool b (CountsIn task mid o top (sequence task.schema) (Ok next)) (◌≡◌ {A = Outcome Trees} (Ok next) (Ok mid)) → (next ≡ mid) ⊎ Edited task.schema task.keys mid (counting mid task.table counters top o) (Ok next)
    go true k = inr (subst (λ t. CountsIn task mid o top t (Ok next)) there k)
    go false k = inl (same_value k)

-- the rows, their count before, and the trees between the edit of the table and that of its count
record WritesCounted (task : Task) (from : Source) (db : Trees) (w : Written) (counters : Table) : Type 0 where
  rows : List Row
  counter : Option Row
  mid : Trees
  top : ℤ
  given : Sourced task.limit (record { schema = task.schema; trees = db }) (stamped task.table task.params) from (Ok rows)
  edited : Edited task.schema task.keys db (edit_of db task.table [] (Above (count_of counter)) 0 rows) (Ok mid)
  counted : (w.trees ≡ mid) ⊎ Edited task.schema task.keys mid (counting mid task.table counters top counter) (Ok w.trees)
  last : w.last ≡ last_id (edit_of db task.table [] (Above (count_of counter)) 0 rows).news

written_counted : (task : Task) (from : Source) (db : Trees) (w : Written) (counters : Table) → sequence task.schema ≡ Some counters → task.table.is_counted ≡ true → DoesInsert task from db (Ok w) → WritesCounted task from db w counters
written_counted task from db w counters there is_counted h =
    let given = went h in
    let counter = went given.2 in
    let edit = went counter.2 in
    let count = went edit.2 in
    let above : rowids_for task.table (count_of counter.0) ≡ Above (count_of counter.0) = ap (λ b. cond b (Above (count_of counter.0)) Chosen) is_counted in
    let top = fold higher (count_of counter.0) (edit_of db task.table [] (rowids_for task.table (count_of counter.0)) 0 given.0).news in
    let set = counts_some task edit.0 count.0 counter.0 top counters there count.1 in
    let same : w.trees ≡ count.0 = ap (λ (x : Written). x.trees) (same_value count.2) in
    let id : w.last ≡ last_id (edit_of db task.table [] (rowids_for task.table (count_of counter.0)) 0 given.0).news = ap (λ (x : Written). x.last) (same_value count.2) in
    record {
      rows = given.0;
      counter = counter.0;
      mid = edit.0;
      top = top;
      given = given.1;
      edited = subst (λ r. Edited task.schema task.keys db (edit_of db task.table [] r 0 given.0) (Ok edit.0)) above edit.1;
      counted = subst (λ t. (t ≡ edit.0) ⊎ Edited task.schema task.keys edit.0 (counting edit.0 task.table counters top counter.0) (Ok t)) (sym same) set;
      last = subst (λ r. w.last ≡ last_id (edit_of db task.table [] r 0 given.0).news) above id;
    }

module _ (sql : List ℕ) (params : Row) (old new : State) (schema : Schema) (has : old.now.schema ≡ schema) (at : ℕ) (table counters : Table) (found : slice_get schema.tables at ≡ Some table)
    (there : sequence schema ≡ Some counters) (is_counted : table.is_counted ≡ true) (plain : IsPlain (understood schema sql))
    (alone : (olds news : List Row) → works schema Enforced 0 table.tree olds news ≡ []) (lonely : (olds news : List Row) → works schema Enforced 0 counters.tree olds news ≡ []) where
  abbrev pub counted_rows : List Term → ℕ → List Row
  counted_rows terms width = value_rows (stamped table params) width (length terms / width) terms

  -- the rows are written under rowids above the count, and then the count follows
  pub record InsertsCounted (rows : List Row) : Type 0 where
    pub last : ℤ
    pub mid : Trees
    pub schema_is : new.now.schema ≡ schema
    pub sound : IsSound schema new.now.trees
    pub applies : Applies schema Enforced old.now.trees (edit_of old.now.trees table [] (Above last) 0 rows) mid
    pub rest : AllByRecursion (λ (t : Table). t.tree ≢ counters.tree → new.now.trees t.tree ≡ mid t.tree) schema.tables
    pub newest : new.last_rowid ≡ unwrap_or (last_id (edit_of old.now.trees table [] (Above last) 0 rows).news) old.last_rowid
    pub shown : Shows old new new.now (cond old.in_transaction old.committed new.now) old.in_transaction

  rest_is : (mid next : Trees) (top : ℤ) (counter : Option Row) → (next ≡ mid) ⊎ Edited schema Enforced mid (counting mid table counters top counter) (Ok next)
      → AllByRecursion (λ (t : Table). t.tree ≢ counters.tree → next t.tree ≡ mid t.tree) schema.tables
  rest_is mid next top counter (inl same) = all_of (λ (t : Table). t.tree ≢ counters.tree → next t.tree ≡ mid t.tree) (λ t _. ap (λ (d : Trees). d t.tree) same) schema.tables
  rest_is mid next top None (inr e) = (one_step schema Enforced mid next (counting mid table counters top None) (lonely (taken_by mid (counting mid table counters top None)) (counting mid table counters top None).news) e).tables
  rest_is mid next top (Some row) (inr e) = (one_step schema Enforced mid next (counting mid table counters top (Some row)) (lonely (taken_by mid (counting mid table counters top (Some row))) (counting mid table counters top (Some row)).news) e).tables

  pub inserts_counted : (terms : List Term) (width : ℕ) → command_of (understood schema sql) ≡ Insert at (Values terms width) → (count : ℕ) → Executes sql params old new (Ok count) → InsertsCounted (counted_rows terms width)
  inserts_counted terms width command count h =
      let db = old.now.trees in
      let task : Task = record { limit = old.step_limit; keys = Enforced; schema = schema; table = table; params = params } in
      let w = runs_as sql params old new schema has (Insert at (Values terms width)) command plain count h in
      let text = statement_of sql (understood schema sql) in
      let done = subst (λ s. Does old.step_limit (mode_of old) params (record old.now { schema = s }) text None (Insert at (Values terms width)) (Ok (w.tally, new.now))) has w.changed in
      let ran = subst (λ o. AtPlace (λ t. OnRows (record { limit = old.step_limit; keys = Enforced; schema = schema; table = t; params = params }) (mode_of old) None (Insert at (Values terms width)) db) o (Ok (w.tally, new.now))) found done in
      let first = went ran in
      let now = ap (λ (p : Tally × Database). p.1) (same_value (went (went first.2).2).2) in
      let it = written_counted task (Values terms width) db first.0 counters there is_counted first.1 in
      let change = edit_of db table [] (Above (count_of it.counter)) 0 (counted_rows terms width) in
      let edit = subst (λ rows. Edited schema Enforced db (edit_of db table [] (Above (count_of it.counter)) 0 rows) (Ok it.mid)) it.given.1 it.edited in
      let schema_is : new.now.schema ≡ schema = ap (λ (d : Database). d.schema) now in
      record {
        last = count_of it.counter;
        mid = it.mid;
        schema_is = schema_is;
        sound = subst (λ s. IsSound s new.now.trees) schema_is w.sound;
        applies = one_step schema Enforced db it.mid change (alone [] change.news) edit;
        rest = subst (λ (d : Trees). AllByRecursion (λ (t : Table). t.tree ≢ counters.tree → d t.tree ≡ it.mid t.tree) schema.tables) (sym (ap (λ (d : Database). d.trees) now)) (rest_is it.mid first.0.trees it.top it.counter it.counted);
        newest = w.last_rowid ∙ ap (λ (p : Tally × Database). unwrap_or p.0.last old.last_rowid) (same_value (went (went first.2).2).2)
            ∙ ap (λ o. unwrap_or o old.last_rowid) (it.last ∙ ap (λ rows. last_id (edit_of db table [] (Above (count_of it.counter)) 0 rows).news) it.given.1);
        shown = w.shown;
      }

-- ---- the typed rows

at_last : (a last next : ℤ) → a <ℤ next → next ≤ℤ last → a <ℤ (last +ℤ pos 1)
at_last a last next p q = omega (arith, ints)

split : (a b : ℤ) → (a <ℤ b) ⊎ (b ≤ℤ a)
split a b = grind (arith, ints)

module _ {X : Type 0} (key : X → ℤ) where
  insert_past : (xs : List X) (new : X) → AllByRecursion (λ x. key x <ℤ key new) xs → insert_by key xs new ≡ xs ++ new ∷ []
  insert_past [] new above = refl
  insert_past (x ∷ xs) new above = rw (Less-from_lt (key x) (key new) above.0) (ap (λ l. x ∷ l) (insert_past xs new above.1))

  below_next : (xs : List X) → IsKeyedBy key xs → AllByRecursion (λ x. key x <ℤ next_key key xs) xs
  below_next [] up = tt
  below_next (x ∷ xs) up = above_all key xs x up

  -- the rowid that a counted table gives to a new row is greater than each key
  pub given_above : (xs : List X) (last : ℤ) → IsKeyedBy key xs → AllByRecursion (λ x. key x <ℤ at_least (Above last) (next_key key xs)) xs
  given_above xs last up = all_weaker (λ x. key x <ℤ next_key key xs) (λ x. key x <ℤ at_least (Above last) (next_key key xs)) (λ x h. go (key x) h (split last (next_key key xs))) xs (below_next xs up)
    where
      after_last : (k : ℤ) (o : Ordering) → k <ℤ next_key key xs → next_key key xs ≤ℤ last → k <ℤ cond (is_lt o) (next_key key xs) (last +ℤ pos 1)
      after_last k Less h more = h
      after_last k Equal h more = at_last k last (next_key key xs) h more
      after_last k Greater h more = at_last k last (next_key key xs) h more

      go : (k : ℤ) → k <ℤ next_key key xs → (last <ℤ next_key key xs) ⊎ (next_key key xs ≤ℤ last) → k <ℤ at_least (Above last) (next_key key xs)
      go k h (inl less) = rw (Less-from_lt last (next_key key xs) less) h
      go k h (inr more) = after_last k (int_cmp last (next_key key xs)) h more

module _ {X : Type 0} (key : X → ℤ) (encode : X → Row) (decode : Row → X) (keyed : (x : X) → rowid (encode x) ≡ Int (key x)) (back : (x : X) → decode (encode x) ≡ x) where
  -- a row that takes a rowid above the count comes last
  pub appended_above : (rows after : List Row) (last : ℤ) (at : ℤ → X) → ((n : ℤ) → key (at n) ≡ n) → IsTypedBy encode decode rows → after ≡ put_row (encode (at (at_least (Above last) (next_rowid rows)))) rows
      → IsAppended key encode decode keyed back rows after (at (at_least (Above last) (next_key key (map decode rows))))
  appended_above rows after last at keyed_at typed is =
      let xs = map decode rows in
      let new = at (at_least (Above last) (next_key key xs)) in
      let is_new : after ≡ put_row (encode new) rows = is ∙ ap (λ n. put_row (encode (at (at_least (Above last) n))) rows) (next_is key encode decode keyed back rows typed) in
      let above : AllByRecursion (λ x. key x <ℤ key new) xs = subst (λ n. AllByRecursion (λ x. key x <ℤ n) xs) (sym (keyed_at _)) (given_above key xs last (keys_rise key encode decode keyed back rows typed)) in
      let put = is_new ∙ ap (put_row (encode new)) typed.same ∙ puts-map key encode keyed (new ∷ []) xs in
      let all = put ∙ ap (map encode) (insert_past key xs new above) in
      let decoded = retyped key encode decode keyed back (xs ++ new ∷ []) after all in
      record { typed = record { rise = subst IsTable (sym is_new) (IsTable-put_row (encode new) rows typed.rise); same = all ∙ ap (map encode) (sym decoded) }; is = decoded }
