-- The statements that make a database of a later version of one of version 1, or of none.
use Rattle.tables.proofs.Prelude.{◌≡◌, ◌≢◌, ◌∙◌, ◌&&◌, ◌||◌, ℕ, pos, Bool, true, false, cond, not, List, [], ◌∷◌, map, filter, is_some, Some, None, Option, Ok, Err, Result, OnOk, IsTrue, refl, sym, ap, subst, list_any, Null, Int, lit, Insert, Values, catalog_tree, is_table_row, cast_row, cast_null, cast_int, put_row, with_rowid, IsTable, IsAscending, IsSound, IsTypedBy, KeepsRows, Error, Executes, ExecutesInside, Shows, State, Schema, Database, first, means_table, inserts, next_tree, sequence, Part, repos, tokens, uploads, chunks, locks, name_of, table_for, tree_of, place_of, encode, decode, rows_in, IsTyped, Meta, meta_row, meta_in, tables_in, HasPart, HasCounts, HasWhole, IsLaid, LacksPart, counts_name, is_parent, IsBlank, Blanks, IsKept, Steps, text_for, insert_meta_text}
use Rattle.sqlite.specs.Order.{Row}
use Rattle.sqlite.specs.Tree.{Trees}
use Rattle.sqlite.specs.Table.{Table}
use Rattle.sqlite.specs.Change.{created}
use Rattle.sqlite.specs.Does.{lacks_sequence, is_acted_on}
use Rattle.sqlite_catalog.specs.Change.{without_table}
use Rattle.sqlite_schema.specs.Names.{same_name}
use Rattle.sqlite_schema.specs.declared.schema.Reference.{Reference}
use Rattle.sqlite_schema.specs.declared.schema.Keys.TheVariants.{Enforced}
use Rattle.sqlite_rules.specs.Action.{deed_for}
use Rattle.sqlite_rules.specs.declared.error.Rowids.TheVariants.{Chosen}
use Rattle.sqlite_tied.specs.Compute.{everything}
use Rattle.typed_rows.proofs.Creates.{Makes, makes}
use Rattle.typed_rows.proofs.Drops.{IsDropped, drops}
use Rattle.typed_rows.proofs.Meant.{MeansTable, PlansDrop, means_drop}
use Rattle.sqlite.specs.Term.{Term}
use Rattle.tables.specs.declared.layout.Layout.{Layout}
use Rattle.tables.specs.Layout.{Version, version_one, version_two, version_three, version_of, number_of}
use Rattle.tables.specs.Rows.{meta, retired, is_in, parts_of, tables_under, AreTyped}
use Rattle.tables.specs.Schemas.{HasParts}
use Rattle.tables.specs.Making.{drop_meta_text, with_parts, upgraded}
use Rattle.tables.specs.Runs.{IsOurs, IsOld, IsWhole, meta_of, with_fresh, raised}
use Rattle.tables.proofs.Opened.{is_low}
use Rattle.tables.proofs.Meanings.{IsCommand, has_meaning}
use Rattle.tables.proofs.Parts.{alone, kept_under, whole_of, typed_after, tables_after, tree_is, same_tree, counts_apart}
use Rattle.tables.proofs.Growing.{sequence_still, parents, plain_is, still_apart}
use Rattle.tables.proofs.Shrinking.{part_left, rows_left, lacks_left, gone, sequence_left, apart_left, parents_left}
use Rattle.tables.proofs.Stages.{plans, defined, parts_with, part_new, rows_with}

-- the tables that all versions have with one definition
abbrev pub lasting : List Part
lasting = locks ∷ chunks ∷ uploads ∷ tokens ∷ repos ∷ []

-- these tables of the version are there, made of the tables that the database had: those that last have their rows, and
-- the others have none
pub record IsUnderway (v : Version) (from : Database) (done : List Part) (db : Database) : Type 0 where
  pub parts : HasParts v done db.schema
  pub rows : (p : Part) → is_in p done ≡ true → is_in p lasting ≡ true → db.trees (tree_of db.schema p) ≡ from.trees (tree_of from.schema p)
  pub empty : (p : Part) → is_in p done ≡ true → is_in p lasting ≡ false → db.trees (tree_of db.schema p) ≡ []
  pub counts : HasCounts db.schema
  pub apart : IsAscending (λ (s t : Table). s.tree ≢ t.tree) db.schema.tables

same_part : {v : Version} (schema : Schema) (p : Part) → is_in p lasting ≡ true → HasPart version_one schema p → HasPart v schema p
same_part schema meta h has = absurd (cc)
same_part schema repos h has = record { named = has.named; found = has.found; unreferred = has.unreferred }
same_part schema tokens h has = record { named = has.named; found = has.found; unreferred = has.unreferred }
same_part schema uploads h has = record { named = has.named; found = has.found; unreferred = has.unreferred }
same_part schema chunks h has = record { named = has.named; found = has.found; unreferred = has.unreferred }
same_part schema locks h has = record { named = has.named; found = has.found; unreferred = has.unreferred }
same_part schema retired h has = absurd (cc)

was_first : (p : Part) → is_in p lasting ≡ true → is_in p (parts_of version_one) ≡ true
was_first meta h = absurd (cc)
was_first repos h = refl
was_first tokens h = refl
was_first uploads h = refl
was_first chunks h = refl
was_first locks h = refl
was_first retired h = absurd (cc)

not_meta : (p : Part) → is_in p lasting ≡ true → p ≡ meta → ⊥
not_meta p h is = absurd (let e : is_in meta lasting ≡ true = subst (λ q. is_in q lasting ≡ true) is h in cc)

any_less : {X : Type 0} (p q : X → Bool) → ((x : X) → q x ≡ false → p x ≡ false) → (xs : List X) → list_any q xs ≡ false → list_any p xs ≡ false
any_less p q less [] h = refl
any_less p q less (x ∷ xs) h = go (q x) refl h (any_less p q less xs)
  where
    go : (b : Bool) → q x ≡ b → (b || list_any q xs) ≡ false → (list_any q xs ≡ false → list_any p xs ≡ false) → (p x || list_any p xs) ≡ false
    go true e h more = absurd (cc)
    go false e h more = rw (less x e) (more h)

both_false : (a b : Bool) → a ≡ false → (a && b) ≡ false
both_false true b h = absurd (cc)
both_false false b h = refl

-- ---- `meta` is dropped

pub drop_is : PlansDrop (name_of meta) (first drop_meta_text)
unfolding everything
drop_is = (refl, (refl, refl))

module _ (v : Version) (a b : State) (count : ℕ) (old : IsOld a.now) (h : Executes drop_meta_text [] a b (Ok count)) where
  abbrev schema : Schema
  schema = a.now.schema

  abbrev tree : ℕ
  tree = tree_of schema meta

  pub has : (p : Part) → is_in p (parts_of version_one) ≡ true → HasPart version_one schema p
  has p one = old.schema.all.parts.made p one

  pub unacted : is_acted_on schema Enforced (table_for version_one meta tree) ≡ false
  unacted = any_less _ (λ (t : Table). list_any (λ (r : Reference). same_name (name_of meta) r.parent) t.references)
      (λ t none. any_less _ (λ (r : Reference). same_name (name_of meta) r.parent) (λ r other. both_false (same_name (name_of meta) r.parent) (is_some (deed_for Enforced true r)) other) t.references none) schema.tables (has meta refl).unreferred

  pub dropped : IsDropped drop_meta_text a b schema refl (means_drop schema (place_of schema meta) (name_of meta) (has meta refl).named old.schema.view drop_meta_text drop_is).plain (place_of schema meta)
      (means_drop schema (place_of schema meta) (name_of meta) (has meta refl).named old.schema.view drop_meta_text drop_is).command (table_for version_one meta tree) (has meta refl).found unacted refl
  dropped = drops drop_meta_text a b schema refl (means_drop schema (place_of schema meta) (name_of meta) (has meta refl).named old.schema.view drop_meta_text drop_is).plain (place_of schema meta)
      (means_drop schema (place_of schema meta) (name_of meta) (has meta refl).named old.schema.view drop_meta_text drop_is).command (table_for version_one meta tree) (has meta refl).found unacted refl count h

  apart_from : (p : Part) → is_in p lasting ≡ true → tree_of schema p ≢ tree
  apart_from p lasts e = not_meta p lasts (same_tree version_one schema old.laid p meta (has p (was_first p lasts)) (has meta refl) e)

  left_now : IsSound schema a.now.trees → (p : Part) → is_in p lasting ≡ false → LacksPart (without_table schema tree) p
  left_now sound meta not = gone schema tree version_one meta (has meta refl) refl sound.lists.listed.named old.schema.index old.schema.view
  left_now sound retired not = lacks_left schema tree retired (old.schema.all.parts.left retired refl)
  left_now sound repos not = absurd (cc)
  left_now sound tokens not = absurd (cc)
  left_now sound uploads not = absurd (cc)
  left_now sound chunks not = absurd (cc)
  left_now sound locks not = absurd (cc)

  pub first_underway : IsUnderway v a.now lasting b.now
  unfolding IsOurs
  first_underway = subst (λ s. IsUnderway v a.now lasting (record { schema = s; trees = b.now.trees })) (sym dropped.schema_is) record {
    parts = record { made = λ p lasts. same_part _ p lasts (part_left schema tree version_one p (has p (was_first p lasts)) (apart_from p lasts)).0; left = left_now old.ours };
    rows = λ p lasts _. rows_left schema tree version_one p (has p (was_first p lasts)) (apart_from p lasts) a.now.trees b.now.trees dropped.others;
    empty = λ p lasts not. absurd (let e : true ≡ false = sym lasts ∙ not in cc);
    counts = record {
      table = old.schema.all.counts.table;
      found = sequence_left schema tree old.schema.all.counts.table old.schema.all.counts.found (λ e. counts_apart version_one schema old.laid old.schema.all.counts meta (has meta refl) (sym e));
      unreferred = parents_left schema tree counts_name old.schema.all.counts.unreferred;
    };
    apart = apart_left schema tree old.laid.apart;
  }

-- ---- a table is made

module _ (v : Version) (from : Database) (x y : State) (count : ℕ) (p : Part) (done : List Part) (other : is_in p done ≡ false) (new : is_in p lasting ≡ false) (was : IsUnderway v from done x.now) (h : Executes (text_for v p) [] x y (Ok count)) where
  abbrev means_it : MeansTable x.now.schema (text_for v p)
  means_it = means_table x.now.schema (name_of p) (was.parts.left p other).free (text_for v p) (plans v p)

  abbrev grown : Schema
  grown = created x.now.schema (table_for v p 0)

  still_there : sequence grown ≡ Some was.counts.table
  still_there = sequence_still x.now.schema (table_for v p 0) (plain_is v p) was.counts.table was.counts.found

  counted : lacks_sequence grown ≡ false
  counted = ap (λ o. list_any (λ (t : Table). t.is_counted) grown.tables && not (is_some o)) still_there ∙ go (list_any (λ (t : Table). t.is_counted) grown.tables)
    where
      go : (b : Bool) → (b && false) ≡ false
      go true = refl
      go false = refl

  pub made : Makes (text_for v p) x y x.now.schema refl means_it.means.plain means_it.means.command means_it.text (table_for v p 0) (defined v p)
  made = makes (text_for v p) x y x.now.schema refl means_it.means.plain means_it.means.command means_it.text (table_for v p 0) (defined v p) counted count h

  pub next_underway : IsUnderway v from (p ∷ done) y.now
  next_underway = subst (λ s. IsUnderway v from (p ∷ done) (record { schema = s; trees = y.now.trees })) (sym made.schema_is) record {
    parts = parts_with v p done other x.now.schema was.parts;
    rows = rows_with v p done other x.now.schema was.parts (λ q rows. is_in q lasting ≡ true → rows ≡ from.trees (tree_of from.schema q)) x.now.trees y.now.trees made.others made.empty
        (λ lasts. absurd (let e : true ≡ false = sym lasts ∙ new in cc)) was.rows;
    empty = rows_with v p done other x.now.schema was.parts (λ q rows. is_in q lasting ≡ false → rows ≡ []) x.now.trees y.now.trees made.others made.empty (λ _. refl) was.empty;
    counts = record { table = was.counts.table; found = still_there; unreferred = parents x.now.schema (table_for v p 0) (plain_is v p) counts_name ∙ was.counts.unreferred };
    apart = still_apart x.now.schema (table_for v p 0) (plain_is v p) was.apart;
  }

-- ---- all are made

abbrev whole_list : List Part
whole_list = retired ∷ meta ∷ lasting

finished : (p : Part) → is_in p whole_list ≡ true
finished meta = refl
finished repos = refl
finished tokens = refl
finished uploads = refl
finished chunks = refl
finished locks = refl
finished retired = refl

pub empty_typed : {X : Type 0} (encode : X → Row) (decode : Row → X) (rows : List Row) → rows ≡ [] → IsTypedBy encode decode rows
empty_typed encode decode rows is = record { rise = subst IsTable (sym is) tt; same = is ∙ sym (ap (λ l. map encode (map decode l)) is) }

module _ (l : Layout) (a d : State) (old : IsOld a.now) (was : IsUnderway (version_of l) a.now whole_list d.now) (sound : IsSound d.now.schema d.now.trees) where
  lasts : (p : Part) → is_in p lasting ≡ true → d.now.trees (tree_of d.now.schema p) ≡ a.now.trees (tree_of a.now.schema p)
  lasts p h = was.rows p (finished p) h

  lasting_typed : (p : Part) → is_in p lasting ≡ true → IsTyped p d.now.schema d.now.trees
  lasting_typed p h = subst (IsTypedBy (encode p) (decode p)) (sym (lasts p h)) (old.typed p (was_first p h))

  new_typed : (p : Part) → is_in p lasting ≡ false → IsTyped p d.now.schema d.now.trees
  new_typed p h = empty_typed (encode p) (decode p) (d.now.trees (tree_of d.now.schema p)) (was.empty p (finished p) h)

  all_typed : (p : Part) → IsTyped p d.now.schema d.now.trees
  all_typed meta = new_typed meta refl
  all_typed repos = lasting_typed repos refl
  all_typed tokens = lasting_typed tokens refl
  all_typed uploads = lasting_typed uploads refl
  all_typed chunks = lasting_typed chunks refl
  all_typed locks = lasting_typed locks refl
  all_typed retired = new_typed retired refl

  pub kept_now : IsKept d.now
  unfolding IsOurs IsWhole AreTyped
  kept_now = record {
    schema = record {
      layout = l;
      parts = λ p. was.parts.made p (finished p);
      counts = was.counts;
      laid = record { apart = was.apart; low = is_low (filter is_table_row (d.now.trees catalog_tree)) d.now.schema.tables sound.lists.listed.tables };
    };
    typed = all_typed;
    ours = sound;
  }

-- ---- the row of `meta`

cast_meta : (v : Version) (tree : ℕ) → cast_row (table_for v meta tree) (Int (pos 1) ∷ Null ∷ Int (pos (number_of v)) ∷ []) ≡ Int (pos 1) ∷ Null ∷ Int (pos (number_of v)) ∷ []
cast_meta v tree = λ i. cast_int (pos 1) i ∷ cast_null i ∷ cast_int (pos (number_of v)) i ∷ []

abbrev meta_terms : Version → List Term
meta_terms v = lit (Int (pos 1)) ∷ lit Null ∷ lit (Int (pos (number_of v))) ∷ []

insert_meta_is : (v : Version) (schema : Schema) → HasWhole schema → IsCommand schema (insert_meta_text v) (Insert (place_of schema meta) (Values (meta_terms v) 3))
unfolding everything
insert_meta_is version_one schema whole = has_meaning schema whole meta _ _ (refl, (refl, refl, refl))
insert_meta_is version_two schema whole = has_meaning schema whole meta _ _ (refl, (refl, refl, refl))
insert_meta_is version_three schema whole = has_meaning schema whole meta _ _ (refl, (refl, refl, refl))

numbered : (v : Version) (old new : State) (count : ℕ) (kept : IsKept old.now) → HasPart v old.now.schema meta → old.now.trees (tree_of old.now.schema meta) ≡ [] → old.in_transaction ≡ true → Executes (insert_meta_text v) [] old new (Ok count)
    → Steps (λ t. record t { meta = meta_of v ∷ [] }) old new
unfolding tables_under
numbered v old new count kept has empty inside h =
    let schema = old.now.schema in
    let whole = whole_of old.now kept in
    let tree = tree_of schema meta in
    let m = insert_meta_is v schema whole in
    let it = inserts (insert_meta_text v) [] old new schema refl (place_of schema meta) (table_for v meta tree) has.found m.plain (meta_terms v) 3 m.is refl (alone schema whole meta) count h in
    let row : new.now.trees tree ≡ put_row (meta_row (meta_of v)) (old.now.trees tree) = it.applies.rows ∙ ap (λ r. put_row (with_rowid Chosen (old.now.trees tree) r) (old.now.trees tree)) (cast_meta v tree) in
    let only : new.now.trees tree ≡ meta_row (meta_of v) ∷ [] = row ∙ ap (put_row (meta_row (meta_of v))) empty in
    let here : IsTypedBy meta_row meta_in (new.now.trees tree) = record { rise = subst IsTable (sym only) (tt, tt); same = only ∙ sym (ap (λ l. map meta_row (map meta_in l)) only) } in
    record {
      was_open = it.shown.was_open;
      is_open = it.shown.is_open;
      kept = kept_under new.now schema it.schema_is whole (typed_after schema whole meta old.now.trees new.now.trees it.applies.tables kept.typed here) it.sound;
      tables = ap (λ s. tables_under s new.now.trees) it.schema_is ∙ tables_after schema whole meta old.now.trees new.now.trees it.applies.tables ∙ (λ i. record (tables_in old) { meta = map meta_in (only i) });
      inside = it.shown.mode ∙ inside;
    }

-- ---- all four statements

module _ (l : Layout) (a b c d e : State) (n m k q : ℕ) (inside : a.in_transaction ≡ true)
    (drops_it : ExecutesInside 0 drop_meta_text [] a b (Ok n)) (makes_meta : ExecutesInside 0 (text_for (version_of l) meta) [] b c (Ok m)) (makes_retired : ExecutesInside 0 (text_for (version_of l) retired) [] c d (Ok k))
    (adds_row : ExecutesInside 0 (insert_meta_text (version_of l)) [] d e (Ok q)) where
  upgrades : (IsTrue a.is_open → IsOld a.now) → Steps (raised (version_of l)) a e
  unfolding tables_under upgraded raised
  upgrades when_open =
      let old = when_open drops_it.1.was_open in
      let one = first_underway (version_of l) a b n old drops_it.0 in
      let two = next_underway (version_of l) a.now b c m meta lasting refl refl one makes_meta.0 in
      let three = next_underway (version_of l) a.now c d k retired (meta ∷ lasting) refl refl two makes_retired.0 in
      let sound = (made (version_of l) a.now c d k retired (meta ∷ lasting) refl refl two makes_retired.0).sound in
      let kept = kept_now l a d old three sound in
      let last = numbered (version_of l) d e q kept (three.parts.made meta refl) (three.empty meta refl refl) makes_retired.1.mode adds_row.0 in
      let schema_b : b.now.schema ≡ without_table a.now.schema (tree_of a.now.schema meta) = (dropped (version_of l) a b n old drops_it.0).schema_is in
      let schema_c : c.now.schema ≡ created b.now.schema (table_for (version_of l) meta 0) = (made (version_of l) a.now b c m meta lasting refl refl one makes_meta.0).schema_is in
      let schema_d : d.now.schema ≡ created c.now.schema (table_for (version_of l) retired 0) = (made (version_of l) a.now c d k retired (meta ∷ lasting) refl refl two makes_retired.0).schema_is in
      let schema_is : d.now.schema ≡ upgraded (version_of l) a.now.schema = schema_d ∙ ap (λ s. created s (table_for (version_of l) retired 0)) (schema_c ∙ ap (λ s. created s (table_for (version_of l) meta 0)) schema_b) in
      let rows : (p : Part) → is_in p lasting ≡ true → d.now.trees (tree_of d.now.schema p) ≡ a.now.trees (tree_of a.now.schema p) = λ p h. three.rows p (finished p) h in
      record {
        was_open = drops_it.1.was_open;
        is_open = last.is_open;
        kept = last.kept;
        tables = last.tables ∙ (λ i. record {
          meta = meta_of (version_of l) ∷ [];
          repos = map (decode repos) (rows repos refl i);
          tokens = map (decode tokens) (rows tokens refl i);
          uploads = map (decode uploads) (rows uploads refl i);
          chunks = map (decode chunks) (rows chunks refl i);
          locks = map (decode locks) (rows locks refl i);
          retired = map (decode retired) (three.empty retired refl refl i);
          schema = schema_is i;
        });
        inside = last.inside;
      }

-- the same with any texts that are those of the layout
module _ (l : Layout) (a b c d e : State) (n m k q : ℕ) (inside : a.in_transaction ≡ true) (meta_sql row_sql : List ℕ)
    (meta_is : meta_sql ≡ text_for (version_of l) meta) (row_is : row_sql ≡ insert_meta_text (version_of l))
    (drops_it : ExecutesInside 0 drop_meta_text [] a b (Ok n)) (makes_meta : ExecutesInside 0 meta_sql [] b c (Ok m))
    (makes_retired : ExecutesInside 0 (text_for (version_of l) retired) [] c d (Ok k))
    (adds_row : ExecutesInside 0 row_sql [] d e (Ok q)) where
  pub upgrades_by : (IsTrue a.is_open → IsOld a.now) → Steps (raised (version_of l)) a e
  upgrades_by =
      upgrades l a b c d e n m k q inside drops_it (subst (λ sql. ExecutesInside 0 sql [] b c (Ok m)) meta_is makes_meta)
      makes_retired (subst (λ sql. ExecutesInside 0 sql [] d e (Ok q)) row_is adds_row)

-- ---- a new database

-- a database with the tables of version 1 and no rows is one of version 1
blank_is_old : (db : Database) → IsBlank (parts_of version_one) db → IsSound db.schema db.trees → IsOld db
unfolding IsOurs
blank_is_old db blank sound = record {
  schema = record { all = record { parts = blank.parts; counts = blank.counts refl }; index = blank.clear.0; view = blank.clear.1 };
  laid = record { apart = blank.apart; low = is_low (filter is_table_row (db.trees catalog_tree)) db.schema.tables sound.lists.listed.tables };
  typed = λ p one. empty_typed (encode p) (decode p) (db.trees (tree_of db.schema p)) (blank.empty p one);
  ours = sound;
}

pub fresh_all : (v : Version) (a b c : State) → Blanks [] (parts_of version_one) a b → (IsTrue a.is_open → IsBlank [] a.now) → ((IsTrue b.is_open → IsOld b.now) → Steps (raised v) b c) → Steps (with_fresh v a.now.schema) a c
unfolding with_fresh with_parts IsOurs tables_under raised
fresh_all v a b c first blank second =
    let made = first.blank (blank first.was_open) in
    let it = second (λ _. blank_is_old b.now made.0 made.1) in
    let grown : b.now.schema ≡ with_parts (parts_of version_one) a.now.schema = first.grown (blank first.was_open) a.now.schema refl in
    record {
      was_open = first.was_open;
      is_open = it.is_open;
      kept = it.kept;
      tables = it.tables ∙ (λ i. record {
        meta = meta_of v ∷ [];
        repos = map (decode repos) (made.0.empty repos refl i);
        tokens = map (decode tokens) (made.0.empty tokens refl i);
        uploads = map (decode uploads) (made.0.empty uploads refl i);
        chunks = map (decode chunks) (made.0.empty chunks refl i);
        locks = map (decode locks) (made.0.empty locks refl i);
        retired = [];
        schema = upgraded v (grown i);
      });
      inside = it.inside;
    }

-- the same, whatever the second call returned
pub fresh_ok : {T E : Type 0} (v : Version) (a b c : State) (r : Result T E) → Blanks [] (parts_of version_one) a b → (IsTrue a.is_open → IsBlank [] a.now) → ((IsTrue b.is_open → IsOld b.now) → OnOk r (Steps (raised v) b c)) → OnOk r (Steps (with_fresh v a.now.schema) a c)
fresh_ok v a b c (Ok x) first blank second = fresh_all v a b c first blank second
fresh_ok v a b c (Err e) first blank second = tt
