-- Properties of each of our tables.
use Rattle.tables.proofs.Prelude.{cases_eq, arith, ◌≡◌, ◌≢◌, ◌<◌, ◌^◌, inl, inr, ℕ, true, false, List, [], ◌∷◌, Some, Bool, cond, eqb, nat_lt, nat_le, map, find, length, refl, sym, ap, subst, ◌∙◌, eq-eqb, ne_eqb, AllByRecursion, Int, rowid, overlay, IsAscending, Schema, all_has, has_got, has_found, list_any, to_ascii_lowercase, nat_cmp, is_eq, slice_cmp, Reference, at_first, is_eq-slice_cmp, bytes_eq-Decides, HasWhole, is_parent, counts_name, Part, repos, tokens, uploads, chunks, locks, name_of, table_for, place_of, tree_of, RowOf, encode, decode, rows_of, rows_in, with_rows, IsTyped, StayBut, Database, IsSound, IsKept, IsTypedBy}
use Rattle.sqlite.specs.Table.{Table}
use Rattle.sqlite_trees.specs.Tree.{Trees}
use Rattle.sqlite_rules.specs.Lists.{Has}
use Rattle.sqlite_schema.specs.Names.{same_name}
use Rattle.sqlite_rules.proofs.RuleLemmas.{same_table}
use Rattle.typed_rows.proofs.Alone.{IsAlone, alone_if}
use Rattle.tables.specs.Schemas.{HasPart, HasCounts, IsLaid}
use Rattle.tables.specs.Rows.{meta, retired, code_of, id_of, tables_under, AreTyped}
use Rattle.tables.specs.Layout.{Version, version_of}
use Rattle.tables.specs.Runs.{IsOurs, IsWhole}

pub keyed : (p : Part) (x : RowOf p) → rowid (encode p x) ≡ Int (id_of p x)
keyed meta x = refl
keyed repos x = refl
keyed tokens x = refl
keyed uploads x = refl
keyed chunks x = refl
keyed locks x = refl
keyed retired x = refl

pub back : (p : Part) (x : RowOf p) → decode p (encode p x) ≡ x
back meta x = refl
back repos x = refl
back tokens x = refl
back uploads x = refl
back chunks x = refl
back locks x = refl
back retired x = refl

pub tree_is : (v : Version) (p : Part) (n : ℕ) → (table_for v p n).tree ≡ n
tree_is v meta n = refl
tree_is v repos n = refl
tree_is v tokens n = refl
tree_is v uploads n = refl
tree_is v chunks n = refl
tree_is v locks n = refl
tree_is v retired n = refl

pub name_is : (v : Version) (p : Part) (n : ℕ) → (table_for v p n).name ≡ name_of p
name_is v meta n = refl
name_is v repos n = refl
name_is v tokens n = refl
name_is v uploads n = refl
name_is v chunks n = refl
name_is v locks n = refl
name_is v retired n = refl

-- the first letters of the names differ, but for one pair, whose lengths differ
pub by_name : List ℕ → Part
by_name [] = locks
by_name (c ∷ cs) = cond (eqb c 109) meta (cond (eqb c 114) (cond (eqb (length cs) 6) retired repos) (cond (eqb c 116) tokens (cond (eqb c 117) uploads (cond (eqb c 99) chunks locks))))

pub by_name_is : (p : Part) → by_name (name_of p) ≡ p
unfolding by_name
by_name_is meta = refl
by_name_is repos = refl
by_name_is tokens = refl
by_name_is uploads = refl
by_name_is chunks = refl
by_name_is locks = refl
by_name_is retired = refl

found_by_tree : (tables : List Table) (t : Table) → IsAscending (λ a b. a.tree ≢ b.tree) tables → Has tables t → find (λ (u : Table). eqb u.tree t.tree) tables ≡ Some t
found_by_tree [] t apart h = absurd h
found_by_tree (u ∷ tables) t apart (inl e) = rw (← e, eq-eqb t.tree t.tree refl) refl
found_by_tree (u ∷ tables) t apart (inr h) = rw (ne_eqb u.tree t.tree (all_has _ tables t apart.0 h)) (found_by_tree tables t apart.1 h)

is_low : (n : ℕ) → n < 65536 → (nat_lt n (2 ^ 31) ≡ true) × (nat_le (2 ^ 31) n ≡ false)
is_low n h = (grind arith, grind arith)

-- one table of a version, in a schema in which each has a tree of its own
module _ (v : Version) (schema : Schema) (laid : IsLaid schema) (p : Part) (has : HasPart v schema p) where
  abbrev the : Table
  the = table_for v p (tree_of schema p)

  pub listed_in : Has schema.tables the
  listed_in = has_got schema.tables (place_of schema p) the has.found

  pub low_in : (nat_lt the.tree (2 ^ 31) ≡ true) × (nat_le (2 ^ 31) the.tree ≡ false)
  low_in = is_low the.tree (all_has (λ (t : Table). t.tree < 65536) schema.tables the laid.low listed_in)

  pub by_tree_in : find (λ (t : Table). eqb t.tree the.tree) schema.tables ≡ Some the
  by_tree_in = found_by_tree schema.tables the laid.apart listed_in

  pub own_in : (db : Trees) → overlay db [] (tree_of schema p) ≡ db (tree_of schema p)
  own_in db = let h = subst (λ n. nat_le (2 ^ 31) n ≡ false) (tree_is v p (tree_of schema p)) low_in.1 in rw h refl

  pub alone_in : IsAlone schema the.tree
  alone_in = alone_if schema the listed_in laid.apart (subst (λ n. is_parent schema n ≡ false) (sym (name_is v p (tree_of schema p))) has.unreferred)

module _ (schema : Schema) (whole : HasWhole schema) (p : Part) where
  abbrev pub part : Table
  part = table_for (version_of whole.layout) p (tree_of schema p)

  pub listed : Has schema.tables part
  listed = listed_in (version_of whole.layout) schema whole.laid p (whole.parts p)

  pub own : (db : Trees) → overlay db [] (tree_of schema p) ≡ db (tree_of schema p)
  own = own_in (version_of whole.layout) schema whole.laid p (whole.parts p)

  pub alone_at : IsAlone schema part.tree
  alone_at = alone_in (version_of whole.layout) schema whole.laid p (whole.parts p)

  pub alone : IsAlone schema (tree_of schema p)
  alone = subst (IsAlone schema) (tree_is (version_of whole.layout) p (tree_of schema p)) alone_at

-- the table that counts the ids
module _ (schema : Schema) (counts : HasCounts schema) where
  counted_found : Has schema.tables counts.table × (same_name counts.table.name counts_name ≡ true)
  counted_found = has_found (λ (t : Table). same_name t.name counts_name) schema.tables counts.table (sym (at_first (λ (t : Table). same_name t.name counts_name) schema.tables) ∙ counts.found)

not_counts : (p : Part) → same_name (name_of p) counts_name ≡ false
unfolding same_name
not_counts meta = refl
not_counts repos = refl
not_counts tokens = refl
not_counts uploads = refl
not_counts chunks = refl
not_counts locks = refl
not_counts retired = refl

-- it is none of the tables
pub counts_apart : (v : Version) (schema : Schema) → IsLaid schema → (counts : HasCounts schema) (p : Part) → HasPart v schema p → tree_of schema p ≢ counts.table.tree
counts_apart v schema laid counts p has e =
    let found = counted_found schema counts in
    let same = same_table schema.tables (table_for v p (tree_of schema p)) counts.table laid.apart (listed_in v schema laid p has) found.0 (tree_is v p (tree_of schema p) ∙ e) in
    let named : name_of p ≡ counts.table.name = sym (name_is v p (tree_of schema p)) ∙ ap (λ (t : Table). t.name) same in
    let it : true ≡ false = sym found.1 ∙ ap (λ n. same_name n counts_name) (sym named) ∙ not_counts p in
    cc

module _ (schema : Schema) (whole : HasWhole schema) where
  abbrev pub counters : Table
  counters = whole.counts.table

  same_named : (a b c : List ℕ) → same_name a b ≡ true → same_name a c ≡ same_name b c
  unfolding same_name
  same_named a b c h = ap (λ l. is_eq (slice_cmp nat_cmp l (map to_ascii_lowercase c))) ((bytes_eq-Decides (map to_ascii_lowercase a) (map to_ascii_lowercase b)).0 (sym (is_eq-slice_cmp (map to_ascii_lowercase a) (map to_ascii_lowercase b)) ∙ h))

  pub lonely : IsAlone schema counters.tree
  lonely =
      let found = counted_found schema whole.counts in
      alone_if schema counters found.0 whole.laid.apart
      (ap (λ (p : Table → Bool). list_any p schema.tables) (λ i (t : Table). list_any (λ (r : Reference). same_named counters.name counts_name r.parent found.1 i) t.references) ∙ whole.counts.unreferred)

  pub counters_apart : (p : Part) → tree_of schema p ≢ counters.tree
  counters_apart p = counts_apart (version_of whole.layout) schema whole.laid whole.counts p (whole.parts p)

-- a property of all tables of the schema, as one of each of them
pub each : (schema : Schema) (whole : HasWhole schema) (P : Table → Type 0) → AllByRecursion P schema.tables → (p : Part) → P (table_for (version_of whole.layout) p (tree_of schema p))
each schema whole P all p = all_has P schema.tables (table_for (version_of whole.layout) p (tree_of schema p)) all (listed schema whole p)

pub rows_are : (p : Part) (schema : Schema) (db : Trees) → rows_of p (tables_under schema db) ≡ rows_in p schema db
unfolding tables_under
rows_are meta schema db = refl
rows_are repos schema db = refl
rows_are tokens schema db = refl
rows_are uploads schema db = refl
rows_are chunks schema db = refl
rows_are locks schema db = refl
rows_are retired schema db = refl

-- two of the tables with the same tree are one
pub same_tree : (v : Version) (schema : Schema) → IsLaid schema → (p q : Part) → HasPart v schema p → HasPart v schema q → tree_of schema p ≡ tree_of schema q → p ≡ q
same_tree v schema laid p q one other e =
    let trees = tree_is v p (tree_of schema p) ∙ e ∙ sym (tree_is v q (tree_of schema q)) in
    let same = same_table schema.tables (table_for v p (tree_of schema p)) (table_for v q (tree_of schema q)) laid.apart (listed_in v schema laid p one) (listed_in v schema laid q other) trees in
    sym (by_name_is p) ∙ ap by_name (sym (name_is v p (tree_of schema p)) ∙ ap (λ (t : Table). t.name) same ∙ name_is v q (tree_of schema q)) ∙ by_name_is q

same_part : (schema : Schema) → HasWhole schema → (p q : Part) → tree_of schema p ≡ tree_of schema q → p ≡ q
same_part schema whole p q = same_tree (version_of whole.layout) schema whole.laid p q (whole.parts p) (whole.parts q)

pub typed_at : (p : Part) (schema : Schema) (db : Trees) → AreTyped schema db → IsTyped p schema db
unfolding AreTyped
typed_at p schema db typed = typed p

-- ---- if one table changes, the others stay

module _ (schema : Schema) (whole : HasWhole schema) (p : Part) (old new : Trees) (stay : StayBut schema (tree_of schema p) old new) where
  stays : (q : Part) → tree_of schema q ≢ tree_of schema p → new (tree_of schema q) ≡ old (tree_of schema q)
  stays q apart = let same = tree_is (version_of whole.layout) q (tree_of schema q) in
      subst (λ n. new n ≡ old n) same (each schema whole (λ (t : Table). t.tree ≢ tree_of schema p → new t.tree ≡ old t.tree) stay q (λ e. apart (sym same ∙ e)))

  pub typed_after : AreTyped schema old → IsTyped p schema new → AreTyped schema new
  unfolding AreTyped
  typed_after typed here q = elim (cases_eq (tree_of schema q) (tree_of schema p)) [
    | inl same ↦ subst (λ r. IsTyped r schema new) (sym (same_part schema whole q p same)) here
    | inr apart ↦ subst (IsTypedBy (encode q) (decode q)) (sym (stays q apart)) (typed q)
  ]

  still : (q : Part) → (q ≡ p → ⊥) → rows_in q schema new ≡ rows_in q schema old
  still q other = ap (map (decode q)) (stays q (λ e. other (same_part schema whole q p e)))

differ : (p q : Part) → eqb (code_of p) (code_of q) ≡ false → p ≡ q → ⊥
differ p q h e = absurd (let k : eqb (code_of p) (code_of p) ≡ false = subst (λ r. eqb (code_of p) (code_of r) ≡ false) (sym e) h in let m = eq-eqb (code_of p) (code_of p) refl in cc)

pub tables_after : (schema : Schema) (whole : HasWhole schema) (p : Part) (old new : Trees) → StayBut schema (tree_of schema p) old new → tables_under schema new ≡ with_rows p (rows_in p schema new) (tables_under schema old)
unfolding tables_under
tables_after schema whole meta old new stay = λ i. record { meta = rows_in meta schema new; repos = still schema whole meta old new stay repos (differ repos meta refl) i; tokens = still schema whole meta old new stay tokens (differ tokens meta refl) i; uploads = still schema whole meta old new stay uploads (differ uploads meta refl) i; chunks = still schema whole meta old new stay chunks (differ chunks meta refl) i; locks = still schema whole meta old new stay locks (differ locks meta refl) i; retired = still schema whole meta old new stay retired (differ retired meta refl) i; schema = schema }
tables_after schema whole repos old new stay = λ i. record { meta = still schema whole repos old new stay meta (differ meta repos refl) i; repos = rows_in repos schema new; tokens = still schema whole repos old new stay tokens (differ tokens repos refl) i; uploads = still schema whole repos old new stay uploads (differ uploads repos refl) i; chunks = still schema whole repos old new stay chunks (differ chunks repos refl) i; locks = still schema whole repos old new stay locks (differ locks repos refl) i; retired = still schema whole repos old new stay retired (differ retired repos refl) i; schema = schema }
tables_after schema whole tokens old new stay = λ i. record { meta = still schema whole tokens old new stay meta (differ meta tokens refl) i; repos = still schema whole tokens old new stay repos (differ repos tokens refl) i; tokens = rows_in tokens schema new; uploads = still schema whole tokens old new stay uploads (differ uploads tokens refl) i; chunks = still schema whole tokens old new stay chunks (differ chunks tokens refl) i; locks = still schema whole tokens old new stay locks (differ locks tokens refl) i; retired = still schema whole tokens old new stay retired (differ retired tokens refl) i; schema = schema }
tables_after schema whole uploads old new stay = λ i. record { meta = still schema whole uploads old new stay meta (differ meta uploads refl) i; repos = still schema whole uploads old new stay repos (differ repos uploads refl) i; tokens = still schema whole uploads old new stay tokens (differ tokens uploads refl) i; uploads = rows_in uploads schema new; chunks = still schema whole uploads old new stay chunks (differ chunks uploads refl) i; locks = still schema whole uploads old new stay locks (differ locks uploads refl) i; retired = still schema whole uploads old new stay retired (differ retired uploads refl) i; schema = schema }
tables_after schema whole chunks old new stay = λ i. record { meta = still schema whole chunks old new stay meta (differ meta chunks refl) i; repos = still schema whole chunks old new stay repos (differ repos chunks refl) i; tokens = still schema whole chunks old new stay tokens (differ tokens chunks refl) i; uploads = still schema whole chunks old new stay uploads (differ uploads chunks refl) i; chunks = rows_in chunks schema new; locks = still schema whole chunks old new stay locks (differ locks chunks refl) i; retired = still schema whole chunks old new stay retired (differ retired chunks refl) i; schema = schema }
tables_after schema whole locks old new stay = λ i. record { meta = still schema whole locks old new stay meta (differ meta locks refl) i; repos = still schema whole locks old new stay repos (differ repos locks refl) i; tokens = still schema whole locks old new stay tokens (differ tokens locks refl) i; uploads = still schema whole locks old new stay uploads (differ uploads locks refl) i; chunks = still schema whole locks old new stay chunks (differ chunks locks refl) i; locks = rows_in locks schema new; retired = still schema whole locks old new stay retired (differ retired locks refl) i; schema = schema }
tables_after schema whole retired old new stay = λ i. record { meta = still schema whole retired old new stay meta (differ meta retired refl) i; repos = still schema whole retired old new stay repos (differ repos retired refl) i; tokens = still schema whole retired old new stay tokens (differ tokens retired refl) i; uploads = still schema whole retired old new stay uploads (differ uploads retired refl) i; chunks = still schema whole retired old new stay chunks (differ chunks retired refl) i; locks = still schema whole retired old new stay locks (differ locks retired refl) i; retired = rows_in retired schema new; schema = schema }

-- a database with these tables, which are typed and obey it, has them
pub kept_under : (db : Database) (schema : Schema) → db.schema ≡ schema → HasWhole schema → AreTyped schema db.trees → IsSound schema db.trees → IsKept db
unfolding IsOurs IsWhole
kept_under db schema same whole typed sound = record { schema = subst HasWhole (sym same) whole; typed = subst (λ s. AreTyped s db.trees) (sym same) typed; ours = subst (λ s. IsSound s db.trees) (sym same) sound }

pub whole_of : (db : Database) → IsKept db → HasWhole db.schema
unfolding IsWhole
whole_of db kept = kept.schema
