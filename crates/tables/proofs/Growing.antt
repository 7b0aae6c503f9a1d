-- A schema that gets one more table.
use Rattle.tables.proofs.Prelude.{arith, IsSome, ◌≡◌, ◌≢◌, ◌⊎◌, inl, inr, map, codes, eq-eqb, ℕ, ◌+◌, ◌==◌, ◌||◌, Bool, true, false, List, [], ◌∷◌, ◌++◌, length, Some, None, Option, option_map, option_and_then, unwrap_or, slice_get, find, cond, eqb, refl, sym, ap, subst, ◌∙◌, list_any, position_from, Schema, Database, next_tree, sequence, IsAscending, KeepsRows, automatics, Reference, table_named, all_has, has_got, at_first, still_placed, placed_last, still_none, still_got, got_last, Part, repos, tokens, uploads, chunks, locks, name_of, table_for, HasPart, LacksPart, HasCounts, is_parent, counts_name, code_of, to_ascii_lowercase, is_eq-slice_cmp, bytes_eq-Decides}
use Rattle.std.proofs.Common.{eqb-true}
use Rattle.sqlite.specs.Tree.{Trees}
use Rattle.sqlite.specs.Table.{Table}
use Rattle.sqlite.specs.Change.{created}
use Rattle.sqlite_catalog.proofs.ListFacts.{ascending_push}
use Rattle.sqlite_catalog.proofs.StepLemmas.{table_below}
use Rattle.sqlite_schema.specs.declared.schema.Index.{Index}
use Rattle.sqlite_schema.specs.Names.{same_name}
use Rattle.sqlite_schema.specs.Names.{index_named}
use Rattle.tables.specs.Layout.{Version}
use Rattle.tables.specs.Rows.{meta, retired, place_of, tree_of, is_in}
use Rattle.tables.specs.Schemas.{HasParts, HasSome, IsShared}
use Rattle.std.specs.Fmt.{decimal}
use Rattle.schema_compare.specs.Plain.{is_plain_table}
use Rattle.tables.proofs.Parts.{tree_is, by_name, by_name_is}

-- a part that is found in the schema
pub part_is : (v : Version) (schema : Schema) (p : Part) (at tree : ℕ) → table_named schema (name_of p) ≡ Some at → slice_get schema.tables at ≡ Some (table_for v p tree) → is_parent schema (name_of p) ≡ false → HasPart v schema p × (tree_of schema p ≡ tree)
unfolding tree_of place_of
part_is v schema p at tree named found unreferred =
    let place : place_of schema p ≡ at = ap (λ o. unwrap_or o 0) named in
    let there : slice_get schema.tables (place_of schema p) ≡ Some (table_for v p tree) = ap (slice_get schema.tables) place ∙ found in
    let is : tree_of schema p ≡ tree = ap (λ o. unwrap_or (option_map (λ (t : Table). t.tree) o) 0) there ∙ tree_is v p tree in
    (record { named = named ∙ ap Some (sym place); found = there ∙ ap (λ n. Some (table_for v p n)) (sym is); unreferred = unreferred }, is)

own_name : (n : List ℕ) → same_name n n ≡ true
unfolding same_name
own_name n = is_eq-slice_cmp (map to_ascii_lowercase n) (map to_ascii_lowercase n) ∙ (bytes_eq-Decides (map to_ascii_lowercase n) (map to_ascii_lowercase n)).1 refl

-- the name of an index that SQLite makes is none of the tables
not_automatic : (q : Part) (rest : List ℕ) → same_name (codes "sqlite_autoindex_" ++ rest) (name_of q) ≡ false
unfolding same_name
not_automatic meta rest = refl
not_automatic repos rest = refl
not_automatic tokens rest = refl
not_automatic uploads rest = refl
not_automatic chunks rest = refl
not_automatic locks rest = refl
not_automatic retired rest = refl

pub not_counts : (q : Part) → same_name counts_name (name_of q) ≡ false
unfolding same_name
not_counts meta = refl
not_counts repos = refl
not_counts tokens = refl
not_counts uploads = refl
not_counts chunks = refl
not_counts locks = refl
not_counts retired = refl

lower_is : (q : Part) → map to_ascii_lowercase (name_of q) ≡ name_of q
lower_is meta = refl
lower_is repos = refl
lower_is tokens = refl
lower_is uploads = refl
lower_is chunks = refl
lower_is locks = refl
lower_is retired = refl

pub same_code : (p q : Part) → (code_of p == code_of q) ≡ true → p ≡ q
same_code p q h = sym (by_code_is p) ∙ ap by_code (eqb-true (code_of p) (code_of q) h) ∙ by_code_is q
  where
    by_code : ℕ → Part
    by_code n = cond (eqb n 0) meta (cond (eqb n 1) repos (cond (eqb n 2) tokens (cond (eqb n 3) uploads (cond (eqb n 4) chunks (cond (eqb n 5) locks retired)))))

    by_code_is : (p : Part) → by_code (code_of p) ≡ p
    by_code_is meta = refl
    by_code_is repos = refl
    by_code_is tokens = refl
    by_code_is uploads = refl
    by_code_is chunks = refl
    by_code_is locks = refl
    by_code_is retired = refl

-- two of the tables with other numbers have other names
pub other_names : (p q : Part) → (code_of q == code_of p) ≡ false → same_name (name_of p) (name_of q) ≡ false
unfolding same_name
other_names p q h = go (same_name (name_of p) (name_of q)) refl
  where
    go : (b : Bool) → same_name (name_of p) (name_of q) ≡ b → b ≡ false
    go false e = refl
    go true e =
        let low : map to_ascii_lowercase (name_of p) ≡ map to_ascii_lowercase (name_of q) = (bytes_eq-Decides (map to_ascii_lowercase (name_of p)) (map to_ascii_lowercase (name_of q))).0 (sym (is_eq-slice_cmp (map to_ascii_lowercase (name_of p)) (map to_ascii_lowercase (name_of q))) ∙ e) in
        let name : name_of p ≡ name_of q = sym (lower_is p) ∙ low ∙ lower_is q in
        let same : q ≡ p = sym (by_name_is q) ∙ ap by_name (sym name) ∙ by_name_is p in
        let it : true ≡ false = sym (eq-eqb (code_of q) (code_of q) refl) ∙ ap (λ r. code_of q == code_of r) same ∙ h in
        cc

pub plain_is : (v : Version) (p : Part) → (table_for v p 0).references ≡ []
plain_is v meta = refl
plain_is v repos = refl
plain_is v tokens = refl
plain_is v uploads = refl
plain_is v chunks = refl
plain_is v locks = refl
plain_is v retired = refl

pub retreed : (v : Version) (p : Part) (m n : ℕ) → record (table_for v p m) { tree = n } ≡ table_for v p n
retreed v meta m n = refl
retreed v repos m n = refl
retreed v tokens m n = refl
retreed v uploads m n = refl
retreed v chunks m n = refl
retreed v locks m n = refl
retreed v retired m n = refl

pub any_last : {X : Type 0} (p : X → Bool) (xs : List X) (y : X) → p y ≡ false → list_any p (xs ++ y ∷ []) ≡ list_any p xs
any_last p [] y h = rw h refl
any_last p (x ∷ xs) y h = ap (λ b. p x || b) (any_last p xs y h)

-- what a search of the references found
pub referred : (schema : Schema) (name : List ℕ) (ts : List Table) (b : Bool) → b ≡ list_any (λ (t : Table). list_any (λ (r : Reference). same_name name r.parent) t.references) ts → ts ≡ schema.tables → b ≡ is_parent schema name
referred schema name ts b is same = is ∙ ap (list_any (λ (t : Table). list_any (λ (r : Reference). same_name name r.parent) t.references)) same

some_same : {X : Type 0} {a b : X} → ◌≡◌ {A = Option X} (Some a) (Some b) → a ≡ b
some_same e = cc

plain_part : (v : Version) (p : Part) (n : ℕ) → is_plain_table (table_for v p n) ≡ true
plain_part v meta n = refl
plain_part v repos n = refl
plain_part v tokens n = refl
plain_part v uploads n = refl
plain_part v chunks n = refl
plain_part v locks n = refl
plain_part v retired n = refl

-- two schemas have a table of one name, and the other has our definition of it
pub shares_definition : (v : Version) (schema ours : Schema) (name : List ℕ) (p : Part) → name ≡ name_of p → HasPart v ours p → (at own : ℕ) (table wanted : Table) → table_named schema name ≡ Some at → table_named ours name ≡ Some own
    → slice_get schema.tables at ≡ Some table → slice_get ours.tables own ≡ Some wanted
    → (record wanted { tree = table.tree } ≡ table → is_parent schema name ≡ false → HasPart v schema p) × (HasPart v schema p → record wanted { tree = table.tree } ≡ table) × (is_plain_table wanted ≡ true)
shares_definition v schema ours name p named has at own table wanted here there got other =
    let place : own ≡ place_of ours p = some_same (sym there ∙ ap (table_named ours) named ∙ has.named) in
    let is : wanted ≡ table_for v p (tree_of ours p) = some_same (sym other ∙ ap (slice_get ours.tables) place ∙ has.found) in
    let ours_is : record wanted { tree = table.tree } ≡ table_for v p table.tree = ap (λ (t : Table). record t { tree = table.tree }) is ∙ retreed v p (tree_of ours p) table.tree in
    let named_here = sym (ap (table_named schema) named) ∙ here in (
      λ same unreferred. (part_is v schema p at table.tree named_here (got ∙ ap Some (sym same ∙ ours_is)) (sym (ap (is_parent schema) named) ∙ unreferred)).0,
      λ all.
          let spot : at ≡ place_of schema p = some_same (sym here ∙ ap (table_named schema) named ∙ all.named) in
          let table_is : table ≡ table_for v p (tree_of schema p) = some_same (sym got ∙ ap (slice_get schema.tables) spot ∙ all.found) in
          ours_is ∙ ap (table_for v p) (ap (λ (t : Table). t.tree) table_is ∙ tree_is v p (tree_of schema p)) ∙ sym table_is,
      ap is_plain_table is ∙ plain_part v p (tree_of ours p),
    )

-- a table that both schemas have as one version has it
pub shared_by : (v : Version) (schema ours : Schema) (p : Part) → HasPart v schema p → HasPart v ours p → IsShared schema ours p
unfolding IsShared
shared_by v schema ours p has own w other =
    let here : table_for v p (tree_of ours p) ≡ table_for w p (tree_of ours p) = some_same (sym own.found ∙ other.found) in
    let there : table_for v p (tree_of schema p) ≡ table_for w p (tree_of schema p) = sym (retreed v p (tree_of ours p) (tree_of schema p)) ∙ ap (λ (t : Table). record t { tree = tree_of schema p }) here ∙ retreed w p (tree_of ours p) (tree_of schema p) in
    record { named = has.named; found = has.found ∙ ap Some there; unreferred = has.unreferred }

-- where both schemas have the table
pub record AreThere (schema ours : Schema) (p : Part) (table own : Table) : Type 0 where
  pub named : table_named schema (name_of p) ≡ Some (place_of schema p)
  pub found : slice_get schema.tables (place_of schema p) ≡ Some table
  pub own_named : table_named ours (name_of p) ≡ Some (place_of ours p)
  pub own_found : slice_get ours.tables (place_of ours p) ≡ Some own

pub there_in : (schema ours : Schema) (p : Part) → HasSome ours p → IsShared schema ours p → (table : Table) × (own : Table) × AreThere schema ours p table own
unfolding HasSome IsShared
there_in schema ours p some shared =
    let has = shared some.0 some.1 in
    (table_for some.0 p (tree_of schema p), table_for some.0 p (tree_of ours p), record { named = has.named; found = has.found; own_named = some.1.named; own_found = some.1.found })

pub some_by : (v : Version) (ours : Schema) (p : Part) → HasPart v ours p → HasSome ours p
unfolding HasSome
some_by v ours p has = (v, has)

pub share : (schema ours : Schema) (p : Part) → IsShared schema ours p → (v : Version) → HasPart v ours p → HasPart v schema p
unfolding IsShared
share schema ours p shared v has = shared v has

module _ (schema : Schema) (table : Table) (plain : table.references ≡ []) where
  abbrev new : Table
  new = record table { tree = next_tree schema }

  abbrev grown : Schema
  grown = created schema table

  pub parents : (name : List ℕ) → is_parent grown name ≡ is_parent schema name
  parents name = any_last (λ (t : Table). list_any (λ (r : Reference). same_name name r.parent) t.references) schema.tables new (ap (list_any (λ (r : Reference). same_name name r.parent)) plain)

  pub still_apart : IsAscending (λ (s t : Table). s.tree ≢ t.tree) schema.tables → IsAscending (λ (s t : Table). s.tree ≢ t.tree) grown.tables
  still_apart apart = ascending_push (λ (s t : Table). s.tree ≢ t.tree) schema.tables new apart (λ t h e. let below = table_below schema t h in omega (arith, below, e))

  pub still_part : (v : Version) (q : Part) → HasPart v schema q → HasPart v grown q × (tree_of grown q ≡ tree_of schema q)
  still_part v q has = part_is v grown q (place_of schema q) (tree_of schema q) (still_placed (λ (t : Table). same_name t.name (name_of q)) schema.tables (new ∷ []) 0 (place_of schema q) has.named)
      (still_got schema.tables (new ∷ []) (place_of schema q) (table_for v q (tree_of schema q)) has.found) (parents (name_of q) ∙ has.unreferred)

  pub new_part : (v : Version) (p : Part) → LacksPart schema p → new ≡ table_for v p (next_tree schema) → new.name ≡ name_of p → HasPart v grown p × (tree_of grown p ≡ next_tree schema)
  new_part v p lacks is named = part_is v grown p (length schema.tables) (next_tree schema)
      (placed_last (λ (t : Table). same_name t.name (name_of p)) schema.tables new 0 lacks.free.table (ap (λ n. same_name n (name_of p)) named ∙ own_name (name_of p)) ∙ ap Some (let e : 0 + length schema.tables ≡ length schema.tables = omega arith in e))
      (got_last schema.tables new ∙ ap Some is) (parents (name_of p) ∙ lacks.unreferred)

  automatic_names : (q : Part) (at tree : ℕ) (keys : List (List ℕ)) (m : ℕ) → position_from (λ (i : Index). same_name i.name (name_of q)) m (automatics new at tree keys) ≡ None
  automatic_names q at tree [] m = refl
  automatic_names q at tree (key ∷ keys) m = rw (not_automatic q (table.name ++ 95 ∷ decimal (at + 1))) (automatic_names q (at + 1) (tree + 1) keys (m + 1))

  -- no new index has the name of one of the tables
  pub still_clear : (q : Part) → index_named schema (name_of q) ≡ None → index_named grown (name_of q) ≡ None
  still_clear q clear = still_none (λ (i : Index). same_name i.name (name_of q)) schema.indexes (automatics new 0 (new.tree + 1) new.uniques) 0 clear (automatic_names q 0 (new.tree + 1) new.uniques)

  pub still_lacks : (q : Part) → LacksPart schema q → same_name table.name (name_of q) ≡ false → LacksPart grown q
  still_lacks q lacks other = record {
    free = record {
      table = still_none (λ (t : Table). same_name t.name (name_of q)) schema.tables (new ∷ []) 0 lacks.free.table (λ m. rw other refl);
      index = still_clear q lacks.free.index;
      view = lacks.free.view;
    };
    unreferred = parents (name_of q) ∙ lacks.unreferred;
  }

  -- the sequence, which is the first of its name
  pub sequence_still : (t : Table) → sequence schema ≡ Some t → sequence grown ≡ Some t
  sequence_still t h = at_first (λ (t : Table). same_name t.name counts_name) grown.tables ∙ found_still schema.tables (sym (at_first (λ (t : Table). same_name t.name counts_name) schema.tables) ∙ h)
    where
      found_still : (ts : List Table) → find (λ (t : Table). same_name t.name counts_name) ts ≡ Some t → find (λ (t : Table). same_name t.name counts_name) (ts ++ new ∷ []) ≡ Some t
      found_still [] e = absurd (let a : None ≡ Some t = e in cc)
      found_still (u ∷ ts) e = go (same_name u.name counts_name) (found_still ts) e
        where
          go : (b : Bool) → (find (λ (t : Table). same_name t.name counts_name) ts ≡ Some t → find (λ (t : Table). same_name t.name counts_name) (ts ++ new ∷ []) ≡ Some t) → cond b (Some u) (find (λ (t : Table). same_name t.name counts_name) ts) ≡ Some t
              → cond b (Some u) (find (λ (t : Table). same_name t.name counts_name) (ts ++ new ∷ [])) ≡ Some t
          go true more e = e
          go false more e = more e

  -- the rows of a table that was there stay
  pub rows_stay : (v : Version) (q : Part) → HasPart v schema q → (old trees : Trees) → KeepsRows schema.tables old trees → trees (tree_of grown q) ≡ old (tree_of schema q)
  rows_stay v q has old trees kept =
      let there = has_got schema.tables (place_of schema q) (table_for v q (tree_of schema q)) has.found in
      ap trees (still_part v q has).1 ∙ subst (λ n. trees n ≡ old n) (tree_is v q (tree_of schema q)) (all_has (λ (t : Table). trees t.tree ≡ old t.tree) schema.tables (table_for v q (tree_of schema q)) kept there)

  pub step : (v : Version) (done later : List Part) → HasParts v done schema → ((q : Part) → is_in q later ≡ true → (is_in q done ≡ true) ⊎ HasPart v grown q)
      → ((q : Part) → is_in q later ≡ false → (is_in q done ≡ false) × (same_name table.name (name_of q) ≡ false)) → HasParts v later grown
  step v done later was more left = record {
    made = λ q h. elim (more q h) [ inl before ↦ (still_part v q (was.made q before)).0 | inr new ↦ new ];
    left = λ q h. let it = left q h in still_lacks q (was.left q it.0) it.1;
  }

-- ---- what the comparison decides

placed_found : {X : Type 0} (q : X → Bool) (xs : List X) (n k : ℕ) → position_from q n xs ≡ Some k → (x : X) × (find q xs ≡ Some x)
placed_found q [] n k h = absurd (let a : None ≡ Some k = h in cc)
placed_found {X} q (x ∷ xs) n k h = go (q x) (placed_found q xs (n + 1) k) h
  where
    go : (b : Bool) → (position_from q (n + 1) xs ≡ Some k → (y : X) × (find q xs ≡ Some y)) → cond b (Some n) (position_from q (n + 1) xs) ≡ Some k → (y : X) × (cond b (Some x) (find q xs) ≡ Some y)
    go true more h = (x, refl)
    go false more h = more h

pub counts_there : (schema : Schema) → IsSome (table_named schema counts_name) → is_parent schema counts_name ≡ false → HasCounts schema
counts_there schema some unreferred = go (table_named schema counts_name) refl some
  where
    go : (o : Option ℕ) → table_named schema counts_name ≡ o → IsSome o → HasCounts schema
    go None e h = absurd (cc)
    go (Some k) e h =
        let it = placed_found (λ (t : Table). same_name t.name counts_name) schema.tables 0 k e in
        record { table = it.0; found = at_first (λ (t : Table). same_name t.name counts_name) schema.tables ∙ it.1; unreferred = unreferred }

pub counts_named : (schema : Schema) → HasCounts schema → IsSome (table_named schema counts_name)
counts_named schema has = go (table_named schema counts_name) has.found
  where
    go : (o : Option ℕ) → option_and_then (slice_get schema.tables) o ≡ Some has.table → IsSome o
    go None e = absurd (let a : None ≡ Some has.table = e in cc)
    go (Some k) e = refl
