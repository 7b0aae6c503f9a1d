-- The trees of a database that has them tables determine its schema and the rows of the tables.
use Rattle.tables.proofs.Prelude.{arith, ◌≡◌, ◌⊎◌, inl, inr, ◌+◌, ℕ, pos, ℤ, List, [], ◌∷◌, Bool, true, false, Option, None, Some, codes, filter, refl, sym, ap, ap₂, subst, ◌∙◌, ints, AllZip, IsAscending, Value, Null, Int, Text, Schema, table_defined_by, Database, catalog_tree, IsSound, IsTableRow, is_table_row, same_value, tables_of, IsKept}
use Rattle.std.specs.Prelude.{MatchBool, length, slice_get, slice_index_or}
use Rattle.sqlite.specs.declared.types.Value.TheVariants.{Real, Blob}
use Rattle.sqlite.specs.Order.{Row}
use Rattle.sqlite.specs.Tree.{Trees}
use Rattle.sqlite.specs.Table.{Table}
use Rattle.sqlite_value.specs.Order.{column}
use Rattle.sqlite_schema.specs.declared.schema.Index.{Index}
use Rattle.sqlite_schema.specs.declared.schema.View.{View as Stored}
use Rattle.sqlite_schema.specs.Names.{same_name}
use Rattle.sqlite_catalog.specs.Listing.{IsIndexRow, IsViewRow, IsDefined, IsAside, IsForeign, automatic, is_index_row, is_view_row}
use Rattle.sqlite_catalog.proofs.StepLemmas.{named_once, same_itself}
use Rattle.sqlite_catalog.proofs.AlterLemmas.{numbers_differ}
use Rattle.tables.specs.Rows.{tables_under}
use Rattle.tables.specs.Runs.{IsOurs}

same_int : {a b : ℤ} → ◌≡◌ {A = Value} (Int a) (Int b) → a ≡ b
same_int e = cc

same_sql : {a b : List ℕ} → ◌≡◌ {A = Value} (Text a) (Text b) → a ≡ b
same_sql e = cc

same_some : {A : Type 0} {x y : A} → Some x ≡ Some y → x ≡ y
same_some e = cc

number : (a b : ℕ) → pos (a + 1) ≡ pos (b + 1) → a ≡ b
number a b e = omega (arith, ints, e)

one_list : {X : Type 0} (Is : Row → X → Type 0) → ((row : Row) (x y : X) → Is row x → Is row y → x ≡ y) → (rows : List Row) (xs ys : List X) → AllZip Is rows xs → AllZip Is rows ys → xs ≡ ys
one_list Is one [] [] [] a b = refl
one_list Is one [] [] (y ∷ ys) a b = absurd b
one_list Is one [] (x ∷ xs) ys a b = absurd a
one_list Is one (r ∷ rows) [] ys a b = absurd a
one_list Is one (r ∷ rows) (x ∷ xs) [] a b = absurd b
one_list Is one (r ∷ rows) (x ∷ xs) (y ∷ ys) a b = ap₂ (λ z zs. z ∷ zs) (one r x y a.0 b.0) (one_list Is one rows xs ys a.1 b.1)

-- ---- a row of the catalog describes one table

one_table : (row : Row) (t u : Table) → IsTableRow row t → IsTableRow row u → t ≡ u
one_table row t u a b =
    let tree : t.tree ≡ u.tree = number t.tree u.tree (same_int (sym a.described.id ∙ b.described.id)) in
    let sql : a.sql ≡ b.sql = same_sql (sym a.sql_is ∙ b.sql_is) in
    let made : a.defined.0 ≡ b.defined.0 = same_value (sym a.defined.1 ∙ ap table_defined_by sql ∙ b.defined.1) in
    a.defined.2 ∙ (λ i. record (made i) { tree = tree i }) ∙ sym b.defined.2

-- ---- or one index

one_defined : (table : Table) (i j : Index) (sql : Value) → i.tree ≡ j.tree → i.name ≡ j.name → IsDefined table i sql → IsDefined table j sql → i ≡ j
one_defined table i j Null tree name a b =
    let names : (automatic table a.0 [] 0).name ≡ (automatic table b.0 [] 0).name = sym (ap (λ (x : Index). x.name) a.3) ∙ name ∙ ap (λ (x : Index). x.name) b.3 in
    let at : a.0 ≡ b.0 = numbers_differ table a.0 b.0 a.4 b.4 (subst (λ n. same_name (automatic table a.0 [] 0).name n ≡ true) names (same_itself (automatic table a.0 [] 0).name)) in
    let key : a.1 ≡ b.1 = same_some (sym a.2 ∙ ap (slice_get table.uniques) at ∙ b.2) in
    a.3 ∙ (λ k. automatic table (at k) (key k) (tree k)) ∙ sym b.3
one_defined table i j (Text sql) tree name a b =
    let made : a.0 ≡ b.0 = same_value (sym a.1 ∙ b.1) in
    a.2 ∙ (λ k. record (made k) { tree = tree k; table = table.tree }) ∙ sym b.2
one_defined table i j (Int n) tree name a b = absurd a
one_defined table i j (Real x) tree name a b = absurd a
one_defined table i j (Blob x) tree name a b = absurd a

one_index : (tables : List Table) → IsAscending (λ s t. same_name s.name t.name ≡ false) tables → (row : Row) (i j : Index) → IsIndexRow tables row i → IsIndexRow tables row j → i ≡ j
one_index tables named row i j a b =
    let owner : a.table.name ≡ b.table.name = same_sql (sym a.described.owner_is ∙ b.described.owner_is) in
    let table : a.table ≡ b.table = named_once tables a.table b.table named a.listed b.listed (subst (λ n. same_name a.table.name n ≡ true) owner (same_itself a.table.name)) in
    one_defined a.table i j (column row 4) (number i.tree j.tree (same_int (sym a.described.id ∙ b.described.id))) (same_sql (sym a.described.name_is ∙ b.described.name_is)) a.defined
    (subst (λ t. IsDefined t j (column row 4)) (sym table) b.defined)

-- ---- or one view

same_bound : (p q : Bool) (A : Type 0) → MatchBool p A (¬ A) → MatchBool q A (¬ A) → p ≡ q
same_bound true true A a b = refl
same_bound true false A a b = absurd (b a)
same_bound false true A a b = absurd (a b)
same_bound false false A a b = refl

apart : {kind k l : List ℕ} → kind ≡ k → kind ≡ l → k ≡ l
apart a b = sym a ∙ b

table_index : codes "table" ≡ codes "index" → ⊥
table_index e = let n : 116 ≡ 105 = ap (λ k. slice_index_or k 0 0) e in omega (arith, n)

table_trigger : codes "table" ≡ codes "trigger" → ⊥
table_trigger e = let n : 5 ≡ 7 = ap length e in omega (arith, n)

index_trigger : codes "index" ≡ codes "trigger" → ⊥
index_trigger e = let n : 5 ≡ 7 = ap length e in omega (arith, n)

one_foreign : (row : Row) (v w : Stored) (kind : List ℕ) (code : ℕ) → IsForeign row v kind code → IsForeign row w kind code → (v.binds ≡ w.binds) × (v.is_bound ≡ w.is_bound)
one_foreign row v w kind code (inl a) (inl b) = (a.2 ∙ sym b.2, same_bound v.is_bound w.is_bound _ a.3 b.3)
one_foreign row v w kind code (inl a) (inr (inl b)) = absurd (table_index (apart a.0 b.0))
one_foreign row v w kind code (inl a) (inr (inr b)) = absurd (table_trigger (apart a.0 b.0))
one_foreign row v w kind code (inr (inl a)) (inl b) = absurd (table_index (apart b.0 a.0))
one_foreign row v w kind code (inr (inl a)) (inr (inl b)) = (a.2 ∙ sym b.2, a.3 ∙ sym b.3)
one_foreign row v w kind code (inr (inl a)) (inr (inr b)) = absurd (index_trigger (apart a.0 b.0))
one_foreign row v w kind code (inr (inr a)) (inl b) = absurd (table_trigger (apart b.0 a.0))
one_foreign row v w kind code (inr (inr a)) (inr (inl b)) = absurd (index_trigger (apart b.0 a.0))
one_foreign row v w kind code (inr (inr a)) (inr (inr b)) = (a.2 ∙ sym b.2, a.3 ∙ sym b.3)

view_foreign : (row : Row) (w : Stored) (kind : List ℕ) (code : ℕ) → kind ≡ codes "view" → IsForeign row w kind code → ⊥
view_foreign row w kind code is (inl b) = let n : 4 ≡ 5 = ap length (apart is b.0) in omega (arith, n)
view_foreign row w kind code is (inr (inl b)) = let n : 4 ≡ 5 = ap length (apart is b.0) in omega (arith, n)
view_foreign row w kind code is (inr (inr b)) = let n : 4 ≡ 7 = ap length (apart is b.0) in omega (arith, n)

one_aside : (row : Row) (v w : Stored) (kind owner : List ℕ) (code : ℕ) (f h : Option (List ℕ)) → IsAside row v kind owner code f → IsAside row w kind owner code h
    → (f ≡ h) × (v.sql ≡ w.sql) × (v.binds ≡ w.binds) × (v.is_bound ≡ w.is_bound)
one_aside row v w kind owner code None None a b = (refl, same_sql (sym a.3 ∙ b.3), a.6 ∙ sym b.6, a.7 ∙ sym b.7)
one_aside row v w kind owner code None (Some u) a b = absurd (view_foreign row w kind code a.0 b.2)
one_aside row v w kind owner code (Some t) None a b = absurd (view_foreign row v kind code b.0 a.2)
one_aside row v w kind owner code (Some t) (Some u) a b = let it = one_foreign row v w kind code a.2 b.2 in (ap Some (sym a.0 ∙ b.0), a.1 ∙ sym b.1, it.0, it.1)

one_view : (row : Row) (v w : Stored) → IsViewRow row v → IsViewRow row w → v ≡ w
one_view row v w a b =
    let tree : v.tree ≡ w.tree = number v.tree w.tree (same_int (sym a.described.id ∙ b.described.id)) in
    let name : v.name ≡ w.name = same_sql (sym a.described.name_is ∙ b.described.name_is) in
    let kind : a.kind ≡ b.kind = same_sql (sym a.described.kind_is ∙ b.described.kind_is) in
    let owner : a.owner ≡ b.owner = same_sql (sym a.described.owner_is ∙ b.described.owner_is) in
    let code : a.code ≡ b.code = sym a.described.shape_is ∙ b.described.shape_is in
    let there = subst (λ c. IsAside row v b.kind b.owner c v.foreign) code (subst (λ o. IsAside row v b.kind o a.code v.foreign) owner (subst (λ k. IsAside row v k a.owner a.code v.foreign) kind a.aside)) in
    let it = one_aside row v w b.kind b.owner b.code v.foreign w.foreign there b.aside in
    λ i. record { name = name i; tree = tree i; sql = it.1 i; foreign = it.0 i; binds = it.2 i; is_bound = it.3 i }

-- ---- two schemas that the same trees list

pub listed_once : (s r : Schema) (db : Trees) → IsSound s db → IsSound r db → s.tables ≡ r.tables
listed_once s r db a b = one_list IsTableRow one_table (filter is_table_row (db catalog_tree)) s.tables r.tables a.lists.listed.tables b.lists.listed.tables

pub same_schema : (s r : Schema) (db : Trees) → IsSound s db → IsSound r db → s ≡ r
same_schema s r db a b =
    let tables = listed_once s r db a b in
    let rows = filter is_index_row (db catalog_tree) in
    let indexes = one_list (IsIndexRow r.tables) (one_index r.tables b.lists.listed.named) rows s.indexes r.indexes (subst (λ ts. AllZip (IsIndexRow ts) rows s.indexes) tables a.lists.listed.indexes) b.lists.listed.indexes in
    let views = one_list IsViewRow one_view (filter is_view_row (db catalog_tree)) s.views r.views a.lists.listed.views b.lists.listed.views in
    λ i. record { tables = tables i; indexes = indexes i; views = views i }

pub by_schema : (s r : Schema) (db other : Trees) → s ≡ r → db ≡ other → tables_under s db ≡ tables_under r other
by_schema s r db other same trees = λ i. tables_under (same i) (trees i)

pub same_tables : (a b : Database) → IsKept a → IsKept b → a.trees ≡ b.trees → tables_of a ≡ tables_of b
unfolding IsOurs
same_tables a b p q same = by_schema a.schema b.schema a.trees b.trees (same_schema a.schema b.schema b.trees (subst (IsSound a.schema) same p.ours) q.ours) same
