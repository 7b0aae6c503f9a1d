-- The number in `meta` is that of the layout, as the table demands, for proofs in other crates.
use Rattle.tables.proofs.Prelude.{◌≡◌, ◌∙◌, ◌<ℤ◌, ℕ, ℤ, pos, Bool, true, false, not, ◌&&◌, List, [], ◌∷◌, map, Some, Ordering, Less, Equal, Greater, int_cmp, refl, sym, ap, subst, AllByRecursion, MatchOrdering, true≢false, Database, Int, value_cmp, value_cmp-Int, Meta, tables_of, tree_of, meta_row, meta_in, IsKept, HasAll}
use Rattle.std.specs.Cmp.{int_ranks}
use Rattle.std.specs.Ordering.{is_eq}
use Rattle.sqlite_value.specs.Order.{Row}
use Rattle.sqlite_sql.specs.Ops.{binary, from_truth, is_false}
use Rattle.sqlite_schema.specs.Rules.{passes_checks}
use Rattle.sqlite_schema.specs.declared.schema.Constraint.TheVariants.{Check}
use Rattle.sqlite.specs.Table.{Table}
use Rattle.tables.specs.declared.layout.Layout.{Layout}
use Rattle.tables.specs.declared.layout.Layout.TheVariants.{Rows, Places}
use Rattle.tables.specs.Layout.{version_of, number_of, meta_at}
use Rattle.tables.specs.Rows.{meta, tables_under}
use Rattle.tables.specs.Runs.{meta_of}
use Rattle.tables.proofs.Parts.{whole_of, each, typed_at}
use Rattle.tables.proofs.Opened.{kept_is_sound, all_from_whole}

abbrev IsNumbered : Layout → Meta → Type 0
IsNumbered l m = m.version ≡ pos (number_of (version_of l))

abbrev PassesChecks : Layout → Row → Type 0
PassesChecks l row = passes_checks (meta_at (version_of l) 0) row ≡ true

-- two tests hold only if the second does
second_test : (v w : Bool)
    → (not (is_false (from_truth (Some v))) && (not (is_false (from_truth (Some w))) && true)) ≡ true → w ≡ true
second_test true true passes = refl
second_test false true passes = refl
second_test true false passes = absurd (true≢false (sym passes))
second_test false false passes = absurd (true≢false (sym passes))

equal : (n m : ℤ) → is_eq (value_cmp (Int n) (Int m)) ≡ true → n ≡ m
equal n m test = at (int_cmp n m) (int_ranks n m) (ap is_eq (sym (value_cmp-Int n m)) ∙ test)
  where
    at : (o : Ordering) → MatchOrdering o (n <ℤ m) (n ≡ m) (m <ℤ n) → is_eq o ≡ true → n ≡ m
    at Less r h = absurd (cc)
    at Equal r h = r
    at Greater r h = absurd (cc)

number_is : (l : Layout) (m : Meta) → PassesChecks l (meta_row m) → IsNumbered l m
unfolding binary
number_is l m passes =
    equal m.version (pos (number_of (version_of l)))
    (second_test (is_eq (value_cmp (Int m.one) (Int (pos 1))))
    (is_eq (value_cmp (Int m.version) (Int (pos (number_of (version_of l)))))) passes)

all_numbers : (l : Layout) (ms : List Meta) → AllByRecursion (PassesChecks l) (map meta_row ms)
    → AllByRecursion (IsNumbered l) ms
all_numbers l [] all = tt
all_numbers l (m ∷ ms) all = (number_is l m all.0, all_numbers l ms all.1)

kept_numbers : (db : Database) (kept : IsKept db)
    → AllByRecursion (IsNumbered (whole_of db kept).layout) (tables_of db).meta
unfolding tables_under
kept_numbers db kept =
    let l = (whole_of db kept).layout in
    let tree = tree_of db.schema meta in
    all_numbers l (map meta_in (db.trees tree))
    (subst (AllByRecursion (PassesChecks l)) (typed_at meta db.schema db.trees kept.typed).same
    (each db.schema (whole_of db kept)
    (λ (t : Table). AllByRecursion (λ row. passes_checks t row ≡ true) (db.trees t.tree))
    ((kept_is_sound db kept).obeys.rules Check) meta))

same_layout : (l k : Layout) → pos (number_of (version_of l)) ≡ pos (number_of (version_of k)) → l ≡ k
same_layout Rows Rows same = refl
same_layout Rows Places same = absurd (cc)
same_layout Places Rows same = absurd (cc)
same_layout Places Places same = refl

-- a database whose only row of `meta` has the number of the layout has the tables of the layout
pub all_with_number : (l : Layout) (db : Database) → IsKept db → (tables_of db).meta ≡ meta_of (version_of l) ∷ []
    → HasAll (version_of l) db.schema
all_with_number l db kept is =
    let whole = whole_of db kept in
    let number = (subst (AllByRecursion (IsNumbered whole.layout)) is (kept_numbers db kept)).0 in
    subst (λ (k : Layout). HasAll (version_of k) db.schema) (sym (same_layout l whole.layout number))
    (all_from_whole db.schema whole)
