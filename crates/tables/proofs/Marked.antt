-- Each upload of a store is staged or complete, as its table demands, for proofs in other crates.
use Rattle.tables.proofs.Prelude.{◌≡◌, ◌∙◌, ◌⊎◌, inl, inr, ◌≤ℤ◌, ◌<ℤ◌, ℤ, pos, negsuc, zero, suc, Bool, true, false, not, ◌&&◌, List, [], ◌∷◌, map, Some, Ordering, Less, Equal, Greater, int_cmp, is_ge, is_le, refl, sym, ap, subst, arith, AllByRecursion, MatchOrdering, true≢false, ints, Database, state, Int, value_cmp, value_cmp-Int, Ghosts, uploads_at, Upload, tables_of, tree_of, upload_row, upload_in, uploads, IsKept, HasTables, IsHonest, IsOpen, shown, Store}
use Rattle.std.specs.Cmp.{int_ranks}
use Rattle.sqlite_value.specs.Order.{Row}
use Rattle.sqlite_sql.specs.Ops.{binary, from_truth, is_false}
use Rattle.sqlite_sql.specs.declared.ops.BinaryOp.TheVariants.{And}
use Rattle.sqlite_schema.specs.Rules.{passes_checks}
use Rattle.sqlite_schema.specs.declared.schema.Constraint.TheVariants.{Check}
use Rattle.tables.specs.Rows.{tables_under}
use Rattle.sqlite.specs.Table.{Table}
use Rattle.tables.proofs.Parts.{whole_of, each, typed_at}
use Rattle.tables.proofs.Opened.{kept_is_sound}

-- the upload is staged or complete
abbrev pub IsMarked : Upload → Type 0
IsMarked u = (u.done ≡ pos 0) ⊎ (u.done ≡ pos 1)

abbrev PassesChecks : Row → Type 0
PassesChecks row = passes_checks (uploads_at 0) row ≡ true

-- a CHECK of two tests holds only if both do
both_tests : (v w : Bool) → (not (is_false (binary And (from_truth (Some v)) (from_truth (Some w)))) && true) ≡ true → (v ≡ true) × (w ≡ true)
unfolding binary
both_tests true true passes = (refl, refl)
both_tests true false passes = absurd (true≢false (sym passes))
both_tests false true passes = absurd (true≢false (sym passes))
both_tests false false passes = absurd (true≢false (sym passes))

at_least : (n m : ℤ) → is_ge (value_cmp (Int n) (Int m)) ≡ true → m ≤ℤ n
at_least n m test = at (int_cmp n m) (int_ranks n m) (ap is_ge (sym (value_cmp-Int n m)) ∙ test)
  where
    at : (o : Ordering) → MatchOrdering o (n <ℤ m) (n ≡ m) (m <ℤ n) → is_ge o ≡ true → m ≤ℤ n
    at Less r h = absurd (cc)
    at Equal r h = omega (arith, ints, r)
    at Greater r h = omega (arith, ints, r)

at_most : (n m : ℤ) → is_le (value_cmp (Int n) (Int m)) ≡ true → n ≤ℤ m
at_most n m test = at (int_cmp n m) (int_ranks n m) (ap is_le (sym (value_cmp-Int n m)) ∙ test)
  where
    at : (o : Ordering) → MatchOrdering o (n <ℤ m) (n ≡ m) (m <ℤ n) → is_le o ≡ true → n ≤ℤ m
    at Less r h = omega (arith, ints, r)
    at Equal r h = omega (arith, ints, r)
    at Greater r h = absurd (cc)

zero_or_one : (n : ℤ) → pos 0 ≤ℤ n → n ≤ℤ pos 1 → (n ≡ pos 0) ⊎ (n ≡ pos 1)
zero_or_one (pos zero) low high = inl refl
zero_or_one (pos (suc zero)) low high = inr refl
zero_or_one (pos (suc (suc n))) low high = absurd (omega (arith, ints, high))
zero_or_one (negsuc n) low high = absurd (omega (arith, ints, low))

mark : (u : Upload) → PassesChecks (upload_row u) → IsMarked u
unfolding binary
mark u passes =
    let both = both_tests (is_ge (value_cmp (Int u.done) (Int (pos 0)))) (is_le (value_cmp (Int u.done) (Int (pos 1)))) passes in
    zero_or_one u.done (at_least u.done (pos 0) both.0) (at_most u.done (pos 1) both.1)

all_marked : (us : List Upload) → AllByRecursion PassesChecks (map upload_row us) → AllByRecursion IsMarked us
all_marked [] all = tt
all_marked (u ∷ us) all = (mark u all.0, all_marked us all.1)

pub kept_marked : (db : Database) → IsKept db → AllByRecursion IsMarked (tables_of db).uploads
unfolding tables_under
kept_marked db kept =
    let tree = tree_of db.schema uploads in
    all_marked (map upload_in (db.trees tree)) (subst (AllByRecursion PassesChecks) (typed_at uploads db.schema db.trees kept.typed).same
    (each db.schema (whole_of db kept) (λ (t : Table). AllByRecursion (λ row. passes_checks t row ≡ true) (db.trees t.tree)) ((kept_is_sound db kept).obeys.rules Check) uploads))

pub uploads_marked : {S : Type 0} (g : Ghosts S) (s : Store S) → HasTables g s → IsHonest g s → IsOpen g s → AllByRecursion IsMarked (shown g s).uploads
uploads_marked g s has honest opened = kept_marked (state g s.conn).now (has.ready honest opened)
