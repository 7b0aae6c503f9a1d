-- The rows of a table that obeys its definition are rows of its type.
use Rattle.typed_rows.proofs.Prelude.{arith, ◌≡◌, ℕ, zero, suc, ◌+◌, Bool, true, false, cond, not, ◌&&◌, ◌||◌, List, [], ◌∷◌, drop, map, Option, IsTrue, refl, sym, ap, ap₂, subst, ◌∙◌, AllByRecursion, Value, Null, Int, Real, Text, Blob, rowid, is_key, first_of_both, second_of_both, int_of, bytes_of, Rises, IsTypedBy}
use Rattle.sqlite_value.specs.Order.{Row, column}
use Rattle.sqlite_trees.specs.View.{is_int}
use Rattle.sqlite_sql.specs.Ops.{is_null}
use Rattle.sqlite.specs.Kind.{Kind}
use Rattle.sqlite.specs.Kind.TheVariants as kind
use Rattle.sqlite_schema.specs.declared.schema.Column.{Column}
use Rattle.sqlite_schema.specs.Rules.{is_of, are_typed, are_present, has_computed}
use Rattle.sqlite_schema.specs.declared.schema.Table.{Table}

-- a value, rebuilt from its parts as a value of this kind
abbrev pub recode : Kind → Value → Value
recode kind.Integer v = Int (int_of v)
recode kind.Real v = v
recode kind.Text v = Text (bytes_of v)
recode kind.Blob v = Blob (bytes_of v)
recode kind.Any v = v

abbrev pub recoded : Option ℕ → ℕ → List Column → Row → Row
recoded key at [] row = []
recoded key at (c ∷ cs) row = cond (is_key key at) Null (recode c.kind (column row (at + 1))) ∷ recoded key (at + 1) cs row

-- the column takes only values of its type, and no NULL
abbrev pub is_firm : Option ℕ → ℕ → Column → Bool
is_firm key at c = is_key key at || (c.is_strict && c.not_null)

-- this holds for each column except the rowid, and the last column is not the rowid
abbrev pub are_firm : Option ℕ → ℕ → List Column → Bool
are_firm key at [] = true
are_firm key at (c ∷ []) = not (is_key key at) && is_firm key at c
are_firm key at (c ∷ d ∷ cs) = is_firm key at c && are_firm key (at + 1) (d ∷ cs)

past : (row : Row) (n : ℕ) → [] ≡ drop n row → column row n ≡ Null
past [] n e = refl
past (v ∷ row) zero e = cc
past (v ∷ row) (suc n) e = past row n e

past_more : (row : Row) (n : ℕ) → [] ≡ drop n row → [] ≡ drop (suc n) row
past_more [] n e = refl
past_more (v ∷ row) zero e = cc
past_more (v ∷ row) (suc n) e = past_more row n e

here : (row : Row) (n : ℕ) (v : Value) (vs : Row) → v ∷ vs ≡ drop n row → (column row n ≡ v) × (vs ≡ drop (suc n) row)
here [] zero v vs e = absurd (let a : v ∷ vs ≡ [] = e in cc)
here [] (suc n) v vs e = absurd (let a : v ∷ vs ≡ [] = e in cc)
here (w ∷ row) zero v vs e = (sym (let a : v ∷ vs ≡ w ∷ row = e in cc), let a : v ∷ vs ≡ w ∷ row = e in cc)
here (w ∷ row) (suc n) v vs e = here row n v vs e

more : (row : Row) (n : ℕ) → [] ≡ drop n row → [] ≡ drop (n + 1) row
more row n e = let up : suc n ≡ n + 1 = omega arith in subst (λ k. [] ≡ drop k row) up (past_more row n e)

there : (row : Row) (n : ℕ) (v : Value) (vs : Row) → v ∷ vs ≡ drop n row → (column row n ≡ v) × (vs ≡ drop (n + 1) row)
there row n v vs e = let up : suc n ≡ n + 1 = omega arith in ((here row n v vs e).0, subst (λ k. vs ≡ drop k row) up (here row n v vs e).1)

-- a value of the kind that is not NULL
of_kind : (k : Kind) (v : Value) → is_of k v ≡ true → is_null v ≡ false → v ≡ recode k v
of_kind kind.Integer Null t n = cc
of_kind kind.Integer (Int i) t n = refl
of_kind kind.Integer (Real x) t n = cc
of_kind kind.Integer (Text s) t n = cc
of_kind kind.Integer (Blob s) t n = cc
of_kind kind.Real v t n = refl
of_kind kind.Text Null t n = cc
of_kind kind.Text (Int i) t n = cc
of_kind kind.Text (Real x) t n = cc
of_kind kind.Text (Text s) t n = refl
of_kind kind.Text (Blob s) t n = cc
of_kind kind.Blob Null t n = cc
of_kind kind.Blob (Int i) t n = cc
of_kind kind.Blob (Real x) t n = cc
of_kind kind.Blob (Text s) t n = cc
of_kind kind.Blob (Blob s) t n = refl
of_kind kind.Any v t n = refl

null_is : (v : Value) → is_null v ≡ true → v ≡ Null
null_is Null t = refl
null_is (Int i) t = cc
null_is (Real x) t = cc
null_is (Text s) t = cc
null_is (Blob s) t = cc

none_missing : (key : Option ℕ) (at : ℕ) (c : Column) (cs : List Column) (row : Row) → are_firm key at (c ∷ cs) ≡ true → [] ≡ drop (at + 1) row → are_present key at (c ∷ cs) row ≡ true → ⊥
none_missing key at c [] row firm e p = go (is_key key at) c.is_strict c.not_null firm (ap is_null (past row (at + 1) e)) p
  where
    go : (k s n : Bool) → (not k && (k || (s && n))) ≡ true → is_null (column row (at + 1)) ≡ true → ((k || not n || not (is_null (column row (at + 1)))) && true) ≡ true → ⊥
    go true s n f m p = cc
    go false true true f m p = let q = rw m at p in cc
    go false true false f m p = cc
    go false false n f m p = cc
none_missing key at c (d ∷ cs) row firm e p = none_missing key (at + 1) d cs row (second_of_both _ _ firm) (more row (at + 1) e) (second_of_both _ _ p)

one_value : (k s n : Bool) (c : Column) (v : Value) → c.is_strict ≡ s → c.not_null ≡ n → (k || (s && n)) ≡ true
    → cond k (is_null v) (Rattle.sqlite_schema.specs.Rules.suits c v) ≡ true → (k || not n || not (is_null v)) ≡ true → v ≡ cond k Null (recode c.kind v)
one_value true s n c v es en f t p = null_is v t
one_value false true true c v es en f t p = of_kind c.kind v (rw es at t) (go (is_null v) p)
  where
    go : (b : Bool) → (false || false || not b) ≡ true → b ≡ false
    go true h = cc
    go false h = refl
one_value false true false c v es en f t p = cc
one_value false false n c v es en f t p = cc

firm_first : (key : Option ℕ) (at : ℕ) (c : Column) (cs : List Column) → are_firm key at (c ∷ cs) ≡ true → is_firm key at c ≡ true
firm_first key at c [] f = second_of_both _ _ f
firm_first key at c (d ∷ cs) f = first_of_both _ _ f

firm_rest : (key : Option ℕ) (at : ℕ) (c : Column) (cs : List Column) → are_firm key at (c ∷ cs) ≡ true → are_firm key (at + 1) cs ≡ true
firm_rest key at c [] f = refl
firm_rest key at c (d ∷ cs) f = second_of_both _ _ f

pub row_is : (key : Option ℕ) (at : ℕ) (cs : List Column) (row vs : Row) → are_firm key at cs ≡ true → vs ≡ drop (at + 1) row → are_typed key at cs vs ≡ true → are_present key at cs row ≡ true → vs ≡ recoded key at cs row
row_is key at [] row [] firm e t p = refl
row_is key at [] row (v ∷ vs) firm e t p = cc
row_is key at (c ∷ cs) row [] firm e t p = absurd (none_missing key at c cs row firm e p)
row_is key at (c ∷ cs) row (v ∷ vs) firm e t p =
    let it = there row (at + 1) v vs e in
    let present : (is_key key at || not c.not_null || not (is_null v)) ≡ true = subst (λ w. (is_key key at || not c.not_null || not (is_null w)) ≡ true) it.0 (first_of_both _ _ p) in
    let first : v ≡ cond (is_key key at) Null (recode c.kind v) = one_value (is_key key at) _ _ c v refl refl (firm_first key at c cs firm) (first_of_both _ _ t) present in
    let second : v ≡ cond (is_key key at) Null (recode c.kind (column row (at + 1))) = first ∙ ap (λ w. cond (is_key key at) Null (recode c.kind w)) (sym it.0) in
    ap₂ (λ w ws. w ∷ ws) second (row_is key (at + 1) cs row vs (firm_rest key at c cs firm) it.1 (second_of_both _ _ t) (second_of_both _ _ p))

first_is : (row : Row) → IsTrue (is_int (rowid row)) → row ≡ Int (int_of (column row 0)) ∷ drop 1 row
first_is [] h = absurd (let a : false ≡ true = h in cc)
first_is (Null ∷ vs) h = absurd (let a : false ≡ true = h in cc)
first_is (Int n ∷ vs) h = refl
first_is (Real x ∷ vs) h = absurd (let a : false ≡ true = h in cc)
first_is (Text s ∷ vs) h = absurd (let a : false ≡ true = h in cc)
first_is (Blob s ∷ vs) h = absurd (let a : false ≡ true = h in cc)

module _ {X : Type 0} (encode : X → Row) (decode : Row → X) (table : Table) (same : (row : Row) → Int (int_of (column row 0)) ∷ recoded table.key 0 table.columns row ≡ encode (decode row))
    (firm : are_firm table.key 0 table.columns ≡ true) where
  row_same : (row : Row) → IsTrue (is_int (rowid row)) → (are_typed table.key 0 table.columns (drop 1 row) && has_computed table row) ≡ true → are_present table.key 0 table.columns row ≡ true
      → row ≡ encode (decode row)
  row_same row int typed present =
      first_is row int ∙ ap (λ vs. Int (int_of (column row 0)) ∷ vs) (row_is table.key 0 table.columns row (drop 1 row) firm refl (first_of_both _ _ typed) present) ∙ same row

  rows_same : (rows : List Row) → AllByRecursion (λ r. IsTrue (is_int (rowid r))) rows → AllByRecursion (λ row. (are_typed table.key 0 table.columns (drop 1 row) && has_computed table row) ≡ true) rows
      → AllByRecursion (λ row. are_present table.key 0 table.columns row ≡ true) rows → rows ≡ map encode (map decode rows)
  rows_same [] i t p = refl
  rows_same (row ∷ rows) i t p = ap₂ (λ r rs. r ∷ rs) (row_same row i.0 t.0 p.0) (rows_same rows i.1 t.1 p.1)

  pub rows_typed : (rows : List Row) → Rises rows → AllByRecursion (λ row. (are_typed table.key 0 table.columns (drop 1 row) && has_computed table row) ≡ true) rows
      → AllByRecursion (λ row. are_present table.key 0 table.columns row ≡ true) rows → IsTypedBy encode decode rows
  rows_typed rows rises t p = record { rise = rises.rise; same = rows_same rows rises.ints t p }
