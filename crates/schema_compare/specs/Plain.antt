-- The tables that the comparison decides: no float, no foreign key, and no default that reads the time.
use Rattle.std.specs.Prelude.{ℕ, Bool, true, false, ◌&&◌, List, [], ◌∷◌}
use Rattle.std.specs.List.{list_all}
use Rattle.sqlite_value.specs.declared.value.Value.{Value}
use Rattle.sqlite_value.specs.declared.value.Value.TheVariants.{Null, Int, Real, Text, Blob}
use Rattle.sqlite_sql.specs.Term.{Term, lit, col, op1, op2, case}
use Rattle.sqlite_schema.specs.declared.schema.Column.{Column}
use Rattle.sqlite_schema.specs.declared.schema.Table.{Table}
use Rattle.sqlite_schema.specs.declared.schema.Stamps.{Stamps}

-- the list is empty
abbrev pub is_none : {X : Type 0} → List X → Bool
is_none [] = true
is_none (x ∷ xs) = false

-- the value is no float
abbrev pub is_plain_value : Value → Bool
is_plain_value Null = true
is_plain_value (Int n) = true
is_plain_value (Real x) = false
is_plain_value (Text t) = true
is_plain_value (Blob b) = true

-- no constant in the term is a float
abbrev pub is_plain_term : Term → Bool
is_plain_term (lit v) = is_plain_value v
is_plain_term (col slot at) = true
is_plain_term (op1 op a) = is_plain_term a
is_plain_term (op2 op a b) = is_plain_term a && is_plain_term b
is_plain_term (case test a b) = is_plain_term test && (is_plain_term a && is_plain_term b)

-- the column's default is no float
abbrev pub is_plain_column : Column → Bool
is_plain_column c = is_plain_value c.default

-- no default of the table reads the time, and no float is in one
abbrev pub is_plain_stamps : Stamps → Bool
is_plain_stamps s = list_all is_plain_term s.terms && is_none s.formats

-- the table has no float, no foreign key, and no default that reads the time
abbrev pub is_plain_table : Table → Bool
is_plain_table t = list_all is_plain_column t.columns && (list_all is_plain_term t.checks && (is_none t.references && is_plain_stamps t.stamps))
