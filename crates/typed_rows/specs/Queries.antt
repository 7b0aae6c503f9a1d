-- The queries of the statements.
use Rattle.std.proofs.Common.{ℕ, ℤ, pos, negsuc, List, [], ◌∷◌, None, false, map}
use Rattle.sqlite.specs.declared.types.Value.TheVariants.{Int}
use Rattle.std.specs.Prelude.{◌≡◌}
use Rattle.sqlite.specs.Schema.{Schema}
use Rattle.sqlite_schema.specs.Names.{table_named, index_named, view_named}
use Rattle.sqlite.specs.Term.{Term, lit, col, op2}
use Rattle.sqlite.specs.Query.{Query, inner, end}
use Rattle.sqlite_sql.specs.declared.ops.BinaryOp.TheVariants.{Compare}
use Rattle.sqlite_sql.specs.declared.ops.CompareOp.TheVariants.{Eq}
use Rattle.sqlite.specs.Collation.TheVariants.{Binary}
use Rattle.sqlite_value.specs.Keys.{ascending}

-- the rows of a table that pass the tests, in the order of their rowids
abbrev pub query_of : List Term → List Term → ℕ → Query
query_of filter project tree = record {
  from = inner tree end;
  filter = filter;
  group = None;
  project = project;
  distinct = false;
  collations = [];
  order = (col 1 0, ascending Binary) ∷ [];
  limit = lit (Int (negsuc 0));
  offset = lit (Int (pos 0));
}

-- the same without an order
abbrev pub plain_query : List Term → List Term → ℕ → Query
plain_query tests project tree = record (query_of tests project tree) { order = [] }

-- the same in the order of a column and then of the rowid, with at most `limit` rows
abbrev pub sorted_by : ℕ → ℤ → List Term → List Term → ℕ → Query
sorted_by place limit tests project tree = record (query_of tests project tree) { order = (col 1 place, ascending Binary) ∷ (col 1 0, ascending Binary) ∷ []; limit = lit (Int limit) }

-- the same in the order of these columns
abbrev pub ordered_by : List ℕ → List Term → List Term → ℕ → Query
ordered_by places tests project tree = record (query_of tests project tree) { order = map (λ place. (col 1 place, ascending Binary)) places }

-- the test that the column has the value of the parameter
abbrev pub is_given : ℕ → ℕ → Term
is_given column parameter = op2 (Compare Eq Binary) (col 1 column) (col 0 parameter)

-- the name is free for a table
pub record IsFree (schema : Schema) (name : List ℕ) : Type 0 where
  pub table : table_named schema name ≡ None
  pub index : index_named schema name ≡ None
  pub view : view_named schema name ≡ None
