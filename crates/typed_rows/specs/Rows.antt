-- Rows of a tree as rows of a type.
use Rattle.std.specs.Prelude.{◌≡◌, ℕ, ℤ, pos, List, [], map, IsTrue}
use Rattle.std.specs.List.{AllByRecursion}
use Rattle.sqlite.specs.declared.types.Value.{Value}
use Rattle.sqlite.specs.declared.types.Value.TheVariants.{Int, Text, Blob}
use Rattle.sqlite_value.specs.Order.{Row}
use Rattle.sqlite_trees.specs.Tree.{IsTable, rowid}
use Rattle.sqlite_trees.specs.View.{is_int}

-- the number of a value; 0 for another kind
abbrev pub int_of : Value → ℤ
int_of (Int n) = n
int_of _ = pos 0

-- the bytes of a text or a blob; none for another kind
abbrev pub bytes_of : Value → List ℕ
bytes_of (Text t) = t
bytes_of (Blob b) = b
bytes_of _ = []

-- the rowids rise, and each row has the types of its table
pub record IsTypedBy {X : Type 0} (encode : X → Row) (decode : Row → X) (rows : List Row) : Type 0 where
  pub rise : IsTable rows
  pub same : rows ≡ map encode (map decode rows)

-- the rows of a tree have integer rowids, which rise
pub record Rises (rows : List Row) : Type 0 where
  pub rise : IsTable rows
  pub ints : AllByRecursion (λ r. IsTrue (is_int (rowid r))) rows
