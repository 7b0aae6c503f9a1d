-- When a schema has the tables of a version, or none of ours, whatever else it has.
use Rattle.std.specs.Prelude.{◌≡◌, ◌≢◌, ◌<◌, ℕ, Bool, true, false, Some, None, slice_get, List, codes}
use Rattle.std.specs.List.{AllByRecursion, list_any}
use Rattle.sqlite_trees.specs.Tree.{IsAscending}
use Rattle.sqlite.specs.Schema.{Schema}
use Rattle.sqlite.specs.Table.{Table}
use Rattle.sqlite.specs.Rows.{sequence}
use Rattle.sqlite_schema.specs.Names.{same_name, table_named, index_named, view_named}
use Rattle.typed_rows.specs.Queries.{IsFree}
use Rattle.tables.specs.Layout.{Version, version_one, version_of}
use Rattle.tables.specs.declared.layout.Layout.{Layout}
use Rattle.tables.specs.Rows.{Part, meta, name_of, table_for, place_of, tree_of, is_in, parts_of}

-- some foreign key refers to a table of this name
abbrev pub is_parent : Schema → List ℕ → Bool
is_parent schema name = list_any (λ t. list_any (λ r. same_name name r.parent) t.references) schema.tables

-- the table has its name and its definition in the version, wherever it lies, and no foreign key refers to it
pub record HasPart (v : Version) (schema : Schema) (p : Part) : Type 0 where
  pub named : table_named schema (name_of p) ≡ Some (place_of schema p)
  pub found : slice_get schema.tables (place_of schema p) ≡ Some (table_for v p (tree_of schema p))
  pub unreferred : is_parent schema (name_of p) ≡ false

-- the schema has the table as some version has it
unfoldable pub HasSome : Schema → Part → Type 0
HasSome schema p = (v : Version) × HasPart v schema p

-- the first schema has the table as the second one has it
unfoldable pub IsShared : Schema → Schema → Part → Type 0
IsShared schema ours p = (v : Version) → HasPart v ours p → HasPart v schema p

-- the name of SQLite's own table that counts the ids of uploads
abbrev pub counts_name : List ℕ
counts_name = codes "sqlite_sequence"

-- that table is there, and no foreign key refers to it
pub record HasCounts (schema : Schema) : Type 0 where
  pub table : Table
  pub found : sequence schema ≡ Some table
  pub unreferred : is_parent schema counts_name ≡ false

-- each table has a tree of its own
pub record IsLaid (schema : Schema) : Type 0 where
  pub apart : IsAscending (λ s t. s.tree ≢ t.tree) schema.tables
  pub low : AllByRecursion (λ t. t.tree < 65536) schema.tables

-- nothing in the schema has the name of the table, and no foreign key refers to it
pub record LacksPart (schema : Schema) (p : Part) : Type 0 where
  pub free : IsFree schema (name_of p)
  pub unreferred : is_parent schema (name_of p) ≡ false

-- these tables are there, as in the version, and nothing is in the way of the others
pub record HasParts (v : Version) (done : List Part) (schema : Schema) : Type 0 where
  pub made : (p : Part) → is_in p done ≡ true → HasPart v schema p
  pub left : (p : Part) → is_in p done ≡ false → LacksPart schema p

-- the schema has the tables of the version, and nothing in the way of those of a later one, whatever else it has
pub record HasAll (v : Version) (schema : Schema) : Type 0 where
  pub parts : HasParts v (parts_of v) schema
  pub counts : HasCounts schema

-- the schema has the tables of version 1, and nothing else has the name of the one that is made anew
pub record HasFirst (schema : Schema) : Type 0 where
  pub all : HasAll version_one schema
  pub index : index_named schema (name_of meta) ≡ None
  pub view : view_named schema (name_of meta) ≡ None

-- the schema has all tables, in one of the layouts, and each table has a tree of its own
pub record HasWhole (schema : Schema) : Type 0 where
  pub layout : Layout
  pub parts : (p : Part) → HasPart (version_of layout) schema p
  pub counts : HasCounts schema
  pub laid : IsLaid schema

-- the schema has none of our tables, whatever else it has
pub record HasNone (schema : Schema) : Type 0 where
  pub parts : (p : Part) → LacksPart schema p
  pub unreferred : is_parent schema counts_name ≡ false
