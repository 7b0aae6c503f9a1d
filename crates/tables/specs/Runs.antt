-- The state of a connection after a statement, and after a call of several statements.
use Rattle.std.specs.Prelude.{◌≡◌, ◌⊎◌, true, [], ◌∷◌, IsTrue, ℕ, List}
use Rattle.sqlite.specs.Tree.{Trees}
use Rattle.sqlite.specs.State.{State, HasCleanDisk}
use Rattle.sqlite.specs.Effect.{Database}
use Rattle.sqlite.specs.Schema.{Schema}
use Rattle.sqlite_catalog.specs.Listing.{IsSound}
use Rattle.std.specs.Prelude.{pos}
use Rattle.typed_rows.specs.Transactions.{Keeps}
use Rattle.tables.specs.Layout.{Version, version_one, number_of, current}
use Rattle.tables.specs.Making.{IsBlank, with_parts, upgraded}
use Rattle.tables.specs.Schemas.{HasPart, HasAll, HasFirst, HasWhole, HasNone, IsLaid}
use Rattle.tables.specs.Rows.{Part, meta, Meta, AreTyped, IsTyped, Tables, tables_of, is_in, parts_of}
use Rattle.tables.specs.Statements.{Write, HasRemoved, after}
use Rattle.tables.specs.declared.rows.Migrated.{Migrated}
use Rattle.tables.specs.declared.rows.Migrated.TheVariants as result

-- the trees list the schema and obey it; a definition of its own, so that proof search does not unfold it
unfoldable pub IsOurs : Database → Type 0
IsOurs db = IsSound db.schema db.trees

-- the schema has the tables; a definition of its own, so that proof search does not unfold it
unfoldable pub IsWhole : Schema → Type 0
IsWhole = HasWhole

-- the database has the tables, and rows of their types
pub record IsKept (db : Database) : Type 0 where
  pub schema : IsWhole db.schema
  pub typed : AreTyped db.schema db.trees
  pub ours : IsOurs db

-- the database has the tables of version 1, and rows of their types
pub record IsOld (db : Database) : Type 0 where
  pub schema : HasFirst db.schema
  pub laid : IsLaid db.schema
  pub typed : (p : Part) → is_in p (parts_of version_one) ≡ true → IsTyped p db.schema db.trees
  pub ours : IsOurs db

-- the database has the table `meta` of the version, and rows of its type in it
pub record HasMeta (v : Version) (db : Database) : Type 0 where
  pub part : HasPart v db.schema meta
  pub laid : IsLaid db.schema
  pub typed : IsTyped meta db.schema db.trees

-- while it is open, the connection has the tables
abbrev pub IsReady : State → Type 0
IsReady s = HasCleanDisk s → IsTrue s.is_open → IsKept s.now

-- while it is open, the connection has the tables of version 1
abbrev pub IsReadyOld : State → Type 0
IsReadyOld s = HasCleanDisk s → IsTrue s.is_open → IsOld s.now

-- the rows of the tables of the connection, with the changes of an open transaction
abbrev pub tables_in : State → Tables
tables_in s = tables_of s.now

-- this step was made inside a transaction
pub record Steps (step : Tables → Tables) (old new : State) : Type 0 where
  pub was_open : IsTrue old.is_open
  pub is_open : IsTrue new.is_open
  pub kept : IsKept new.now
  pub tables : tables_in new ≡ step (tables_in old)
  pub inside : new.in_transaction ≡ true

-- a writing statement made its step; if it removes rows, it removed n
pub record IsWritten (w : Write) (rows : ℕ) (old new : State) : Type 0 where
  pub step : Steps (after w) old new
  pub gone : HasRemoved w (tables_in old) rows

-- the database is the old one after the step
pub record IsAfter (step : Tables → Tables) (old new : Database) : Type 0 where
  pub kept : IsKept new
  pub tables : tables_of new ≡ step (tables_of old)

-- the trees of a database after the step, if an open connection has made it
abbrev pub Leads : (Tables → Tables) → State → Trees → Type 0
Leads step old trees = (db : Database) × IsTrue old.is_open × IsAfter step old.now db × (trees ≡ db.trees)

-- inside a transaction, a database with some of the tables of version 1, and no rows in them, got more
pub record Blanks (before after : List Part) (old new : State) : Type 0 where
  pub was_open : IsTrue old.is_open
  pub is_open : IsTrue new.is_open
  pub blank : IsBlank before old.now → IsBlank after new.now × IsOurs new.now
  pub grown : IsBlank before old.now → (from : Schema) → old.now.schema ≡ with_parts before from → new.now.schema ≡ with_parts after from
  pub inside : new.in_transaction ≡ true

-- the only row of `meta`
abbrev pub meta_of : Version → Meta
meta_of v = record { one = pos 1; version = pos (number_of v) }

-- the row of `meta` of a database whose contents are rows
abbrev pub current_meta : Meta
current_meta = meta_of current

-- the tables of a later version that are made of those of version 1: all rows stay, and no name is retired
unfoldable pub raised : Version → Tables → Tables
raised v t = record t { meta = meta_of v ∷ []; retired = []; schema = upgraded v t.schema }

-- the tables of version 2 that are made of those of version 1
abbrev pub migrated : Tables → Tables
migrated = raised current

-- the tables of a new database: those of version 1, made beside those of this schema, and then the step to this version
abbrev pub fresh : Version → Schema → Tables
fresh v schema = record {
  meta = meta_of v ∷ [];
  repos = [];
  tokens = [];
  uploads = [];
  chunks = [];
  locks = [];
  retired = [];
  schema = upgraded v (with_parts (parts_of version_one) schema);
}

-- the step to the tables of a new database
unfoldable pub with_fresh : Version → Schema → Tables → Tables
with_fresh v schema _ = fresh v schema

-- the database has none of our tables
abbrev pub HasNoTable : State → Type 0
HasNoTable s = HasNone s.now.schema

-- the database does not have none of our tables, and does not have those of this version with its number
pub record IsForeign (v : Version) (s : State) : Type 0 where
  pub some : ¬ HasNoTable s
  pub other : HasAll v s.now.schema → ¬ ((tables_in s).meta ≡ meta_of v ∷ [])

-- the trees of a new database, if the old one had none of our tables
abbrev pub LeadsIfBlank : Version → State → Trees → Type 0
LeadsIfBlank v old trees = HasNoTable old × Leads (with_fresh v old.now.schema) old trees

-- a database with none of our tables got them, or nothing was changed
abbrev pub MakesOrKeeps : Version → State → State → Type 0
MakesOrKeeps v old new = (HasNoTable old × IsTrue old.is_open × IsAfter (with_fresh v old.now.schema) old.now new.now) ⊎ Keeps old new

-- after a crash now, the next open finds a database with our tables
abbrev pub LeavesOurs : State → Type 0
LeavesOurs s = (trees : Trees) → s.may_leave trees → (db : Database) × IsKept db × (trees ≡ db.trees)

-- it is open, with nothing pending, and its tables are those of this version
pub record HasOurs (v : Version) (s : State) : Type 0 where
  pub is_open : IsTrue s.is_open
  pub settled : s.now ≡ s.committed
  pub kept : IsKept s.now
  pub version : (tables_in s).meta ≡ meta_of v ∷ []

-- the next open finds the new tables, if there was none of them before, or our tables unchanged
abbrev pub LeavesOnly : Version → State → State → Type 0
LeavesOnly v old new =
    (db : Database) → IsKept db → new.may_leave db.trees
    → (HasNoTable old × (tables_of db ≡ fresh v old.now.schema)) ⊎ (HasOurs v old × (tables_of db ≡ tables_in old))

-- ---- a migration

-- it is open, with nothing pending, and its tables are those of version 1 with their number
pub record HasOld (s : State) : Type 0 where
  pub is_open : IsTrue s.is_open
  pub settled : s.now ≡ s.committed
  pub old : IsOld s.now
  pub version : (tables_in s).meta ≡ meta_of version_one ∷ []

-- the database is foreign, and does not have the tables of version 1 with their number
pub record IsUnknown (s : State) : Type 0 where
  pub foreign : IsForeign current s
  pub other : HasFirst s.now.schema → ¬ ((tables_in s).meta ≡ meta_of version_one ∷ [])

-- what a migration did: it migrated a database of version 1; or the database had nothing of ours, or the current tables
abbrev pub Migrates : State → State → Migrated → Type 0
Migrates old new result.From1 = HasOld old × IsAfter migrated old.now new.now
Migrates old new result.Already = MakesOrKeeps current old new

-- the next open finds the migrated tables, or what it finds after `MakesOrKeeps`
abbrev pub LeavesMigrated : State → State → Migrated → Type 0
LeavesMigrated old new result.From1 =
    HasOld old × ((db : Database) → IsKept db → new.may_leave db.trees → tables_of db ≡ migrated (tables_in old))
LeavesMigrated old new result.Already = LeavesOnly current old new

-- the trees of a new database, if the old one had nothing of ours, or of a migrated one, if it was of version 1
abbrev pub LeadsIfAny : State → Trees → Type 0
LeadsIfAny old trees = LeadsIfBlank current old trees ⊎ (HasOld old × Leads migrated old trees)
