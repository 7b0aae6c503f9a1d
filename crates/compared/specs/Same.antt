-- Tables that are the same as others, but for staged uploads and rowids.
use Rattle.std.specs.Prelude.{◌≡◌, ◌≢◌, filter, map}
use Rattle.sqlite_trees.specs.Tree.{IsAscending}
use Rattle.tables.specs.Rows.{Chunk, Tables}
use Rattle.tables.specs.Statements.{is_complete}
use Rattle.tables.specs.Steps.{token_fields}
use Rattle.store.specs.Normal.{settled}
use Rattle.tables.specs.Listing.{repo_fields, repo_lock_fields, retired_fields, key_fields}

-- the two chunks are not of one upload with one number
abbrev pub HasOtherKey : Chunk → Chunk → Type 0
HasOtherKey a b = key_fields a ≢ key_fields b

-- the chunks are all but those of staged uploads, and no two are of one upload with one number
pub record HaveSameChunks (old new : Tables) : Type 0 where
  pub kept : new.chunks ≡ (settled old).chunks
  pub single : IsAscending HasOtherKey new.chunks

-- the rows are the same, in the same order, but for rowids; the uploads are the complete ones; and the chunks are those of
-- uploads that are not staged
pub record AreSame (old new : Tables) : Type 0 where
  pub repos : map repo_fields new.repos ≡ map repo_fields old.repos
  pub locks : map repo_lock_fields new.locks ≡ map repo_lock_fields old.locks
  pub tokens : map token_fields new.tokens ≡ map token_fields old.tokens
  pub retired : map retired_fields new.retired ≡ map retired_fields old.retired
  pub uploads : new.uploads ≡ filter is_complete old.uploads
  pub chunks : HaveSameChunks old new
