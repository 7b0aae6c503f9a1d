-- The keys of chunks: of which upload a chunk is, and its number.
use Rattle.std.specs.Prelude.{◌≡◌, ℕ, List, Option, map, find, option_map, IsPermutation, IsSorted}
use Rattle.std.specs.Ordering.{int_cmp, ordering_then}
use Rattle.std.specs.declared.cmp.Ordering.{Ordering}
use Rattle.std.specs.declared.cmp.Ordering.TheVariants.{Less}
use Rattle.sqlite_trees.specs.Tree.{IsAscending}
use Rattle.tables.specs.Rows.{Chunk, Tables}
use Rattle.tables.specs.Statements.{is_chunk}
use Rattle.tables.specs.Listing.{KeyFields, key_fields, read_key}
use Rattle.tables.specs.declared.rows.ChunkKey.{ChunkKey}

-- the order of keys by upload and number
abbrev pub key_cmp : KeyFields → KeyFields → Ordering
key_cmp a b = ordering_then (int_cmp a.upload b.upload) (int_cmp a.n b.n)

-- the keys rise, so none occurs twice
abbrev pub KeysRise : List KeyFields → Type 0
KeysRise = IsAscending (λ a b. key_cmp a b ≡ Less)

-- the results are the keys of these chunks, in the order of uploads and numbers
pub record AreKeysInOrder (found : List ChunkKey) (chunks : List Chunk) : Type 0 where
  pub all : IsPermutation (map read_key found) (map key_fields chunks)
  pub ordered : IsSorted key_cmp (map read_key found)

-- the bytes of the chunk with this key, if there is one
abbrev pub bytes_at : KeyFields → Tables → Option (List ℕ)
bytes_at key t = option_map (λ (c : Chunk). c.bytes) (find (is_chunk key.upload key.n) t.chunks)

-- the chunks with this key have the same bytes in both
abbrev pub HasSameBytes : Tables → Tables → KeyFields → Type 0
HasSameBytes old new key = bytes_at key new ≡ bytes_at key old
