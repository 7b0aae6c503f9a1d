-- The chunks that a store read.
use Rattle.std.specs.Prelude.{◌≡◌, ℕ, suc, ℤ, pos, List, [], ◌∷◌, Option, option_map, length, take, drop, map, filter, IsPermutation}
use Rattle.std.specs.List.{concat}
use Rattle.tables.specs.Rows.{Chunk, Tables}
use Rattle.tables.specs.Statements.{has_number, is_of}
use Rattle.tables.specs.Staging.{asked_chunk, chunk_bytes, numbered_fields, read_numbered}
use Rattle.tables.specs.Listing.{key_fields, read_key}
use Rattle.tables.specs.declared.rows.NumberedChunk.{NumberedChunk}
use Rattle.tables.specs.declared.rows.ChunkKey.{ChunkKey}
use Rattle.store.specs.declared.content.ChunkContent.{ChunkContent}
use Rattle.store.specs.declared.content.ChunkContent.TheVariants as content

-- the bytes, wherever they were read
abbrev pub content_bytes : ChunkContent → List ℕ
content_bytes (content.Row row) = chunk_bytes row
content_bytes (content.Bytes bytes) = bytes.items

-- the result has the bytes of this chunk, or there is none
abbrev pub IsContentOf : Option ChunkContent → Option Chunk → Type 0
IsContentOf found c = option_map content_bytes found ≡ option_map (λ (k : Chunk). k.bytes) c

-- the results are the chunks with this number, in any order
abbrev pub AreAllNumbered : ℕ → List NumberedChunk → Tables → Type 0
AreAllNumbered n found t =
    IsPermutation (map read_numbered found) (map numbered_fields (filter (has_number (pos n)) t.chunks))

-- the results are the keys of the chunks, in any order
abbrev pub AreAllKeys : List ChunkKey → Tables → Type 0
AreAllKeys found t = IsPermutation (map read_key found) (map key_fields t.chunks)

-- chunks of an upload with these bytes, numbered from n on
abbrev pub chunks_with : ℤ → ℕ → List (List ℕ) → List Chunk
chunks_with upload n [] = []
chunks_with upload n (bytes ∷ rest) = asked_chunk upload n bytes ∷ chunks_with upload (suc n) rest

-- the bytes are those of the upload from its byte `at` on, if its chunks are numbered from 0
abbrev pub IsPortion : ℤ → (at : ℕ) → List ℕ → Tables → Type 0
IsPortion upload at bytes t = (each : List (List ℕ)) → filter (is_of upload) t.chunks ≡ chunks_with upload 0 each
    → bytes ≡ take (length bytes) (drop at (concat each))
