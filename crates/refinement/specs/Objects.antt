-- The objects that rows of uploads and chunks represent.
use Rattle.std.specs.Prelude.{◌≡◌, ◌≤◌, ℕ, suc, ℤ, pos, List, [], ◌∷◌, map, filter, find, length, is_some, IsTrue, AllPairs, IsPermutation}
use Rattle.std.specs.List.{AllByRecursion, concat}
use Rattle.std.specs.Ordering.{int_cmp}
use Rattle.std.specs.declared.cmp.Ordering.{Ordering}
use Rattle.sqlite_keyed.specs.Keyed.{IsKeyedBy}
use Rattle.sqlite_keyed.specs.Lists.{sort_by}
use Rattle.names.specs.Texts.{largest_object}
use Rattle.model.specs.World.{Object}
use Rattle.tables.specs.Rows as row
use Rattle.tables.specs.Statements.{is_upload, is_complete, is_staged, is_of}
use Rattle.tables.specs.Staging.{asked_chunk}

-- ---- chunks

-- a row of `chunks`, without its place in the table
abbrev pub chunk_kept : row.Chunk → row.Chunk
chunk_kept c = record c { rowid = pos 0 }

-- the order of chunks by their numbers
abbrev pub number_cmp : row.Chunk → row.Chunk → Ordering
number_cmp a b = int_cmp a.n b.n

-- the chunks of an upload, in the order of their numbers, whatever the order of their rows
abbrev pub chunks_of : ℤ → List row.Chunk → List row.Chunk
chunks_of id chunks = sort_by number_cmp (filter (is_of id) chunks)

-- the bytes of each chunk of an upload, in that order
abbrev pub pieces_of : ℤ → List row.Chunk → List (List ℕ)
pieces_of id chunks = map (λ (c : row.Chunk). c.bytes) (chunks_of id chunks)

-- the bytes of an upload: those of its chunks, joined
abbrev pub bytes_of : ℤ → List row.Chunk → List ℕ
bytes_of id chunks = concat (pieces_of id chunks)

-- the rows of these pieces of an upload, with numbers from n on
abbrev pub piece_rows : ℤ → ℕ → List (List ℕ) → List row.Chunk
piece_rows id n [] = []
piece_rows id n (piece ∷ pieces) = asked_chunk id n piece ∷ piece_rows id (suc n) pieces

-- the chunks of the upload, in the order of their numbers, are these pieces, with the numbers 0, 1, 2 and so on
abbrev pub HasPieces : ℤ → List (List ℕ) → List row.Chunk → Type 0
HasPieces id pieces chunks = map chunk_kept (chunks_of id chunks) ≡ piece_rows id 0 pieces

-- the chunks of the upload are these bytes
abbrev pub IsStored : ℤ → List ℕ → List row.Chunk → Type 0
IsStored id bytes chunks = (pieces : List (List ℕ)) × HasPieces id pieces chunks × (concat pieces ≡ bytes)

-- ---- uploads

-- the object of a complete upload
abbrev pub object_in : List row.Chunk → row.Upload → Object
object_in chunks u = record { repo = u.repo; name = u.oid; bytes = bytes_of u.id chunks }

-- an upload of which this number of bytes is stored has a size in range; if it is complete, that is all its bytes
pub record HasSize (stored : ℕ) (u : row.Upload) : Type 0 where
  pub size : ℕ
  pub is : u.size ≡ pos size
  pub in_range : size ≤ largest_object
  pub fits : stored ≤ size
  pub whole : IsTrue (is_complete u) → stored ≡ size

-- two uploads are of different repositories
abbrev pub DiffersInRepo : row.Upload → row.Upload → Type 0
DiffersInRepo a b = a.repo ≡ b.repo → ⊥

-- complete uploads are the objects, in any order, each with its bytes; a repository has at most one staged upload;
-- each upload's chunks are numbered 0, 1, 2 and so on, in any order of their rows; and each chunk's upload exists
pub record RepresentObjects (uploads : List row.Upload) (chunks : List row.Chunk) (objects : List Object)
    : Type 0 where
  pub complete : IsPermutation (map (object_in chunks) (filter is_complete uploads)) objects
  pub sizes : AllByRecursion (λ u. HasSize (length (bytes_of u.id chunks)) u) uploads
  pub numbered : (id : ℤ) → HasPieces id (pieces_of id chunks) chunks
  pub owned : AllByRecursion (λ c. IsTrue (is_some (find (is_upload c.upload) uploads))) chunks
  pub staged : AllPairs DiffersInRepo (filter is_staged uploads)
  pub rise : IsKeyedBy (λ u. u.id) uploads
