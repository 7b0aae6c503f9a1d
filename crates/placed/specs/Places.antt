-- The rows of `chunks` that say where a content is in the file.
use Rattle.std.specs.Prelude.{ℕ, pos, ◌==◌, ◌++◌, if◌then◌else◌, List, length, take, drop, Bool, not, Option, Some, None}
use Rattle.std.specs.Ordering.{int_eq}
use Rattle.std.specs.Int.{w64, to_be_bytes, from_be_bytes}
use Rattle.contents.specs.declared.region.Region.{Region}
use Rattle.tables.specs.Rows.{Chunk}

-- the number of such a row, which no piece of a content has
abbrev pub place_number : ℕ
place_number = 4294967295

-- the row says where the content of its upload is
abbrev pub is_place : Chunk → Bool
is_place c = int_eq c.n (pos place_number)

-- the row has bytes of a content
abbrev pub is_piece : Chunk → Bool
is_piece c = not (is_place c)

-- the bytes of such a row: the start and the size of the region, 8 bytes each, the most significant first
abbrev pub place_of : Region → List ℕ
place_of region = to_be_bytes w64 region.start ++ to_be_bytes w64 region.size

-- the region that these bytes mean
abbrev pub region_in : List ℕ → Option Region
region_in bytes =
    if length bytes == 16 then Some (record { start = from_be_bytes w64 (take 8 bytes); size = from_be_bytes w64 (drop 8 bytes) })
    else None
