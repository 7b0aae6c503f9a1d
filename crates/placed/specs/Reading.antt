-- The piece of a content with a number.
use Rattle.std.specs.Prelude.{ℕ, ◌*◌, if◌then◌else◌, nat_lt, List, length, take, drop, Option, Some, None}
use Rattle.placed.specs.Pieces.{piece_size}

-- the bytes of piece n of the content, or none if the content ends before it
abbrev pub piece_of : ℕ → List ℕ → Option (List ℕ)
piece_of n content = if nat_lt (n * piece_size) (length content) then Some (take piece_size (drop (n * piece_size) content)) else None
