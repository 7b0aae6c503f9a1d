-- A content in pieces, as chunks of its upload.
use Rattle.std.specs.Prelude.{if◌then◌else◌, nat_lt, ℕ, zero, suc, ℤ, List, [], ◌∷◌, length, take, drop}
use Rattle.tables.specs.Rows.{Chunk}
use Rattle.tables.specs.Staging.{asked_chunk}

-- how many bytes a piece has; the last one of a content may have fewer
abbrev pub piece_size : ℕ
piece_size = 65536

-- these bytes as chunks of the upload: no more than `most` pieces, each of `size` bytes or the rest, numbered from n
abbrev pub cut_into : (most size : ℕ) → ℤ → ℕ → List ℕ → List Chunk
cut_into zero size upload n bytes = []
cut_into (suc most) size upload n [] = []
cut_into (suc most) size upload n (byte ∷ bytes) =
    asked_chunk upload n (take size (byte ∷ bytes)) ∷ cut_into most size upload (suc n) (drop size (byte ∷ bytes))

-- the content of an upload in pieces
unfoldable pub pieces : ℤ → List ℕ → List Chunk
pieces upload bytes = cut_into (length bytes) piece_size upload 0 bytes

-- of n bytes that may not be synced, how many are left after a sync that is made if there are as many as `most`
abbrev pub left_unsynced : (most n : ℕ) → ℕ
left_unsynced most n = if nat_lt n most then n else 0
