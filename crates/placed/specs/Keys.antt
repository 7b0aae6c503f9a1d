-- The keys of the pieces of contents, as they are listed.
use Rattle.std.specs.Prelude.{ℕ, ℤ, pos, ◌+◌, ◌/◌, ◌%◌, min, List, [], map, Option, Some, None}
use Rattle.std.specs.List.{range_with_len}
use Rattle.contents.specs.declared.region.Region.{Region}
use Rattle.tables.specs.Listing.{KeyFields}
use Rattle.tables.specs.Staging.{NumberedFields, upload_number}
use Rattle.placed.specs.declared.staged.Staged.{Staged}
use Rattle.placed.specs.Pieces.{piece_size}
use Rattle.placed.specs.Places.{region_in}

-- how many pieces a content of n bytes has
abbrev pub piece_count : ℕ → ℕ
piece_count n = n / piece_size + min 1 (n % piece_size)

-- the key of the piece with this number
abbrev pub key_of : ℤ → ℕ → KeyFields
key_of upload i = record { upload = upload; n = pos i }

-- the keys of the pieces of a content of n bytes
abbrev pub piece_keys : ℤ → ℕ → List KeyFields
piece_keys upload n = map (key_of upload) (range_with_len 0 (piece_count n))

-- the keys of the pieces of the content in a region
abbrev pub keys_in : ℤ → Option Region → List KeyFields
keys_in upload None = []
keys_in upload (Some region) = piece_keys upload region.size

-- the keys of the pieces of the content at a place
abbrev pub keys_at : NumberedFields → List KeyFields
keys_at place = keys_in place.upload (region_in place.bytes)

-- the keys of the pieces of a content that is being received
abbrev pub received_keys : Staged → List KeyFields
received_keys s = piece_keys (upload_number s.id) s.draft.written
