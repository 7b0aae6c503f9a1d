-- The tables that a database shows together with a file of contents.
use Rattle.std.specs.Prelude.{ℕ, ℤ, pos, cond, not, ◌++◌, List, [], map, filter, take, drop, Option, Some, None}
use Rattle.std.specs.List.{flat_map}
use Rattle.std.specs.Ordering.{int_eq}
use Rattle.contents.specs.declared.region.Region.{Region}
use Rattle.contents.specs.declared.draft.Draft.{Draft}
use Rattle.tables.specs.Layout.{current, number_of, version_three}
use Rattle.tables.specs.Rows.{Chunk, Meta, Tables}
use Rattle.tables.specs.Staging.{upload_number}
use Rattle.store.specs.Normal.{arranged}
use Rattle.placed.specs.declared.staged.Staged.{Staged}
use Rattle.placed.specs.Pieces.{pieces}
use Rattle.placed.specs.Places.{is_place, is_piece, region_in}

-- the bytes of the file in a region
abbrev pub content_in : List ℕ → Region → List ℕ
content_in file region = take region.size (drop region.start file)

-- the bytes of the file that are written of a draft
abbrev pub written_in : List ℕ → Draft → List ℕ
written_in file draft = take draft.written (drop draft.region.start file)

-- the pieces of the content in this region of the file
abbrev pub pieces_in : List ℕ → Chunk → Option Region → List Chunk
pieces_in file c None = []
pieces_in file c (Some region) = pieces c.upload (content_in file region)

-- the pieces of the content at a place
abbrev pub pieces_at : List ℕ → Chunk → List Chunk
pieces_at file c = pieces_in file c (region_in c.bytes)

-- the pieces of a content that is being received
abbrev pub received_pieces : List ℕ → Staged → List Chunk
received_pieces file s = pieces (upload_number s.id) (written_in file s.draft)

-- the chunks in the rows, those at the places, and those that are being received
abbrev pub all_chunks : List ℕ → List Staged → List Chunk → List Chunk
all_chunks file staged chunks =
    filter is_piece chunks ++ (flat_map (pieces_at file) (filter is_place chunks) ++ flat_map (received_pieces file) staged)

-- those of other uploads
abbrev pub others_of : ℤ → List Staged → List Staged
others_of id = filter (λ s. not (int_eq (upload_number s.id) id))

-- those of other uploads than the one that was found
abbrev pub others_of_found : Option ℤ → List Staged → List Staged
others_of_found None staged = staged
others_of_found (Some id) staged = others_of id staged

-- the number that a store shows: that of a database whose contents are rows, if its own is that of a database that may name
-- places in a file; else 0, which no database has
abbrev pub shown_number : ℤ → ℤ
shown_number n = cond (int_eq n (pos (number_of version_three))) (pos (number_of current)) (pos 0)

-- the row of `meta` with the number that is shown
abbrev pub shown_meta : List Meta → List Meta
shown_meta = map (λ (m : Meta). record m { version = shown_number m.version })

-- the tables with that row
abbrev pub renumbered : Tables → Tables
renumbered t = record t { meta = shown_meta t.meta }

-- what the tables of a database mean beside this file and these contents that are being received
unfoldable pub view : List ℕ → List Staged → Tables → Tables
view file staged t = record t { meta = shown_meta t.meta; chunks = arranged (all_chunks file staged t.chunks) }
