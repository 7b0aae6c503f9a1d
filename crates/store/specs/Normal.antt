-- Tables in one form, whatever the order of their chunks, and what a stop may leave of them.
use Rattle.std.specs.Prelude.{◌≡◌, ◌⊎◌, pos, Bool, not, List, filter, find, map, is_some}
use Rattle.std.specs.List.{AllByRecursion}
use Rattle.std.specs.Ordering.{int_cmp, ordering_then}
use Rattle.std.specs.declared.cmp.Ordering.{Ordering}
use Rattle.sqlite_keyed.specs.Lists.{sort_by}
use Rattle.tables.specs.Rows.{Upload, Chunk, Tables}
use Rattle.tables.specs.Statements.{is_staged_with}

-- a chunk, without its place in the table
abbrev pub placeless : Chunk → Chunk
placeless c = record c { rowid = pos 0 }

-- the order of chunks by upload and number
abbrev pub chunk_cmp : Chunk → Chunk → Ordering
chunk_cmp a b = ordering_then (int_cmp a.upload b.upload) (int_cmp a.n b.n)

-- the chunks by upload and number, whatever the order of their rows
abbrev pub arranged : List Chunk → List Chunk
arranged chunks = sort_by chunk_cmp (map placeless chunks)

-- the tables with their chunks arranged
abbrev pub normal : Tables → Tables
normal t = record t { chunks = arranged t.chunks }

-- the chunk is one of a staged upload
abbrev pub is_of_staged : List Upload → Chunk → Bool
is_of_staged uploads c = is_some (find (is_staged_with c.upload) uploads)

-- the tables without the chunks of staged uploads
abbrev pub settled : Tables → Tables
settled t = record t { chunks = filter (λ c. not (is_of_staged t.uploads c)) t.chunks }

-- a stop may leave these of the first tables: all of them, or all but the chunks of staged uploads
abbrev pub Remains : Tables → Tables → Type 0
Remains t left = (left ≡ t) ⊎ (left ≡ settled t)

-- each upload is staged or complete
abbrev pub AreMarked : Tables → Type 0
AreMarked t = AllByRecursion (λ (u : Upload). (u.done ≡ pos 0) ⊎ (u.done ≡ pos 1)) t.uploads
