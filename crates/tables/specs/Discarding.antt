-- Objects that are removed because their bytes are damaged, and the count of the bytes that are left.
use Rattle.std.specs.Prelude.{ℕ, ℤ, List, find, Option, Some, None}
use Rattle.sqlite_keyed.specs.Lists.{sum_of}
use Rattle.tables.specs.Rows.{Upload, Tables}
use Rattle.tables.specs.Statements.{is_object}
use Rattle.tables.specs.Staging.{objects_of, with_used, without_upload}

-- the sizes of these uploads, added up
abbrev pub sizes_sum : List Upload → ℤ
sizes_sum = sum_of (λ (u : Upload). u.size)

-- the tables in which the bytes that the repository stores are the sizes of its objects, added up
unfoldable pub recounted : List ℕ → Tables → Tables
recounted repo t = with_used repo (sizes_sum (objects_of (Some repo) t)) t

-- the tables without an object that was found: the bytes of the others are counted again
abbrev pub without_discarded : List ℕ → Option Upload → Tables → Tables
without_discarded repo None t = t
without_discarded repo (Some u) t = recounted repo (without_upload u.id t)

-- the tables without the object that the repository has under this name; without one, they stay
unfoldable pub after_discard : List ℕ → List ℕ → Tables → Tables
after_discard repo oid t = without_discarded repo (find (is_object repo oid) t.uploads) t
