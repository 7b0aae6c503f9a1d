-- Objects that are removed for good, and the names that may not be stored again.
use Rattle.std.specs.Prelude.{◌≡◌, ℕ, ◌-ℤ◌, List, map, find, Option, Some, None}
use Rattle.tables.specs.Rows.{Upload, Retired, Tables}
use Rattle.tables.specs.Statements.{is_object, with_retired}
use Rattle.tables.specs.Steps.{used_of}
use Rattle.tables.specs.Staging.{with_used, without_upload}

-- the tables without this object of the repository: its bytes are counted no longer, and its name is retired
unfoldable pub without_object : List ℕ → List ℕ → Upload → Tables → Tables
without_object repo oid u t = with_retired repo oid (with_used repo (used_of repo t -ℤ u.size) (without_upload u.id t))

-- the tables without an object that was found
abbrev pub without_found_object : List ℕ → List ℕ → Option Upload → Tables → Tables
without_found_object repo oid None t = t
without_found_object repo oid (Some u) t = without_object repo oid u t

-- the tables without the object that the repository has under this name; without one, they stay
unfoldable pub after_retire : List ℕ → List ℕ → Tables → Tables
after_retire repo oid t = without_found_object repo oid (find (is_object repo oid) t.uploads) t

-- the names are those of these rows
abbrev pub AreNamesOf : List (List ℕ) → List Retired → Type 0
AreNamesOf names rows = names ≡ map (λ (r : Retired). r.oid) rows
