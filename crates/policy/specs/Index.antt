-- An index of rows by their patterns of paths: which rows may hold a path.
use Rattle.std.specs.Prelude.{◌≡◌, ℕ, ◌+◌, ◌*◌, ◌%◌, ◌<◌, ◌≤◌, Bool, true, false, List, [], ◌∷◌, Option, Some, None, length, map, take, get_or, slice_get, All, Vec, ◌==◌}
use Rattle.std.specs.List.{list_any}
use Rattle.std.specs.Global.{Global}
use Rattle.model.specs.Policy.{Question, Decision, decision_by, denied}
use Rattle.policy.specs.Applicable.{NumberedRow, covers_place}

-- the hash of a text with this hash and one more byte
unfoldable pub mixed : ℕ → ℕ → ℕ
mixed hash byte = (hash * 16777619 + byte) % 4294967291

-- the hash of a text with this hash and more bytes; that of the empty text is 0
abbrev pub hashed : ℕ → List ℕ → ℕ
hashed hash [] = hash
hashed hash (byte ∷ bytes) = hashed (mixed hash byte) bytes

-- the positions in each bucket
abbrev pub buckets_view : List (Vec ℕ Global) → List (List ℕ)
buckets_view = map (λ bucket. bucket.items)

-- the bucket of the texts with this hash
abbrev pub bucket_of : List (List ℕ) → ℕ → List ℕ
bucket_of buckets hash = get_or buckets (hash % length buckets) []

-- the path patterns of the row, if there is one
abbrev pub paths_of : Option NumberedRow → List (List ℕ)
paths_of None = []
paths_of (Some numbered) = numbered.row.paths

-- there is a row, and it holds the ref and the path
abbrev pub row_covers : Question → Option NumberedRow → Bool
row_covers q None = false
row_covers q (Some numbered) = covers_place q numbered.row

-- the row decides; if there is none, it is denied
abbrev pub decision_of : Option NumberedRow → Decision
decision_of None = denied 0
decision_of (Some numbered) = decision_by numbered.row.effect numbered.number

-- the row at the position holds the ref and the path
abbrev pub covers_at : Question → List NumberedRow → ℕ → Bool
covers_at q rows n = row_covers q (slice_get rows n)

-- the position is in the bucket
abbrev pub has : List ℕ → ℕ → Bool
has bucket n = list_any (λ other. other == n) bucket

-- the position is in the bucket of each of these patterns
abbrev pub AreIndexed : List (List ℕ) → ℕ → List (List ℕ) → Type 0
AreIndexed buckets n = All (λ pattern. has (bucket_of buckets (hashed 0 pattern)) n ≡ true)

-- each row is in the bucket of each of its path patterns
abbrev pub IsIndex : List NumberedRow → List (List ℕ) → Type 0
IsIndex rows buckets = (n : ℕ) → AreIndexed buckets n (paths_of (slice_get rows n))

-- buckets after positions were added
pub record HaveGrown (old new : List (List ℕ)) : Type 0 where
  pub same : length new ≡ length old
  pub kept : (number n : ℕ) → has (get_or old number []) n ≡ true → has (get_or new number []) n ≡ true

-- the row at the position holds the ref and the path, if there is such a row
abbrev pub IsFound : Question → List NumberedRow → ℕ → Type 0
IsFound q rows n = n < length rows → covers_at q rows n ≡ true

-- no row of the bucket that holds the ref and the path is before the position
abbrev pub NoneBefore : Question → List NumberedRow → ℕ → List ℕ → Type 0
NoneBefore q rows n = All (λ other. covers_at q rows other ≡ true → n ≤ other)

-- of the buckets of the path and of its folders, no row that holds the ref and the path is before the position
pub record AreSearched (q : Question) (rows : List NumberedRow) (buckets : List (List ℕ)) (path : List ℕ) (n : ℕ) : Type 0 where
  pub folders : (i : ℕ) → i < length path → get_or path i 0 ≡ 47
      → NoneBefore q rows n (bucket_of buckets (hashed 0 (take (i + 1) path)))
  pub whole : NoneBefore q rows n (bucket_of buckets (hashed 0 path))

-- the position is that of the first row that holds the ref and the path; if none does, it is past the rows
pub record IsFirst (q : Question) (rows : List NumberedRow) (n : ℕ) : Type 0 where
  pub found : IsFound q rows n
  pub first : (other : ℕ) → covers_at q rows other ≡ true → n ≤ other
