-- Fields, of which the messages of the control socket are made.
use Rattle.std.specs.Prelude.{◌≡◌, ◌≢◌, ◌<◌, ◌^◌, ℕ, List, ◌++◌, length}
use Rattle.std.specs.Int.{to_be_bytes, w32}
use Rattle.std.specs.Str.{IsUtf8}

-- a number in four bytes, the highest first
abbrev pub number_bytes : ℕ → List ℕ
number_bytes n = to_be_bytes w32 n

-- a field: the number of its bytes, and then the bytes
abbrev pub field : List ℕ → List ℕ
field content = number_bytes (length content) ++ content

-- the bytes are few enough for a field
abbrev pub FitsField : List ℕ → Type 0
FitsField content = length content < 2 ^ 32

-- the bytes begin with the field of this content, and this is the rest
pub record BeginsWith (bytes content rest : List ℕ) : Type 0 where
  pub fits : FitsField content
  pub is : bytes ≡ field content ++ rest

-- the bytes do not begin with a field
abbrev pub BeginsWithNone : List ℕ → Type 0
BeginsWithNone bytes =
    (content rest : List ℕ) → FitsField content → bytes ≢ field content ++ rest

-- the bytes do not begin with a field of UTF-8
abbrev pub BeginsWithNoText : List ℕ → Type 0
BeginsWithNoText bytes =
    (content rest : List ℕ) → FitsField content → IsUtf8 content → bytes ≢ field content ++ rest
