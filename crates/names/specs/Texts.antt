-- Which texts and numbers are names. A text is the list of its bytes.
use Rattle.std.specs.Prelude.{ℕ, Bool, ◌&&◌, ◌||◌, not, ◌==◌, nat_le, List, [], ◌∷◌, length, codes, bytes_eq, Option, Some, None, decimal, if◌then◌else◌}
use Rattle.std.specs.List.{list_all, slice_split, starts_with}
use Rattle.std.specs.Char.{is_ascii_digit, is_ascii_lowercase, is_ascii_uppercase}
use Rattle.std.specs.Str.{is_utf8}
use Rattle.std.specs.Str.Parse.{digits_value}

-- ---- limits

-- the largest object, in bytes
abbrev pub largest_object : ℕ
largest_object = 4294967296

-- the last lock id of a repository
abbrev pub last_lock_id : ℕ
last_lock_id = 4294967295

-- the last second of the year 9999, in seconds after 1970-01-01
abbrev pub last_moment : ℕ
last_moment = 253402300799

-- from low to high, both included
abbrev pub between : ℕ → ℕ → ℕ → Bool
between low high n = nat_le low n && nat_le n high

-- ---- bytes

-- the byte `-`
abbrev pub hyphen : ℕ
hyphen = 45

-- the byte `.`
abbrev pub dot : ℕ
dot = 46

-- the byte `/`
abbrev pub slash : ℕ
slash = 47

-- the byte `\`
abbrev pub backslash : ℕ
backslash = 92

-- the byte `_`
abbrev pub underscore : ℕ
underscore = 95

-- the control character past the printed ones
abbrev pub delete : ℕ
delete = 0x7F

-- 0 to 9 and a to f
abbrev pub is_hex_digit : ℕ → Bool
is_hex_digit b = is_ascii_digit b || between 97 102 b

-- a to z, 0 to 9, _ and -
abbrev pub is_name_byte : ℕ → Bool
is_name_byte b = is_ascii_lowercase b || is_ascii_digit b || b == underscore || b == hyphen

-- A to Z, a to z, 0 to 9, /, ., _ and -
abbrev pub is_ref_byte : ℕ → Bool
is_ref_byte b = is_name_byte b || is_ascii_uppercase b || b == slash || b == dot

-- neither a control character nor a backslash
abbrev pub is_path_byte : ℕ → Bool
is_path_byte b = nat_le 0x20 b && not (b == delete) && not (b == backslash)

-- ---- parts of a text

-- the parts between the slashes
abbrev pub parts : List ℕ → List (List ℕ)
parts text = slice_split (λ b. b == slash) text

-- the text begins with the front
abbrev pub begins : List ℕ → List ℕ → Bool
begins front text = starts_with (λ a b. a == b) text front

-- the text has two adjacent dots
abbrev pub has_two_dots : List ℕ → Bool
has_two_dots [] = Bool.false
has_two_dots (b ∷ text) = begins (codes "..") (b ∷ text) || has_two_dots text

-- ---- names

-- 64 hexadecimal digits, in lower case: an object's name, or a token
abbrev pub is_hex_64 : List ℕ → Bool
is_hex_64 text = length text == 64 && list_all is_hex_digit text

-- a user, an owner of repositories, or a repository's name below its owner
abbrev pub is_user : List ℕ → Bool
is_user text = between 1 40 (length text) && list_all is_name_byte text

-- the parts are two: an owner and a name
abbrev pub are_owner_and_name : List (List ℕ) → Bool
are_owner_and_name (owner ∷ name ∷ []) = is_user owner && is_user name
are_owner_and_name _ = Bool.false

-- a repository: owner/name
abbrev pub is_repo : List ℕ → Bool
is_repo text = are_owner_and_name (parts text)

-- the text has no byte
abbrev pub is_empty : List ℕ → Bool
is_empty [] = Bool.true
is_empty (b ∷ text) = Bool.false

-- a ref of Git
abbrev pub is_ref : List ℕ → Bool
is_ref text =
    begins (codes "refs/") text && nat_le (length text) 255 && list_all is_ref_byte text
    && not (has_two_dots text) && list_all (λ part. not (is_empty part)) (parts text)

-- not empty, and neither . nor ..
abbrev pub is_path_part : List ℕ → Bool
is_path_part part = not (is_empty part) && not (bytes_eq part (codes ".")) && not (bytes_eq part (codes ".."))

-- a path that may be locked
abbrev pub is_lock_path : List ℕ → Bool
is_lock_path text =
    between 1 1024 (length text) && is_utf8 text && list_all is_path_byte text && list_all is_path_part (parts text)

-- ---- numbers

-- the lock id whose decimal text this is
abbrev pub lock_id_in : List ℕ → Option ℕ
lock_id_in text =
    let n = digits_value 10 text in if bytes_eq text (decimal n) && between 1 last_lock_id n then Some n else None
