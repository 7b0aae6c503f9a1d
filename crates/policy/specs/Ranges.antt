-- Which values a policy may hold.
use Rattle.std.specs.Prelude.{ℕ, ◌-◌, Bool, true, false, ◌&&◌, ◌||◌, not, ◌==◌, nat_lt, List, [], ◌∷◌, length, map, take, codes, bytes_eq, String, string_bytes, Option, Some, None, if◌then◌else◌}
use Rattle.std.specs.List.{list_all, list_any, ends_with}
use Rattle.std.specs.Char.{is_ascii_uppercase}
use Rattle.std.specs.declared.alloc.Global.{Global}
use Rattle.names.specs.Texts.{between, begins, is_name_byte, slash, dot, is_user, is_repo, is_ref, is_lock_path}
use Rattle.model.specs.Policy.{is_any}

-- ---- limits

-- the longest policy file, in bytes
abbrev pub longest_file : ℕ
longest_file = 1048576

-- the largest number of repositories in a policy
abbrev pub most_repos : ℕ
most_repos = 256

-- the largest number of rows in a policy
abbrev pub most_rows : ℕ
most_rows = 1000

-- the largest number of entries in a list of a row
abbrev pub most_entries : ℕ
most_entries = 64

-- the longest lifetime of a token, in seconds
abbrev pub longest_life : ℕ
longest_life = 86400

-- the largest quota of a repository, in bytes
abbrev pub largest_quota : ℕ
largest_quota = 1099511627776

-- ---- the server's address

-- the byte `:`
abbrev pub colon : ℕ
colon = 58

-- A to Z, a to z, 0 to 9, ., :, _, / and -
abbrev pub is_base_byte : ℕ → Bool
is_base_byte b = is_name_byte b || is_ascii_uppercase b || b == dot || b == colon || b == slash

-- the text begins with the front and is longer than it
abbrev pub goes_on : List ℕ → List ℕ → Bool
goes_on front text = begins front text && nat_lt (length front) (length text)

-- the text ends in a slash
abbrev pub ends_in_slash : List ℕ → Bool
ends_in_slash text = ends_with (λ a b. a == b) text (codes "/")

-- the address under which the repositories are served
abbrev pub is_base : List ℕ → Bool
is_base text =
    between 8 200 (length text) && list_all is_base_byte text
    && (goes_on (codes "http://") text || goes_on (codes "https://") text) && not (ends_in_slash text)

-- ---- entries of a row

-- the text before a slash at its end
abbrev pub before_slash : List ℕ → Option (List ℕ)
before_slash text = if ends_in_slash text then Some (take (length text - 1) text) else None

-- the value exists and passes the test
abbrev pub passes : {A : Type 0} → Option A → (A → Bool) → Bool
passes None test = false
passes (Some x) test = test x

-- a text that passes the test, and a slash
abbrev pub is_front : (List ℕ → Bool) → List ℕ → Bool
is_front test text = passes (before_slash text) test

-- * or a user
abbrev pub is_user_entry : List ℕ → Bool
is_user_entry text = is_any text || is_user text

-- *, an owner and a slash, or a repository
abbrev pub is_repo_entry : List ℕ → Bool
is_repo_entry text = is_any text || is_front is_user text || is_repo text

-- *, refs/, a ref and a slash, or a ref
abbrev pub is_ref_entry : List ℕ → Bool
is_ref_entry text = is_any text || bytes_eq text (codes "refs/") || is_front is_ref text || is_ref text

-- *, a path and a slash, or a path
abbrev pub is_path_entry : List ℕ → Bool
is_path_entry text = is_any text || is_front is_lock_path text || is_lock_path text

-- 1 to 64 entries
abbrev pub is_count : {A : Type 0} → List A → Bool
is_count entries = between 1 most_entries (length entries)

-- 1 to 64 entries, each of which passes the test
abbrev pub are_entries : (List ℕ → Bool) → List (List ℕ) → Bool
are_entries test entries = is_count entries && list_all test entries

-- ---- names

-- the name is one of these
abbrev pub is_among : List ℕ → List (List ℕ) → Bool
is_among name names = list_any (λ other. bytes_eq other name) names

-- no name occurs twice
abbrev pub are_distinct : List (List ℕ) → Bool
are_distinct [] = true
are_distinct (name ∷ names) = not (is_among name names) && are_distinct names

-- the bytes of each text
abbrev pub texts : List (String Global) → List (List ℕ)
texts ts = map string_bytes ts
