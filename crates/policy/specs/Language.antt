-- The language of policy files: the keys of its tables, and the values at each key.
use Rattle.std.specs.Prelude.{ℕ, Bool, false, nat_le, ℤ, pos, negsuc, List, [], ◌∷◌, length, codes, bytes_eq, Option, Some, None, option_map, option_and_then, is_some, if◌then◌else◌}
use Rattle.std.specs.List.{list_all, list_any}
use Rattle.toml.specs.Data.{Data, Items, no_items, item, Members, no_members, member, get_member, as_str, as_integer, as_array}
use Rattle.names.specs.Texts.{between, is_repo, is_ref}
use Rattle.model.specs.declared.Right.{Right}
use Rattle.model.specs.declared.Right.TheVariants as right
use Rattle.model.specs.declared.Effect.{Effect}
use Rattle.model.specs.declared.Effect.TheVariants as effect
use Rattle.policy.specs.declared.keys.Key.{Key}
use Rattle.policy.specs.declared.keys.Key.TheVariants as key
use Rattle.policy.specs.Ranges.{most_repos, most_rows, longest_life, largest_quota, is_base, passes, are_entries, is_user_entry, is_repo_entry, is_ref_entry, is_path_entry}

-- ---- words

-- the effect with that name
abbrev pub effect_named : List ℕ → Option Effect
effect_named text =
    if bytes_eq text (codes "allow") then Some effect.Allow
    else if bytes_eq text (codes "deny") then Some effect.Deny
    else None

-- the right with that name
abbrev pub right_named : List ℕ → Option Right
right_named text =
    if bytes_eq text (codes "pull") then Some right.Pull
    else if bytes_eq text (codes "push") then Some right.Push
    else if bytes_eq text (codes "list") then Some right.List
    else if bytes_eq text (codes "lock") then Some right.Lock
    else if bytes_eq text (codes "force") then Some right.Force
    else None

-- the text is the name of an effect
abbrev pub is_effect : List ℕ → Bool
is_effect text = is_some (effect_named text)

-- the text is the name of a right
abbrev pub is_right : List ℕ → Bool
is_right text = is_some (right_named text)

-- ---- the keys

-- the kind and the range of the value at a key
pub data Kind : Type 0 where
  -- a text that passes the test
  text : (List ℕ → Bool) → Kind
  -- a whole number, at least the first and at most the second
  whole : ℕ → ℕ → Kind
  -- an array of 1 to 64 texts that pass the test
  texts : (List ℕ → Bool) → Kind
  -- an array of at most this many tables; a missing key counts as an empty array
  tables : ℕ → Kind

-- the kind of each key
abbrev pub kind_of : Key → Kind
kind_of key.Base = text is_base
kind_of key.TokenSeconds = whole 1 longest_life
kind_of key.Repo = tables most_repos
kind_of key.Row = tables most_rows
kind_of key.Name = text is_repo
kind_of key.DefaultRef = text is_ref
kind_of key.Quota = whole 0 largest_quota
kind_of key.Effect = text is_effect
kind_of key.Users = texts is_user_entry
kind_of key.Repos = texts is_repo_entry
kind_of key.Refs = texts is_ref_entry
kind_of key.Paths = texts is_path_entry
kind_of key.Rights = texts is_right

-- the name of each key, as written
abbrev pub key_name : Key → List ℕ
key_name key.Base = codes "base"
key_name key.TokenSeconds = codes "token_seconds"
key_name key.Repo = codes "repo"
key_name key.Row = codes "row"
key_name key.Name = codes "name"
key_name key.DefaultRef = codes "default_ref"
key_name key.Quota = codes "quota"
key_name key.Effect = codes "effect"
key_name key.Users = codes "users"
key_name key.Repos = codes "repos"
key_name key.Refs = codes "refs"
key_name key.Paths = codes "paths"
key_name key.Rights = codes "rights"

-- the keys of the file, in the order in which they are checked
abbrev pub top_keys : List Key
top_keys = key.Base ∷ key.TokenSeconds ∷ key.Repo ∷ key.Row ∷ []

-- the keys of a repository, in the order in which they are checked
abbrev pub repo_keys : List Key
repo_keys = key.Name ∷ key.DefaultRef ∷ key.Quota ∷ []

-- the keys of a row, in the order in which they are checked
abbrev pub row_keys : List Key
row_keys = key.Effect ∷ key.Users ∷ key.Repos ∷ key.Refs ∷ key.Paths ∷ key.Rights ∷ []

-- ---- the values at the keys of a table

-- the values of an array, as a list
abbrev pub list_of : Items → List Data
list_of no_items = []
list_of (item d ds) = d ∷ list_of ds

-- the keys of a table, as a list
abbrev pub names_of : Members → List (List ℕ)
names_of no_members = []
names_of (member name d ms) = name ∷ names_of ms

-- the texts of an array that holds only texts
abbrev pub all_texts : List Data → Option (List (List ℕ))
all_texts [] = Some []
all_texts (d ∷ ds) = option_and_then (λ text. option_map (λ more. text ∷ more) (all_texts ds)) (as_str d)

-- the values, if it is an array
abbrev pub as_values : Data → Option (List Data)
as_values d = option_map list_of (as_array d)

-- the texts, if it is an array of texts
abbrev pub as_texts : Data → Option (List (List ℕ))
as_texts d = option_and_then all_texts (as_values d)

-- the value at the key
abbrev pub value_at : Members → Key → Option Data
value_at t k = get_member (key_name k) t

-- the text at the key, if the value is a text
unfoldable pub text_at : Members → Key → Option (List ℕ)
text_at t k = option_and_then as_str (value_at t k)

-- the whole number at the key
unfoldable pub whole_at : Members → Key → Option ℤ
whole_at t k = option_and_then as_integer (value_at t k)

-- the texts at the key
unfoldable pub texts_at : Members → Key → Option (List (List ℕ))
texts_at t k = option_and_then as_texts (value_at t k)

-- the values of an array; empty if the key is missing
abbrev pub entries_of : Option Data → Option (List Data)
entries_of None = Some []
entries_of (Some d) = as_values d

-- the entries of the array at the key; empty if the key is missing
unfoldable pub entries_at : Members → Key → Option (List Data)
entries_at t k = entries_of (value_at t k)

-- ---- tests of a table

-- the number, if it is at least the first and at most the second
abbrev pub natural_within : ℕ → ℕ → ℤ → Option ℕ
natural_within low high (pos n) = if between low high n then Some n else None
natural_within low high (negsuc n) = None

-- the test of a text, or of each text
abbrev pub test_of : Kind → List ℕ → Bool
test_of (text test) = test
test_of (texts test) = test
test_of _ = λ _. false

-- the value at the key has the kind
abbrev pub has_kind : Kind → Members → Key → Bool
has_kind (text test) t k = is_some (text_at t k)
has_kind (whole low high) t k = is_some (whole_at t k)
has_kind (texts test) t k = is_some (texts_at t k)
has_kind (tables most) t k = is_some (entries_at t k)

-- the value at the key is in the range of the kind
abbrev pub is_in_range : Kind → Members → Key → Bool
is_in_range (text test) t k = passes (text_at t k) test
is_in_range (whole low high) t k = passes (whole_at t k) (λ z. is_some (natural_within low high z))
is_in_range (texts test) t k = passes (texts_at t k) (are_entries test)
is_in_range (tables most) t k = passes (entries_at t k) (λ entries. nat_le (length entries) most)

-- the name is that of one of the keys
abbrev pub is_name_of : List Key → List ℕ → Bool
is_name_of keys name = list_any (λ k. bytes_eq (key_name k) name) keys

-- the table has no other keys
unfoldable pub has_only : List Key → Members → Bool
has_only keys t = list_all (is_name_of keys) (names_of t)
