-- The policy that a text describes, and the first fault of a text that describes none.
use Rattle.std.specs.Prelude.{◌≡◌, ℕ, ◌+◌, Bool, true, false, ◌&&◌, not, nat_le, ℤ, pos, negsuc, List, [], ◌∷◌, ◌++◌, length, map, Option, Some, None, option_map, is_some, unwrap_or, if◌then◌else◌, Result, MatchResult, ⊤}
use Rattle.std.specs.Str.{is_utf8}
use Rattle.toml.specs.Data.{Data, Members, no_members, as_table}
use Rattle.toml.specs.Parse.{parse_document}
use Rattle.model.specs.Policy as model
use Rattle.model.specs.declared.Right.{Right}
use Rattle.model.specs.declared.Effect.TheVariants as effect
use Rattle.policy.specs.declared.keys.Key.{Key}
use Rattle.policy.specs.declared.keys.Key.TheVariants as key
use Rattle.policy.specs.declared.faults.Fault.{Fault}
use Rattle.policy.specs.declared.faults.FaultCode.{FaultCode}
use Rattle.policy.specs.declared.faults.FaultCode.TheVariants.{Y1, Y2, Y3, Y4, Y5}
use Rattle.policy.specs.declared.faults.Place.{Place}
use Rattle.policy.specs.declared.faults.Place.TheVariants as place
use Rattle.policy.specs.declared.faults.PolicyFault.{PolicyFault}
use Rattle.policy.specs.declared.faults.PolicyFault.TheVariants.{Refused, Memory}
use Rattle.policy.specs.Ranges.{longest_file, is_among}
use Rattle.policy.specs.Language.{Kind, tables, kind_of, top_keys, repo_keys, row_keys, text_at, whole_at, texts_at, entries_at, has_kind, is_in_range, has_only, effect_named, right_named}

-- ---- the policy

-- an integer as a natural number
abbrev pub natural : ℤ → ℕ
natural (pos n) = n
natural (negsuc n) = 0

-- the text at a key, for a table that has it
abbrev pub text_in : Members → Key → List ℕ
text_in t k = unwrap_or (text_at t k) []

-- the number at a key, for a table that has it
abbrev pub number_in : Members → Key → ℕ
number_in t k = natural (unwrap_or (whole_at t k) (pos 0))

-- the texts at a key, for a table that has them
abbrev pub texts_in : Members → Key → List (List ℕ)
texts_in t k = unwrap_or (texts_at t k) []

-- the entries at a key, for a table that has them
abbrev pub entries_in : Members → Key → List Data
entries_in t k = unwrap_or (entries_at t k) []

-- the table of an entry
abbrev pub table_in : Data → Members
table_in d = unwrap_or (as_table d) no_members

-- the rights with these names
abbrev pub rights_named : List (List ℕ) → List Right
rights_named [] = []
rights_named (name ∷ names) = unwrap_or (option_map (λ r. r ∷ rights_named names) (right_named name)) (rights_named names)

-- the repository of a table
unfoldable pub repo_in : Members → model.Repo
repo_in t = record { name = text_in t key.Name; default_ref = text_in t key.DefaultRef; quota = number_in t key.Quota }

-- the row of a table
unfoldable pub row_in : Members → model.Row
row_in t = record {
  effect = unwrap_or (effect_named (text_in t key.Effect)) effect.Deny;
  users = texts_in t key.Users;
  repos = texts_in t key.Repos;
  refs = texts_in t key.Refs;
  paths = texts_in t key.Paths;
  rights = rights_named (texts_in t key.Rights);
}

-- the repositories of a list of entries
abbrev pub repos_in : List Data → List model.Repo
repos_in entries = map (λ d. repo_in (table_in d)) entries

-- the rows of a list of entries
abbrev pub rows_in : List Data → List model.Row
rows_in entries = map (λ d. row_in (table_in d)) entries

-- the policy of a file's table
abbrev pub policy_in : Members → model.Policy
policy_in t = record {
  base = text_in t key.Base;
  token_seconds = number_in t key.TokenSeconds;
  repos = repos_in (entries_in t key.Repo);
  rows = rows_in (entries_in t key.Row);
}

-- the TOML table of a text
abbrev pub document : List ℕ → Members
document source = unwrap_or (parse_document source) no_members

-- ---- its first fault

-- the first of the two faults
infixr 10 ◌or◌
abbrev pub ◌or◌ : Option Fault → Option Fault → Option Fault
None or more = more
(Some fault) or more = Some fault

-- the first fault in the list
abbrev pub first_of : List (Option Fault) → Option Fault
first_of [] = None
first_of (fault ∷ more) = fault or first_of more

-- this fault, if the test fails
abbrev pub unless : Bool → Fault → Option Fault
unless passed fault = if passed then None else Some fault

-- a fault of a place as a whole
abbrev pub at_place : FaultCode → Place → Fault
at_place code place = record { code = code; place = place; key = None }

-- a fault at a key of a place
abbrev pub at_key : FaultCode → Place → Key → Fault
at_key code place k = record { code = code; place = place; key = Some k }

-- the code of a value out of range
abbrev pub range_code : Kind → FaultCode
range_code (tables most) = Y5
range_code _ = Y3

-- each key exists and has its kind, there is no other key, and each value is in range
unfoldable pub table_fault : Place → List Key → Members → Option Fault
table_fault place keys t =
    first_of (map (λ k. unless (has_kind (kind_of k) t k) (at_key Y2 place k)) keys)
    or unless (has_only keys t) (at_place Y2 place)
    or first_of (map (λ k. unless (is_in_range (kind_of k) t k) (at_key (range_code (kind_of k)) place k)) keys)

-- the entry is a table without a fault
unfoldable pub entry_fault : Place → List Key → Data → Option Fault
entry_fault place keys d = unless (is_some (as_table d)) (at_place Y2 place) or table_fault place keys (table_in d)

-- the repositories from number n on; each name differs from the earlier ones
abbrev pub repos_fault : ℕ → List (List ℕ) → List Data → Option Fault
repos_fault n before [] = None
repos_fault n before (d ∷ ds) =
    let name = (repo_in (table_in d)).name in
    entry_fault (place.Repo n) repo_keys d
    or unless (not (is_among name before)) (at_key Y4 (place.Repo n) key.Name)
    or repos_fault (n + 1) (before ++ name ∷ []) ds

-- the rows from number n on
abbrev pub rows_fault : ℕ → List Data → Option Fault
rows_fault n [] = None
rows_fault n (d ∷ ds) = entry_fault (place.Row n) row_keys d or rows_fault (n + 1) ds

-- the file's keys, then its repositories, then its rows
abbrev pub document_fault : Members → Option Fault
document_fault t =
    table_fault place.Top top_keys t
    or repos_fault 1 [] (entries_in t key.Repo)
    or rows_fault 1 (entries_in t key.Row)

-- the first fault of a text: its length, then whether it is TOML in UTF-8, then its contents
abbrev pub fault_in : List ℕ → Option Fault
fault_in source =
    unless (nat_le (length source) longest_file) (at_place Y5 place.File)
    or unless (is_utf8 source && is_some (parse_document source)) (at_place Y1 place.File)
    or document_fault (document source)

-- ---- the policy of a text

-- the text has no fault, and describes this policy
abbrev pub Spells : List ℕ → model.Policy → Type 0
Spells source policy = (fault_in source ≡ None) × (policy ≡ policy_in (document source))

-- ---- the results of the reader's steps

-- the reported fault is correct; if memory ran out, nothing is claimed
abbrev pub IfRefused : PolicyFault → (Fault → Type 0) → Type 0
IfRefused (Refused fault) P = P fault
IfRefused Memory P = ⊤

-- the value if it exists, else the fault
abbrev pub Finds : {A B : Type 0} → (B → A) → Option A → Fault → Result B Fault → Type 0
Finds seen found fault r = MatchResult r (λ x. found ≡ Some (seen x)) (λ f. (found ≡ None) × (f ≡ fault))

-- the same for a step that allocates
abbrev pub FindsInMemory : {A B : Type 0} → (B → A) → Option A → Fault → Result B PolicyFault → Type 0
FindsInMemory seen found fault r =
    MatchResult r (λ x. found ≡ Some (seen x)) (λ e. IfRefused e (λ f. (found ≡ None) × (f ≡ fault)))

-- the text passes the test and is read, or it fails and the result is the fault
abbrev pub Parses : {A : Type 0} → (A → List ℕ) → Bool → List ℕ → Fault → Result A PolicyFault → Type 0
Parses seen passed text fault r =
    MatchResult r (λ x. (passed ≡ true) × (seen x ≡ text)) (λ e. IfRefused e (λ f. (passed ≡ false) × (f ≡ fault)))

-- the test passes, or it fails and the result is the fault
abbrev pub Tests : Bool → Fault → Result ⊤ Fault → Type 0
Tests passed fault r = MatchResult r (λ _. passed ≡ true) (λ f. (passed ≡ false) × (f ≡ fault))

-- there is no fault and the value is correct, or the result is this fault
abbrev pub Reads : {A : Type 0} → Option Fault → (A → Type 0) → Result A PolicyFault → Type 0
Reads fault P r = MatchResult r (λ x. (fault ≡ None) × P x) (λ e. IfRefused e (λ f. fault ≡ Some f))
