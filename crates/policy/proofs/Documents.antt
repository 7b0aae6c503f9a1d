-- The TOML crate's values, as the lists that the policy language is defined on.
use Rattle.policy.proofs.Prelude.{◌≡◌, List, [], ◌∷◌, ℕ, Bool, ◌&&◌, map, Some, String, Global, string_bytes, refl, ap, list_all, Data, as_array, items_of, items_view, view, members_view}
use Rattle.std.specs.Map.{keys_of}
use Rattle.toml.specs.declared.value.Value.{Value}
use Rattle.policy.specs.Language.{list_of, names_of, as_values, is_name_of, has_only}
use Rattle.policy.specs.declared.keys.Key.{Key}

list_of-items_of : (ds : List Data) → list_of (items_of ds) ≡ ds
list_of-items_of [] = refl
list_of-items_of (d ∷ ds) = ap (λ more. d ∷ more) (list_of-items_of ds)

-- a test of a table's names is a test of its map's keys
list_all-names_of : (test : List ℕ → Bool) (es : List (String Global × Value))
    → list_all test (names_of (members_view es)) ≡ list_all (λ name. test (string_bytes name)) (keys_of es)
list_all-names_of test [] = refl
list_all-names_of test (e ∷ es) = ap (λ b. test (string_bytes e.0) && b) (list_all-names_of test es)

-- the names of a table are the keys of its map
pub has_only-members_view : (keys : List Key) (es : List (String Global × Value))
    → has_only keys (members_view es) ≡ list_all (λ name. is_name_of keys (string_bytes name)) (keys_of es)
unfolding has_only
has_only-members_view keys es = list_all-names_of (is_name_of keys) es

-- the values of an array
pub as_values-from : (d : Data) (values : List Value) → Some (items_view values) ≡ as_array d → Some (map view values) ≡ as_values d
as_values-from d values h = rw (← h, list_of-items_of (map view values))
