-- Whether basic is among the transfers of a batch.
use Rattle.forms.proofs.Prelude.{◌≡◌, ℕ, Bool, ◌||◌, ◌==◌, List, [], ◌∷◌, length, Option, Some, None, Result, Ok, bytes_eq, codes, option_and_then, option_map, refl, arith, list_any, ne_eqb, Items, as_str, items_view, Rule, J1, ◌>>=◌, ok_or, each_as, has_basic, has_basic_in}
use Rattle.serde_json.specs.View.{view}
use Rattle.serde_json.specs.declared.value.Value.{Value}

abbrev is_basic : List ℕ → Bool
is_basic name = bytes_eq name (codes "basic")

-- basic was found, or is among the names of the items
abbrev pub found_or : Bool → Items → Result Bool Rule
found_or found items = ok_or (each_as as_str items) J1 >>= λ names. Ok (found || list_any is_basic names)

some_found : (name : List ℕ) (names : Option (List (List ℕ)))
    → (ok_or (option_map (λ ns. name ∷ ns) names) J1 >>= λ ns. Ok (has_basic ns)) ≡ (ok_or (option_map (λ ns. name ∷ ns) names) J1 >>= λ ns. Ok (list_any is_basic ns))
some_found name None = refl
some_found name (Some ns) = refl

at_first : (d : Option (List ℕ)) (more : Items)
    → (ok_or (option_and_then (λ name. option_map (λ ns. name ∷ ns) (each_as as_str more)) d) J1 >>= λ ns. Ok (has_basic ns))
    ≡ (ok_or (option_and_then (λ name. option_map (λ ns. name ∷ ns) (each_as as_str more)) d) J1 >>= λ ns. Ok (list_any is_basic ns))
at_first None more = refl
at_first (Some name) more = some_found name (each_as as_str more)

-- before the first item nothing was found, unless there is none
pub none_found : (items : List Value) → has_basic_in (items_view items) ≡ found_or (length items == 0) (items_view items)
none_found [] = refl
none_found (v ∷ vs) = rw (ne_eqb (length (v ∷ vs)) 0 (λ e. absurd (omega (arith, e)))) (at_first (as_str (view v)) (items_view vs))
