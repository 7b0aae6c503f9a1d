-- The rights that texts name: one for each text, if each text names a right.
use Rattle.policy.proofs.Prelude.{◌≡◌, ℕ, ◌+◌, List, [], ◌∷◌, length, Option, Some, None, is_some, option_map, unwrap_or, true, refl, arith, and_parts, list_all, Right, is_count, are_entries, rights_named}
use Rattle.policy.specs.Language.{is_right, right_named}

one_more : (right : Option Right) (names : List (List ℕ)) (rights : List Right) → is_some right ≡ true → length rights ≡ length names
    → length (unwrap_or (option_map (λ r. r ∷ rights) right) rights) ≡ length names + 1
one_more None names rights named long = absurd (cc)
one_more (Some right) names rights named long = omega arith

length-rights_named : (names : List (List ℕ)) → list_all is_right names ≡ true → length (rights_named names) ≡ length names
length-rights_named [] named = refl
length-rights_named (name ∷ names) named =
    let (here, more) = and_parts (is_right name) (list_all is_right names) named in
    let next = one_more (right_named name) names (rights_named names) here (length-rights_named names more) in
    omega arith

pub is_count-rights_named : (names : List (List ℕ)) → are_entries is_right names ≡ true → is_count (rights_named names) ≡ true
is_count-rights_named names entries =
    let (count, named) = and_parts (is_count names) (list_all is_right names) entries in
    rw (length-rights_named names named) count
