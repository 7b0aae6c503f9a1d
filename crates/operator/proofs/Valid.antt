-- The tokens of a repository that are valid at a moment, and the order of their list.
use Rattle.operator.proofs.Prelude.{◌≡◌, ◌∙◌, ℕ, List, [], ◌∷◌, refl, sym, ap, subst, true, false, length, World}
use Rattle.std.specs.Prelude.{Bool, ℤ, pos, map, filter, cond, nat_lt, IsPermutation}
use Rattle.std.specs.Cmp.{IsTotalOrder}
use Rattle.std.proofs.lemmas.Cmp.{nat_cmp_total, nat_list_cmp_total, on_total, then_total}
use Rattle.std.proofs.lemmas.List.{length-map}
use Rattle.std.proofs.lemmas.List.Sorted.{IsPermutation-sym, IsPermutation-trans, IsPermutation-map, length_permutation}
use Rattle.sqlite_trees.proofs.ListLemmas.{IsPermutation-filter, filter-map}
use Rattle.names.specs.Names.{user_text}
use Rattle.tables.specs.Steps.{TokenFields, read_token}
use Rattle.tables.specs.declared.rows.TokenRow.{TokenRow}
use Rattle.tokens.specs.Holding.{is_in, fields_of_token}
use Rattle.operator.specs.Tokens.{AreValid, token_cmp, valid_in}

-- ---- valid tokens

nat_in : ℤ → ℕ
nat_in (pos n) = n
nat_in _ = 0

-- the expiry in the fields is later than the moment
abbrev is_later : ℕ → TokenFields → Bool
is_later now f = nat_lt now (nat_in f.expires)

-- two filters, in either order
filter_swap : {A : Type 0} (p q : A → Bool) (xs : List A) → filter p (filter q xs) ≡ filter q (filter p xs)
filter_swap p q [] = refl
filter_swap {A} p q (x ∷ xs) = at (p x) (q x) refl refl (filter_swap p q xs)
  where
    at : (a b : Bool) → p x ≡ a → q x ≡ b → filter p (filter q xs) ≡ filter q (filter p xs)
        → filter p (cond (q x) (x ∷ filter q xs) (filter q xs)) ≡ filter q (cond (p x) (x ∷ filter p xs) (filter p xs))
    at true true e f rest = rw (f, e, f) (ap (λ l. x ∷ l) rest)
    at true false e f rest = rw (f, e, f) rest
    at false true e f rest = rw (f, e) rest
    at false false e f rest = rw (f, e) rest

-- of rows that are a repository's tokens, those that are valid are its valid tokens
pub valid_found : (repo : List ℕ) (now : ℕ) (world : World) (rows : List TokenRow) → IsPermutation (map read_token rows) (map fields_of_token (filter (is_in repo) world.tokens))
    → AreValid repo now world (filter (λ (row : TokenRow). nat_lt now row.expires) rows)
unfolding nat_in
valid_found repo now world rows found =
    let kept = IsPermutation-filter (is_later now) (map read_token rows) (map fields_of_token (filter (is_in repo) world.tokens)) found in
    let left : filter (is_later now) (map read_token rows) ≡ map read_token (filter (λ (row : TokenRow). nat_lt now row.expires) rows) = filter-map (is_later now) read_token rows in
    let right : filter (is_later now) (map fields_of_token (filter (is_in repo) world.tokens)) ≡ map fields_of_token (valid_in repo now world) =
    filter-map (is_later now) fields_of_token (filter (is_in repo) world.tokens) ∙ ap (map fields_of_token) (filter_swap (λ t. nat_lt now t.expires) (is_in repo) world.tokens) in
    subst (λ (xs : List TokenFields). IsPermutation xs (map fields_of_token (valid_in repo now world))) left
    (subst (λ (xs : List TokenFields). IsPermutation (filter (is_later now) (map read_token rows)) xs) right kept)

-- there are as many rows as tokens
pub valid_length : (repo : List ℕ) (now : ℕ) (world : World) (rows : List TokenRow) → AreValid repo now world rows → length rows ≡ length (valid_in repo now world)
valid_length repo now world rows valid =
    sym (length-map rows read_token) ∙ sym (length_permutation (map read_token rows) (map fields_of_token (valid_in repo now world)) valid)
    ∙ length-map (valid_in repo now world) fields_of_token

-- the same tokens, in another order
pub valid_moved : (repo : List ℕ) (now : ℕ) (world : World) (rows moved : List TokenRow) → IsPermutation rows moved → AreValid repo now world rows → AreValid repo now world moved
valid_moved repo now world rows moved same valid =
    IsPermutation-trans (map read_token moved) (map read_token rows) _
    (IsPermutation-map read_token moved rows (IsPermutation-sym rows moved same)) valid

-- ---- the order

pub token_total : IsTotalOrder token_cmp
token_total =
    then_total (then_total (on_total (λ (t : TokenRow). user_text t.user) nat_list_cmp_total) (on_total (λ (t : TokenRow). t.expires) nat_cmp_total))
    (on_total (λ (t : TokenRow). t.digest) nat_list_cmp_total)
