-- The rows of a repository's tokens, and the tokens of the world.
use Rattle.tokens.proofs.Prelude.{◌≡◌, ◌∙◌, ℕ, Bool, List, [], ◌∷◌, map, filter, refl, ap, subst, IsPermutation, World, Token, Tables, is_held_by, is_for, TokenFields, token_fields, Represents, token_kept, token_row, filter_alike, is_of, is_in, fields_of_token}
use Rattle.std.proofs.lemmas.List.Sorted.{IsPermutation-map}
use Rattle.std.proofs.lemmas.Map.Text.{is_eq-slice_cmp}
use Rattle.sqlite_trees.proofs.ListLemmas.{IsPermutation-filter, filter-map}
use Rattle.tables.specs.Rows as row

twice : {A B C : Type 0} (f : B → C) (g : A → B) (xs : List A) → map f (map g xs) ≡ map (λ x. f (g x)) xs
twice f g [] = refl
twice f g (x ∷ xs) = ap (λ rest. f (g x) ∷ rest) (twice f g xs)

held_alike : (user repo : List ℕ) (i : Token) → is_held_by user repo (token_row i) ≡ is_of user repo i
held_alike user repo i = rw (is_eq-slice_cmp i.user user, is_eq-slice_cmp i.repo repo) refl

for_alike : (repo : List ℕ) (i : Token) → is_for repo (token_row i) ≡ is_in repo i
for_alike repo i = rw (is_eq-slice_cmp i.repo repo) refl

-- the rows that pass a test represent the tokens that pass a like test, in any order
listed : (t : Tables) (world : World) (held : row.Token → Bool) (is : Token → Bool) → ((k : row.Token) → held (token_kept k) ≡ held k) → ((i : Token) → held (token_row i) ≡ is i) → Represents t world
    → IsPermutation (map token_fields (filter held t.tokens)) (map fields_of_token (filter is world.tokens))
listed t world held is same alike s =
    let rows = IsPermutation-map token_fields (filter held (map token_kept t.tokens)) (filter held (map token_row world.tokens))
    (IsPermutation-filter held (map token_kept t.tokens) (map token_row world.tokens) s.tokens) in
    let left : map token_fields (filter held (map token_kept t.tokens)) ≡ map token_fields (filter held t.tokens) =
    ap (map token_fields) (filter-map held token_kept t.tokens ∙ ap (map token_kept) (filter_alike (λ k. held (token_kept k)) held t.tokens same)) ∙ twice token_fields token_kept (filter held t.tokens) in
    let right : map token_fields (filter held (map token_row world.tokens)) ≡ map fields_of_token (filter is world.tokens) =
    ap (map token_fields) (filter-map held token_row world.tokens) ∙ twice token_fields token_row (filter (λ i. held (token_row i)) world.tokens)
    ∙ ap (map fields_of_token) (filter_alike (λ i. held (token_row i)) is world.tokens alike) in
    subst (λ (xs : List TokenFields). IsPermutation xs (map fields_of_token (filter is world.tokens))) left
    (subst (λ (xs : List TokenFields). IsPermutation (map token_fields (filter held (map token_kept t.tokens))) xs) right rows)

-- the rows of the user's tokens represent the user's tokens
pub held_listed : (t : Tables) (world : World) (user repo : List ℕ) → Represents t world
    → IsPermutation (map token_fields (filter (is_held_by user repo) t.tokens)) (map fields_of_token (filter (is_of user repo) world.tokens))
held_listed t world user repo = listed t world (is_held_by user repo) (is_of user repo) (λ _. refl) (held_alike user repo)

-- the rows of a repository's tokens represent its tokens
pub all_listed : (t : Tables) (world : World) (repo : List ℕ) → Represents t world
    → IsPermutation (map token_fields (filter (is_for repo) t.tokens)) (map fields_of_token (filter (is_in repo) world.tokens))
all_listed t world repo = listed t world (is_for repo) (is_in repo) (λ _. refl) (for_alike repo)
