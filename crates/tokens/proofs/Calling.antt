-- The caller, from the row of a token to the world.
use Rattle.tokens.proofs.Prelude.{◌≡◌, ℕ, ◌<◌, ◌≤◌, true, false, nat_lt, List, find, Option, Some, None, option_map, Result, Ok, Err, refl, sym, ap, ◌∙◌, arith, sha256, user_text, repo_text, A2, A3, World, IsWorld, Token, find_token, bearer, caller_by, Tables, has_digest, TokenFields, token_fields, read_token, token_kept, token_row, Represents, IsCalling, IsGoodAt}
use Rattle.std.proofs.lemmas.Bool.Decides.{nat_tests}
use Rattle.std.proofs.lemmas.Option.{none-some}
use Rattle.model.specs.Callers as model
use Rattle.tables.specs.Rows as row
use Rattle.tables.specs.declared.rows.TokenRow.{TokenRow}
use Rattle.refinement.proofs.Lookups.{token_found}
use Rattle.refinement.proofs.Same.{same_operation, same_pos}
use Rattle.tokens.specs.declared.callers.Caller.{Caller}
use Rattle.tokens.specs.declared.callers.CallerFault.{CallerFault}
use Rattle.tokens.specs.declared.callers.CallerFault.TheVariants as fault

none_of_map : {A B C : Type 0} (f : A → C) (g : B → C) (o : Option B) → option_map {T = A} {U = C} f None ≡ option_map g o → o ≡ None
none_of_map f g None e = refl
none_of_map f g (Some x) e = absurd (none-some (g x) e)

some_of_map : {A B C : Type 0} (f : A → C) (g : B → C) (x : A) (o : Option B) → option_map f (Some x) ≡ option_map g o → (y : B) × (o ≡ Some y) × (f x ≡ g y)
some_of_map f g x None e = absurd (none-some (f x) (sym e))
some_of_map f g x (Some y) e = (y, refl, same e)
  where
    same : Some (f x) ≡ Some (g y) → f x ≡ g y
    same e = cc

refused_unknown : (world : World) (now : ℕ) (values : List (List ℕ)) (text : List ℕ) → bearer values ≡ Some text → find_token text world ≡ None → caller_by world now values ≡ Err A2
refused_unknown world now values text bears none = rw (bears, none) refl

-- the caller with this text, by the token that was issued under its digest
abbrev presented_by : List ℕ → Token → model.Caller
presented_by text t = record { token = text; user = t.user; repo = t.repo; operation = t.operation; expires = t.expires }

accepted : (world : World) (now : ℕ) (values : List (List ℕ)) (text : List ℕ) (i : Token) → bearer values ≡ Some text → find_token text world ≡ Some i → nat_lt now i.expires ≡ true
    → caller_by world now values ≡ Ok (presented_by text i)
accepted world now values text i bears known good = rw (bears, known, good) refl

refused_expired : (world : World) (now : ℕ) (values : List (List ℕ)) (text : List ℕ) (i : Token) → bearer values ≡ Some text → find_token text world ≡ Some i → nat_lt now i.expires ≡ false
    → caller_by world now values ≡ Err A3
refused_expired world now values text i bears known past = rw (bears, known, past) refl

pub unknown_token : (t : Tables) (world : World) (now : ℕ) (values : List (List ℕ)) (text digest : List ℕ) → Represents t world → IsWorld world → bearer values ≡ Some text → digest ≡ sha256 text
    → option_map read_token None ≡ option_map token_fields (find (has_digest digest) t.tokens) → caller_by world now values ≡ Err A2
unknown_token t world now values text digest s w bears is e =
    let none : find (has_digest (sha256 text)) t.tokens ≡ None = ap (λ d. find (has_digest d) t.tokens) (sym is) ∙ none_of_map read_token token_fields (find (has_digest digest) t.tokens) e in
    refused_unknown world now values text bears (none_of_map token_kept token_row (find_token text world) (ap (option_map token_kept) (sym none) ∙ token_found t world text s w))

-- a row and the token that it stores agree
record Keeps (found : TokenRow) (i : Token) : Type 0 where
  user : user_text found.user ≡ i.user
  repo : repo_text found.repo ≡ i.repo
  operation : found.operation ≡ i.operation
  expires : found.expires ≡ i.expires

keeps : (found : TokenRow) (r : row.Token) (i : Token) → read_token found ≡ token_fields r → token_kept r ≡ token_row i → Keeps found i
keeps found r i a b = record {
  user = ap (λ (f : TokenFields). f.user) a ∙ ap (λ (k : row.Token). k.user) b;
  repo = ap (λ (f : TokenFields). f.repo) a ∙ ap (λ (k : row.Token). k.repo) b;
  operation = same_operation _ _ (ap (λ (f : TokenFields). f.op) a ∙ ap (λ (k : row.Token). k.op) b);
  expires = same_pos _ _ (ap (λ (f : TokenFields). f.expires) a ∙ ap (λ (k : row.Token). k.expires) b);
}

lt_true : (a b : ℕ) → a < b → nat_lt a b ≡ true
lt_true a b h = grind (arith, nat_tests)

lt_false : (a b : ℕ) → b ≤ a → nat_lt a b ≡ false
lt_false a b h = grind (arith, nat_tests)

calling : (world : World) (now : ℕ) (values : List (List ℕ)) (text : List ℕ) (i : Token) (found : TokenRow) (r : Result Caller CallerFault)
    → bearer values ≡ Some text → find_token text world ≡ Some i → Keeps found i → IsGoodAt text found now r → IsCalling world now values r
calling world now values text i found (Ok c) bears known k good =
    let before : now < i.expires = omega (arith, good.0, k.expires) in
    (presented_by text i, accepted world now values text i bears known (lt_true now i.expires before), record { token = good.1.token; user = good.1.user ∙ k.user; repo = good.1.repo ∙ k.repo; operation = good.1.operation ∙ k.operation; expires = good.1.expires ∙ k.expires })
calling world now values text i found (Err (fault.Store f)) bears known k late = tt
calling world now values text i found (Err (fault.Rule rule)) bears known k late =
    let after : i.expires ≤ now = omega (arith, late.0, k.expires) in
    refused_expired world now values text i bears known (lt_false now i.expires after) ∙ ap Err (sym late.1)

pub known_token : (t : Tables) (world : World) (now : ℕ) (values : List (List ℕ)) (text digest : List ℕ) (found : TokenRow) (r : Result Caller CallerFault) → Represents t world → IsWorld world
    → bearer values ≡ Some text → digest ≡ sha256 text → option_map read_token (Some found) ≡ option_map token_fields (find (has_digest digest) t.tokens)
    → IsGoodAt text found now r → IsCalling world now values r
known_token t world now values text digest found r s w bears is e good =
    let some = some_of_map read_token token_fields found (find (has_digest digest) t.tokens) e in
    let there : find (has_digest (sha256 text)) t.tokens ≡ Some some.0 = ap (λ d. find (has_digest d) t.tokens) (sym is) ∙ some.1 in
    let kept = some_of_map token_kept token_row some.0 (find_token text world) (ap (option_map token_kept) (sym there) ∙ token_found t world text s w) in
    calling world now values text kept.0 found r bears kept.1 (keeps found some.0 kept.0 some.2 kept.2) good
