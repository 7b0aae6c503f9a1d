-- Which of the checks a request passes.
use Rattle.desk.proofs.Prelude.{◌≡◌, ℕ, Bool, true, false, not, ◌||◌, List, Option, Some, None, Result, Ok, Err, bytes_eq, refl, sym, ap, subst, ◌∙◌, Rule, A4, A5, R1, Repo, repo_named, needs_upload, ◌>>=◌, check, ok_or, found_passes, admission_result, uploads, uploads_if}
use Rattle.std.specs.Bool.{⊤}
use Rattle.model.specs.Policy.{Policy}
use Rattle.model.specs.Forms.{Request}
use Rattle.refinement.proofs.Lookups.{same_is}

-- a request whose form is refused is not admitted
pub refused_form : (policy : Policy) (own : List ℕ) (covers : Bool) (repo_asked : List ℕ) (asked : Result Request Rule) (r : Repo) (rule : Rule)
    → bytes_eq own repo_asked ≡ true → repo_named repo_asked policy ≡ Some r → asked ≡ Err rule → admission_result policy own covers repo_asked asked ≡ Err rule
refused_form policy own covers repo_asked asked r rule own_is there is = rw (own_is, there, is) refl

pub uncovered : (policy : Policy) (own : List ℕ) (covers : Bool) (repo_asked : List ℕ) (asked : Result Request Rule) (r : Repo) (q : Request)
    → bytes_eq own repo_asked ≡ true → repo_named repo_asked policy ≡ Some r → asked ≡ Ok q → (not (needs_upload q) || covers) ≡ false → admission_result policy own covers repo_asked asked ≡ Err A5
uncovered policy own covers repo_asked asked r q own_is there is not_covered = rw (own_is, there, is, not_covered) refl

pub taken : (policy : Policy) (own : List ℕ) (covers : Bool) (repo_asked : List ℕ) (asked : Result Request Rule) (r : Repo) (q : Request)
    → bytes_eq own repo_asked ≡ true → repo_named repo_asked policy ≡ Some r → asked ≡ Ok q → (not (needs_upload q) || covers) ≡ true → admission_result policy own covers repo_asked asked ≡ Ok (r, q)
taken policy own covers repo_asked asked r q own_is there is covered = rw (own_is, there, is, covered) refl

pub is_own : (shown own repo_asked : List ℕ) (differs : Bool) → shown ≡ own → differs ≡ not (bytes_eq shown repo_asked) → differs ≡ false → bytes_eq own repo_asked ≡ true
is_own shown own repo_asked differs same is agree = subst (λ (text : List ℕ). bytes_eq text repo_asked ≡ true) same (at (bytes_eq shown repo_asked) (sym is ∙ agree))
  where
    at : (b : Bool) → not b ≡ false → b ≡ true
    at true e = refl
    at false e = absurd (cc)

pub not_covered : (needs covers : Bool) → true ≡ needs → false ≡ covers → (not needs || covers) ≡ false
not_covered needs covers a b = rw (sym a, sym b) refl

pub covered_by : (needs covers : Bool) → true ≡ covers → (not needs || covers) ≡ true
covered_by true covers b = sym b
covered_by false covers b = refl

pub not_needed : (needs covers : Bool) → false ≡ needs → (not needs || covers) ≡ true
not_needed needs covers a = rw (sym a) refl

-- ---- what an admitted request is

abbrev both : Repo → Request → Result (Repo × Request) Rule
both r q = Ok (r, q)

-- a value after two steps is one of each
step : {A B : Type 0} (r : Result A Rule) (f : A → Result B Rule) (y : B) → (r >>= f) ≡ Ok y → (x : A) × (r ≡ Ok x) × (f x ≡ Ok y)
step (Ok x) f y is = (x, refl, is)
step (Err e) f y is = absurd (cc)

from_check : (own : Result ⊤ Rule) (named : Result Repo Rule) (asked : Result Request Rule) (covered : Request → Result ⊤ Rule) (r : Repo) (q : Request)
    → (own >>= λ _. named >>= λ x. asked >>= λ y. covered y >>= λ _. both x y) ≡ both r q → (named ≡ Ok r) × (asked ≡ Ok q)
from_check own named asked covered r q is =
    let pair : Repo × Request = (r, q) in
    let a = step own (λ _. named >>= λ x. asked >>= λ y. covered y >>= λ _. both x y) pair is in
    let b = step named (λ x. asked >>= λ y. covered y >>= λ _. both x y) pair a.2 in
    let c = step asked (λ y. covered y >>= λ _. both b.0 y) pair b.2 in
    let d = step (covered c.0) (λ _. both b.0 c.0) pair c.2 in
    let first : Result (Repo × Request) Rule → Result Repo Rule = λ v. v >>= λ p. Ok p.0 in
    let second : Result (Repo × Request) Rule → Result Request Rule = λ v. v >>= λ p. Ok p.1 in
    (b.1 ∙ ap first d.2, c.1 ∙ ap second d.2)

from_option : (o : Option Repo) (e : Rule) (r : Repo) → ok_or o e ≡ Ok r → o ≡ Some r
from_option None e r is = absurd (cc)
from_option (Some x) e r is = cc

-- the repository and the request of an admitted request
pub admitted : (policy : Policy) (own : List ℕ) (covers : Bool) (repo_asked : List ℕ) (asked : Result Request Rule) (r : Repo) (q : Request)
    → admission_result policy own covers repo_asked asked ≡ Ok (r, q) → (repo_named repo_asked policy ≡ Some r) × (asked ≡ Ok q)
admitted policy own covers repo_asked asked r q is =
    let parts = from_check (check (bytes_eq own repo_asked) A4) (ok_or (repo_named repo_asked policy) R1) asked (λ x. check (not (needs_upload x) || covers) A5) r q is in
    (from_option (repo_named repo_asked policy) R1 r parts.0, parts.1)

-- the policy's entry has the name that was asked for
pub own_name : (policy : Policy) (repo_asked : List ℕ) (r : Repo) → repo_named repo_asked policy ≡ Some r → r.name ≡ repo_asked
own_name policy repo_asked r is = same_is r.name repo_asked (found_passes (λ (x : Repo). bytes_eq x.name repo_asked) policy.repos r is)

-- what is asked uploads an object exactly if the admitted request does
pub same_uploads : (asked : Result Request Rule) (q : Request) → asked ≡ Ok q → uploads q ≡ uploads_if asked
same_uploads asked q is = sym (ap uploads_if is)
