-- The repository that the path of a remote names.
use Rattle.operator.proofs.Prelude.{◌≡◌, ◌∙◌, ap, sym, refl, inl, inr, true, false, ℕ, List, [], ◌∷◌, ◌++◌}
use Rattle.std.specs.Prelude.{◌≢◌, Bool, Option, Some, None, IfSome, MatchOption, bytes_eq, codes, cond, find}
use Rattle.std.specs.Option.{unwrap_or}
use Rattle.std.proofs.lemmas.Slice.Eq.{bytes_eq-Decides}
use Rattle.std.specs.Borrow.{Bor}
use Rattle.std.specs.Str.Pattern.{FindsTextSuffix, StripsSuffix}
use Rattle.model.specs.Policy.{Repo}
use Rattle.operator.specs.Paths.{IsRestAfter, IsBefore}

-- the path without a slash before it
pub after_slash : (path : List ℕ) (r : Option (Bor (List ℕ))) (whole : Bor (List ℕ)) → whole.now ≡ path → MatchOption r ((rest : List ℕ) → path ≢ 47 ∷ rest) (λ x. path ≡ 47 ∷ x.now)
    → IsRestAfter (codes "/") path (unwrap_or r whole).now
after_slash path None whole is none = inr (none, is)
after_slash path (Some x) whole is some = inl some

-- the text without .git after it
pub before_git : (text : List ℕ) (r : Option (Bor (List ℕ))) (whole : Bor (List ℕ)) → whole.now ≡ text → MatchOption r (FindsTextSuffix (codes ".git") text None) (λ x. StripsSuffix (FindsTextSuffix (codes ".git")) text x.now)
    → IsBefore (codes ".git") text (unwrap_or r whole).now
before_git text None whole is none = inr (none, is)
before_git text (Some x) whole is (n, found, cut, _) = inl (found.1 ∙ ap (λ (t : List ℕ). t ++ codes ".git") (sym cut))

-- the repository that is found has the name
pub has_name : (name : List ℕ) (repos : List Repo) → IfSome (find (λ r. bytes_eq r.name name) repos) (λ r. r.name ≡ name)
has_name name [] = tt
has_name name (r ∷ repos) = at (bytes_eq r.name name) refl (has_name name repos)
  where
    at : (v : Bool) → bytes_eq r.name name ≡ v → IfSome (find (λ r. bytes_eq r.name name) repos) (λ r. r.name ≡ name) → IfSome (cond v (Some r) (find (λ r. bytes_eq r.name name) repos)) (λ r. r.name ≡ name)
    at true e rest = (bytes_eq-Decides r.name name).0 e
    at false e rest = rest
