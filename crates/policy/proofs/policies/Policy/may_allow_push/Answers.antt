use Rattle.std.proofs.Common.{◌≡◌, ◌∙◌, ◌||◌, Bool, List, [], ◌∷◌, map, refl, sym, ap}
use Rattle.std.specs.List.{list_any}
use Rattle.names.specs.Names.{repo_text, user_text}
use Rattle.model.specs.Views.{may_allow_push}
use Rattle.policy.specs.Values.{row_view}
use Rattle.policy.specs.declared.rows.Row.{Row}
use Rattle.policy.proofs.policies.Policy.may_allow_push.Goals as goal

-- a test of mapped elements
any_mapped : {A B : Type 0} (p : B → Bool) (f : A → B) (xs : List A) → list_any p (map f xs) ≡ list_any (λ x. p (f x)) xs
any_mapped p f [] = refl
any_mapped p f (x ∷ xs) = ap (λ v. p (f x) || v) (any_mapped p f xs)

pub returns : goal.returns
returns c =
    let test = may_allow_push (user_text c.args.user.now) (repo_text c.args.repo.now) in
    c.any_allows_push.ensures ∙ ap (λ (rows : List Row). list_any (λ row. test (row_view row)) rows) c.deref.ensures.value ∙ sym (any_mapped test row_view c.args.self.now.rows.items)
