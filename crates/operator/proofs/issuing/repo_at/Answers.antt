use Rattle.operator.proofs.Prelude.{◌≡◌, ◌∙◌, List, Some, subst, sym, ℕ}
use Rattle.std.specs.Prelude.{Option, IfSome}
use Rattle.policy.specs.Values.{policy_view, repo_view}
use Rattle.model.specs.Policy.{Policy, Repo, repo_named}
use Rattle.operator.specs.Paths.{IsRepoAt}
use Rattle.operator.proofs.Remotes.{has_name}
use Rattle.operator.proofs.issuing.repo_at.Goals as goal

-- the repository that was found has the name
found_name : (name : List ℕ) (policy : Policy) (repo : Repo) → Some repo ≡ repo_named name policy → repo.name ≡ name
found_name name policy repo found = subst (λ (r : Option Repo). IfSome r (λ r. r.name ≡ name)) (sym found) (has_name name policy.repos)

pub returns-in-Some-clause-path : goal.returns-in-Some-clause-path
returns-in-Some-clause-path c =
    let named = found_name c.name_in.result.now (policy_view c.args.policy.now) (repo_view c.in-Some.repo.now) c.in-Some.ensures.value in
    subst (IsRepoAt c.args.path.now) (sym (c.name.ensures ∙ named)) c.name_in.ensures

pub returns-in-Some-clause-repo : goal.returns-in-Some-clause-repo
returns-in-Some-clause-repo c =
    let policy = policy_view c.args.policy.now in
    let repo = repo_view c.in-Some.repo.now in
    let named = found_name c.name_in.result.now policy repo c.in-Some.ensures.value in
    (repo, subst (λ (name : List ℕ). repo_named name policy ≡ Some repo) (sym (c.name.ensures ∙ named)) (sym c.in-Some.ensures.value))
