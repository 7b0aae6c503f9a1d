use Rattle.policy_review.proofs.Prelude.{◌∙◌, sym, ap}
use Rattle.model.specs.Policy.{Repo, holds}
use Rattle.policy.specs.Values.{repo_view}
use Rattle.policy_review.specs.Doubts.{is_served}
use Rattle.policy_review.proofs.Lists.{list_any-map}
use Rattle.policy_review.proofs.doubts.is_served.Goals as goal

pub returns : goal.returns
returns c =
    let entry = c.args.entry.now in
    c.any_served.ensures ∙ sym (list_any-map (λ (repo : Repo). holds repo.name entry) repo_view c.repos.result.now)
    ∙ ap (λ repos. is_served repos entry) c.repos.ensures
