use Rattle.policy.proofs.Prelude.{◌∙◌, sym, ap, option_map, bytes_eq, find, repo_text, repo_view}
use Rattle.policy.proofs.Lists.{find-map, option_map-then}
use Rattle.policy.proofs.InRange.{IsPolicy-policy_view}
use Rattle.policy.proofs.policies.Policy.repo.Goals as goal

pub returns-clause-value : goal.returns-clause-value
returns-clause-value c =
    option_map-then (λ r. r.now) repo_view c.named.result
    ∙ ap (option_map repo_view) (c.named.ensures ∙ ap (find (λ r. bytes_eq (repo_text r.name) c.args.name.now)) c.deref.ensures.value)
    ∙ sym (find-map (λ r. bytes_eq r.name c.args.name.now) repo_view c.args.self.now.repos.items)

pub returns-clause-in_range : goal.returns-clause-in_range
returns-clause-in_range c = IsPolicy-policy_view c.args.self.now
