-- The properties of every policy, for proofs in other crates.
use Rattle.policy.proofs.Prelude.{get_or, is_repo, is_ref, repo_view, policy_view}
use Rattle.std.proofs.lemmas.List.Elements.{All-map}
use Rattle.std.specs.Prelude.{IsTrue}
use Rattle.model.specs.Policy as model
use Rattle.policy.specs.declared.policies.Policy.{Policy}

-- the names of its repositories are in range
pub IsPolicy-policy_view : (p : Policy) → model.IsPolicy (policy_view p)
IsPolicy-policy_view p =
    All-map (λ r. IsTrue (is_repo r.name) × IsTrue (is_ref r.default_ref)) repo_view p.repos.items
    (λ k r inside. ((get_or p.repos.items k r).name.in_range, (get_or p.repos.items k r).default_ref.in_range))
