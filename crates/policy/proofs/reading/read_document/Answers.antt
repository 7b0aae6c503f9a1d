use Rattle.policy.proofs.Prelude.{◌≡◌, ◌∙◌, length, map, arith, length-map, view, repo_view, row_view, repo_in, row_in, table_in}
use Rattle.policy.proofs.Lists.{length-maps}
use Rattle.policy.proofs.reading.read_document.Goals as goal

pub invariant_of-result-clause-repos_in_range : goal.invariant_of-result-clause-repos_in_range
invariant_of-result-clause-repos_in_range c =
    let entries = c.in_ok-top.top.repos.now in
    let many : length c.in_ok-repos.repos.items ≡ length entries =
    length-maps repo_view (λ d. repo_in (table_in d)) _ (map view entries) c.in_ok-repos.ensures.1.values ∙ length-map entries view in
    omega (arith, many, c.in_ok-top.ensures.1.few_repos)

pub invariant_of-result-clause-rows_in_range : goal.invariant_of-result-clause-rows_in_range
invariant_of-result-clause-rows_in_range c =
    let entries = c.in_ok-top.top.rows.now in
    let many : length c.in_ok-rows.rows.items ≡ length entries =
    length-maps row_view (λ d. row_in (table_in d)) _ (map view entries) c.in_ok-rows.ensures.1 ∙ length-map entries view in
    omega (arith, many, c.in_ok-top.ensures.1.few_rows)
