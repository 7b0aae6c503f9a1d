use Rattle.std.proofs.Common.{◌≡◌, ◌∙◌, sym, ap, length}
use Rattle.std.proofs.lemmas.List.{length-map}
use Rattle.std.proofs.lemmas.Result.{IfOk-weaker}
use Rattle.policy.specs.Values.{policy_view, repo_view, row_view}
use Rattle.machine.specs.Policies.{counts_line, policy_line}
use Rattle.machine.proofs.policies.policy_line.Goals as goal

pub returns : goal.returns
returns c =
    let repos : length c.repos.result.now ≡ length (policy_view c.args.policy.now).repos =
    sym (length-map c.repos.result.now repo_view) ∙ ap length c.repos.ensures in
    let rows : length c.rows.result.now ≡ length (policy_view c.args.policy.now).rows =
    sym (length-map c.rows.result.now row_view) ∙ ap length c.rows.ensures in
    let same : counts_line (length c.repos.result.now) (length c.rows.result.now) ≡ policy_line (policy_view c.args.policy.now) =
    ap (λ n. counts_line n (length c.rows.result.now)) repos ∙ ap (counts_line (length (policy_view c.args.policy.now).repos)) rows in
    IfOk-weaker c.counts_line.result _ _ (λ text is. is ∙ same) c.counts_line.ensures
