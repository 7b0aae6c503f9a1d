use Rattle.operator.proofs.Prelude.{◌≡◌, ◌∙◌, ap, refl, append_assoc, IfOk-weaker, repo_text, policy_view}
use Rattle.serde_json.specs.Written.{compact_text}
use Rattle.model.specs.Answers.{Action}
use Rattle.model.specs.Replies.{action_data}
use Rattle.operator.specs.Lines.{token_action}
use Rattle.operator.proofs.issuing.token_line.Goals as goal

pub returns : goal.returns
returns c =
    let printed : Action = record { href = c.as_str.result.now; token = c.args.token.now; expires_in = c.token_seconds.result } in
    let same : printed ≡ token_action (policy_view c.args.policy.now) (repo_text c.args.repo.now) c.args.token.now =
    rw (c.as_str.ensures.value, c.in_ok-href.ensures.ok, c.base-base.ensures.value, c.as_str-name.ensures.value, c.token_seconds.ensures.value) (simp (append_assoc) refl) in
    IfOk-weaker c.text.result _ _ (λ text is. is ∙ ap (λ (a : Action). compact_text (action_data a)) same) c.text.ensures
