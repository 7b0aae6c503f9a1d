use Rattle.operator.proofs.Prelude.{◌∙◌, ℕ, List, ap, refl, subst, string_bytes, err_from_is_err_and, reads_lead, takes_then, Appends, line, repo_text, policy_view}
use Rattle.serde_json.specs.Written.{compact_text}
use Rattle.model.specs.Replies.{action_data}
use Rattle.operator.specs.Lines.{token_action}
use Rattle.operator.proofs.Failing.{fails_before}
use Rattle.operator.proofs.Granting.{token_cause, token_memory, token_output, from_offered}
use Rattle.operator.proofs.Printed.{none_on, printed_none}
use Rattle.operator.proofs.issuing.grant.Goals as goal

pub returns-in_err-token-clause-world : goal.returns-in_err-token-clause-world
returns-in_err-token-clause-world g c =
    let p = err_from_is_err_and c.from_residual.result c.from_residual.ensures.1 in
    rw p.1 (from_offered g.S.State c.args.store.now c.offer.new.store c.args.asked.now _ _ (λ world is. token_cause world c.args.asked.now _ c.in_err-token.field-0.0 p.2 is) c.in_err-token.ensures)

pub returns-in_err-line-clause-world : goal.returns-in_err-line-clause-world
returns-in_err-line-clause-world g c =
    let p = err_from_is_err_and c.from_residual-in_err-line.result c.from_residual-in_err-line.ensures.1 in
    rw p.1 (from_offered g.S.State c.args.store.now c.offer.new.store c.args.asked.now _ _ (λ world is. token_memory world c.args.asked.now _ p.2) c.offer.ensures)

pub returns-in_err-push-clause-world : goal.returns-in_err-push-clause-world
returns-in_err-push-clause-world g c =
    let p = err_from_is_err_and c.from_residual-in_err-push.result c.from_residual-in_err-push.ensures.1 in
    rw p.1 (from_offered g.S.State c.args.store.now c.offer.new.store c.args.asked.now _ _ (λ world is. token_memory world c.args.asked.now _ p.2) c.offer.ensures)

pub returns-in_err-print-clause-world : goal.returns-in_err-print-clause-world
returns-in_err-print-clause-world g c =
    let p = err_from_is_err_and c.from_residual-in_err-print.result c.from_residual-in_err-print.ensures.1 in
    rw p.1 (from_offered g.S.State c.args.store.now c.offer.new.store c.args.asked.now _ _ (λ world is. token_output world c.args.asked.now _ (p.2 ∙ c.in_err-print.ensures.err)) c.offer.ensures)

pub returns-in_err-issue-clause-world : goal.returns-in_err-issue-clause-world
returns-in_err-issue-clause-world g c = record {
  honest = λ k. c.in_ok-token.ensures.same.was_honest (c.in_err-issue.ensures.honest k);
  each = λ honest world h.
      let old = c.args.store.now in
      let lead = reads_lead g.S.State old c.offer.new.store _ world c.in_ok-token.ensures h in
      let p = err_from_is_err_and c.from_residual-in_err-issue.result c.from_residual-in_err-issue.ensures.1 in
      let refused = c.in_err-issue.ensures.each honest world lead.holds in
      rw p.1 (
        fails_before g.S.State _ _ old c.issue.new.store world _ (_, refl) (takes_then g.S.State old c.offer.new.store c.issue.new.store world _ _ lead refused.takes),
        token_cause world c.args.asked.now _ c.in_err-issue.field-0.0 p.2 refused.verdict,
      );
}

pub returns-clause-world : goal.returns-clause-world
returns-clause-world g c = record {
  honest = λ k. c.in_ok-token.ensures.same.was_honest (c.in_ok-issue.ensures.honest k);
  each = λ honest world h.
      let old = c.args.store.now in
      let mid = c.offer.new.store in
      let lead = reads_lead g.S.State old mid _ world c.in_ok-token.ensures h in
      let issued = c.in_ok-issue.ensures.each honest world lead.holds in (
        string_bytes c.in_ok-issue.field-0,
        record {
          token = issued.token;
          verdict = issued.verdict;
          text_is = issued.text_is;
          takes = takes_then g.S.State old mid c.issue.new.store world _ _ lead issued.takes;
        },
      );
}

-- ---- what is written

pub returns-in_err-token-clause-printed : goal.returns-in_err-token-clause-printed
returns-in_err-token-clause-printed g c = printed_none g.S.State _ c.args.store.now c.offer.new.store _ (λ world. none_on _ _ c.from_residual.result c.from_residual.ensures.1) c.offer.ensures

pub returns-in_err-line-clause-printed : goal.returns-in_err-line-clause-printed
returns-in_err-line-clause-printed g c =
    printed_none g.S.State _ c.args.store.now c.offer.new.store _ (λ world. none_on _ _ c.from_residual-in_err-line.result c.from_residual-in_err-line.ensures.1) c.offer.ensures

pub returns-in_err-push-clause-printed : goal.returns-in_err-push-clause-printed
returns-in_err-push-clause-printed g c =
    printed_none g.S.State _ c.args.store.now c.offer.new.store _ (λ world. none_on _ _ c.from_residual-in_err-push.result c.from_residual-in_err-push.ensures.1) c.offer.ensures

pub returns-in_err-print-clause-printed : goal.returns-in_err-print-clause-printed
returns-in_err-print-clause-printed g c =
    printed_none g.S.State _ c.args.store.now c.offer.new.store _ (λ world. none_on _ _ c.from_residual-in_err-print.result c.from_residual-in_err-print.ensures.1) c.offer.ensures

pub returns-in_err-issue-clause-printed : goal.returns-in_err-issue-clause-printed
returns-in_err-issue-clause-printed g c = record {
  honest = λ k. c.in_ok-token.ensures.same.was_honest (c.in_err-issue.ensures.honest k);
  each = λ honest world h. none_on _ _ c.from_residual-in_err-issue.result c.from_residual-in_err-issue.ensures.1;
}

pub returns-clause-printed : goal.returns-clause-printed
unfolding lib.Utf8.encode
returns-clause-printed g c = record {
  honest = λ k. c.in_ok-token.ensures.same.was_honest (c.in_ok-issue.ensures.honest k);
  each = λ honest world h. (
    line (string_bytes c.in_ok-line.line),
    (
      string_bytes c.in_ok-token.token,
      c.in_ok-token.ensures.each (c.in_ok-issue.ensures.honest honest) world h,
      ap line (c.in_ok-line.ensures ∙ ap (λ (token : List ℕ). compact_text (action_data (token_action (policy_view c.args.policy.now) (repo_text c.args.asked.now.repo.now) token))) c.as_str.ensures.value),
    ),
    subst (Appends (g.K.Sink.taken c.args.output.now) (g.K.Sink.taken c.print.new.output)) (c.as_bytes.ensures.value ∙ c.in_ok-push.ensures.bytes) c.in_ok-print.ensures.text,
  );
}
