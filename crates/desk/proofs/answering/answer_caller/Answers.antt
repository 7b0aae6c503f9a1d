use Rattle.desk.proofs.Prelude.{◌≡◌, ◌∙◌, Ok, Err, sym, repo_text, is_upload, by_rule, policy_view, repo_view, request_asked, reads_none, request_read, request_seen, setting_of, admission_result}
use Rattle.std.specs.Bool.{⊤}
use Rattle.desk.proofs.Admitting.{admitted, own_name, same_uploads}
use Rattle.desk.proofs.Early.{answered_after, denied_first}
use Rattle.desk.proofs.Verdicts.{taken_up, not_taken, admitted_alike}
use Rattle.desk.proofs.answering.answer_caller.Goals as goal

pub returns-in-Ok : goal.returns-in-Ok
returns-in-Ok g c =
    let policy = policy_view c.args.policy.now in
    let caller = c.args.caller.now in
    let asked = c.args.asked.now in
    let repo = repo_view c.in-Ok.repo.now in
    let request = request_asked c.in-Ok.request.now in
    let given : admission_result policy (repo_text caller.repo) (is_upload caller.operation) asked.repo.now (request_read asked) ≡ Ok (repo, request) = c.in-Ok.ensures in
    let it = admitted policy (repo_text caller.repo) (is_upload caller.operation) asked.repo.now (request_read asked) repo request given in
    answered_after (same_uploads (request_read asked) request it.1) (own_name policy asked.repo.now repo it.0) (reads_none _ _ (λ _. ⊤) (λ _ _ _. tt))
    (λ world read who holder size sized. (
      who,
      record { user = holder.user; token = holder.token; expires = holder.expires },
      sym (taken_up world (setting_of c.args.policy.now c.args.now) (request_seen asked size) who repo request (sym (admitted_alike policy caller who asked.repo.now (request_read asked) holder) ∙ given)),
    )) c.answer_request.ensures

pub returns-in-Err : goal.returns-in-Err
returns-in-Err g c =
    let asked = c.args.asked.now in
    let rule = c.in-Err.rule in
    let given : admission_result (policy_view c.args.policy.now) (repo_text c.args.caller.now.repo) (is_upload c.args.caller.now.operation) asked.repo.now (request_read asked) ≡ Err rule = c.in-Err.ensures in
    denied_first (g.met.B.Body.moves_none c.args.content.now) (by_rule rule) c.refusal.result (reads_none _ _ (λ _. ⊤) (λ _ _ _. tt))
    (λ world read who holder size sized.
    not_taken world (setting_of c.args.policy.now c.args.now) (request_seen asked size) who rule (sym (admitted_alike (policy_view c.args.policy.now) c.args.caller.now who asked.repo.now (request_read asked) holder) ∙ given))
    c.refusal.ensures.shows c.refusal.ensures.read
