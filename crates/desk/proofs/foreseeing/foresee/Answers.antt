use Rattle.desk.proofs.Prelude.{◌≡◌, ◌∙◌, is_upload, Rule, Result, Ok, Err, err_from_is_err_and, refl, sym, ap, subst, repo_named, repo_view, request_asked, request_read, denial_view, IsReplyOf, admission_result}
use Rattle.model.specs.Callers.{Caller}
use Rattle.model.specs.Views.{plan_reply}
use Rattle.desk.specs.Foreseeing.{ShowsReply}
use Rattle.desk.specs.Replies.{IsReply}
use Rattle.desk.specs.Views.{view_seen}
use Rattle.desk.proofs.Admitting.{admitted, own_name}
use Rattle.desk.proofs.Foreseen.{admits_own, nobody_foreseen, plan_admitted, reply_foreseen}
use Rattle.desk.proofs.foreseeing.foresee.Goals as goal

pub returns-in_default : goal.returns-in_default
returns-in_default c = nobody_foreseen (view_seen c.args.view.now) c.args.now c.args.asked.now c.args.body.now c.in_default.ensures

pub returns-in_ok-reply_to-in-Ok : goal.returns-in_ok-reply_to-in-Ok
returns-in_ok-reply_to-in-Ok c =
    let v = view_seen c.args.view.now in
    let body = c.args.body.now in
    let asked = c.args.asked.now in
    let who : Caller = record { token = c.in-Some.text.now; user = v.user; repo = v.repo; operation = c.in-Some.token.operation; expires = c.in-Some.token.expires } in
    let repo = repo_view c.in-Ok.repo.now in
    let covers = is_upload c.in-Some.token.operation in
    let named = own_name v.policy asked.repo.now repo (admitted v.policy v.repo covers asked.repo.now (request_read asked) repo (request_asked c.in-Ok.request.now) c.in-Ok.ensures).0 ∙ admits_own v covers asked.repo.now (request_read asked) _ c.in-Ok.ensures in
    let plan = ap (plan_admitted v c.args.now who body) c.in-Ok.ensures in
    let shows = c.foresee_for-done.ensures (sym named) who (record { user = refl; token = refl; expires = refl }) v.repo in (
      _,
      reply_foreseen v c.args.now asked body who c.in-Some.ensures,
      c.in_ok-reply_to-in-Ok.ensures _ (subst (λ p. ShowsReply c.foresee_for-done.result (plan_reply v.repo body p)) (sym plan) shows),
    )

pub returns-in_err-reply_to-in-Ok : goal.returns-in_err-reply_to-in-Ok
returns-in_err-reply_to-in-Ok c =
    let v = view_seen c.args.view.now in
    let who : Caller = record { token = c.in-Some.text.now; user = v.user; repo = v.repo; operation = c.in-Some.token.operation; expires = c.in-Some.token.expires } in
    let p = err_from_is_err_and c.from_residual.result c.from_residual.ensures.1 in
    rw (p.1, p.2) (_, reply_foreseen v c.args.now c.args.asked.now c.args.body.now who c.in-Some.ensures)

pub returns-in_ok-denial_reply-in-Err : goal.returns-in_ok-denial_reply-in-Err
returns-in_ok-denial_reply-in-Err c =
    let v = view_seen c.args.view.now in
    let body = c.args.body.now in
    let asked = c.args.asked.now in
    let who : Caller = record { token = c.in-Some.text.now; user = v.user; repo = v.repo; operation = c.in-Some.token.operation; expires = c.in-Some.token.expires } in
    let plan = ap (plan_admitted v c.args.now who body) c.in-Err.ensures in (
      _,
      reply_foreseen v c.args.now asked body who c.in-Some.ensures,
      subst (λ p. IsReply c.in_ok-denial_reply-in-Err.field-0 (plan_reply v.repo body p)) (sym plan) c.in_ok-denial_reply-in-Err.ensures,
    )

pub returns-in_err-denial_reply-in-Err : goal.returns-in_err-denial_reply-in-Err
returns-in_err-denial_reply-in-Err c =
    let v = view_seen c.args.view.now in
    let who : Caller = record { token = c.in-Some.text.now; user = v.user; repo = v.repo; operation = c.in-Some.token.operation; expires = c.in-Some.token.expires } in
    let p = err_from_is_err_and c.from_residual-in_err-denial_reply-in-Err.result c.from_residual-in_err-denial_reply-in-Err.ensures.1 in
    rw (p.1, p.2) (_, reply_foreseen v c.args.now c.args.asked.now c.args.body.now who c.in-Some.ensures)
