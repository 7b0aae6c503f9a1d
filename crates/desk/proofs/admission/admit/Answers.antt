use Rattle.desk.proofs.Prelude.{◌≡◌, ◌>>=◌, Ok, Err, Result, sym, ap, repo_text, Rule, needs_upload, is_upload, policy_view, repo_view, request_asked, request_read}
use Rattle.model.specs.Forms as form
use Rattle.forms.specs.declared.request.Request.{Request}
use Rattle.desk.proofs.Admitting.{refused_form, uncovered, taken, is_own, not_covered, covered_by, not_needed}
use Rattle.desk.proofs.admission.admit.Goals as goal
use Rattle.desk.proofs.admission.admit.Goals.{else-needs_upload-via-then-needs_upload+else-not-is_for_upload, else-needs_upload-via-else-needs_upload}

-- what is asked, in the terms of the definitions
abbrev asked_of : Result Request Rule → Result form.Request Rule
asked_of r = r >>= λ request. Ok (request_asked request)

pub returns-in-Err : goal.returns-in-Err
returns-in-Err c =
    let a = c.args.asked.now in
    let refused : request_read a ≡ Err c.in-Err.rule = ap asked_of c.in-Err.is in
    refused_form (policy_view c.args.policy.now) (repo_text c.args.own.now) (is_upload c.args.operation) a.repo.now
    (request_read a) (repo_view c.in-Some.repo.now) c.in-Err.rule
    (is_own c.as_str.result.now (repo_text c.args.own.now) a.repo.now c.ne.result c.as_str.ensures.value c.ne.ensures c.if-ne.false)
    (sym c.in-Some.ensures.value) refused

pub returns-then-not-is_for_upload : goal.returns-then-not-is_for_upload
returns-then-not-is_for_upload c =
    let a = c.args.asked.now in
    let read : request_read a ≡ Ok (request_asked c.in-Ok.request) = ap asked_of c.in-Ok.is in
    uncovered (policy_view c.args.policy.now) (repo_text c.args.own.now) (is_upload c.args.operation) a.repo.now
    (request_read a) (repo_view c.in-Some.repo.now) (request_asked c.in-Ok.request)
    (is_own c.as_str.result.now (repo_text c.args.own.now) a.repo.now c.ne.result c.as_str.ensures.value c.ne.ensures c.if-ne.false)
    (sym c.in-Some.ensures.value) read
    (not_covered (needs_upload (request_asked c.in-Ok.request)) (is_upload c.args.operation) c.if-needs_upload.ensures c.if-not-is_for_upload.ensures)

pub returns : goal.returns
returns c =
    let a = c.args.asked.now in
    let read : request_read a ≡ Ok (request_asked c.in-Ok.request) = ap asked_of c.in-Ok.is in
    taken (policy_view c.args.policy.now) (repo_text c.args.own.now) (is_upload c.args.operation) a.repo.now
    (request_read a) (repo_view c.in-Some.repo.now) (request_asked c.in-Ok.request)
    (is_own c.as_str.result.now (repo_text c.args.own.now) a.repo.now c.ne.result c.as_str.ensures.value c.ne.ensures c.if-ne.false)
    (sym c.in-Some.ensures.value) read
    (elim c.else-needs_upload.branch [
      | else-needs_upload-via-then-needs_upload+else-not-is_for_upload w ↦ covered_by (needs_upload (request_asked c.in-Ok.request)) (is_upload c.args.operation) w.if-not-is_for_upload.ensures
      | else-needs_upload-via-else-needs_upload w ↦ not_needed (needs_upload (request_asked c.in-Ok.request)) (is_upload c.args.operation) w.if-needs_upload.ensures
    ])
