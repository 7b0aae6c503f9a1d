use Rattle.desk.proofs.Prelude.{◌∙◌, sym, subst, plan_seen, repo_view, World}
use Rattle.refinement.proofs.ReadOnly.{reads_then, reads_weaker}
use Rattle.desk.specs.Objects.{DeniesIf}
use Rattle.desk.specs.Receiving.{uncalled}
use Rattle.desk.specs.declared.cases.Denial.TheVariants as denied
use Rattle.desk.specs.declared.outcomes.NotGranted.TheVariants as not_granted
use Rattle.desk.proofs.Judging.{judged_put, judged_refused, judged_repo, judged_unadmitted, judged_uncalled}
use Rattle.desk.proofs.Reading.{as_reads}
use Rattle.desk.proofs.uploading.judge_upload.Goals as goal

pub returns-in_err-caller : goal.returns-in_err-caller
returns-in_err-caller g c =
    let policy = c.args.policy.now in
    let asked = c.args.asked.now in
    reads_weaker g.S.State c.args.store.now c.caller.new.store _ _
    (λ world laws called.
    judged_refused asked.repo.now (plan_seen world policy c.args.now asked c.args.size) (uncalled c.in_err-caller.field-0.0) c.from_residual.result c.from_residual.ensures.1
    (judged_uncalled world policy c.args.now asked c.args.size c.in_err-caller.field-0.0 called)) c.in_err-caller.ensures

pub returns-in_err-repo : goal.returns-in_err-repo
returns-in_err-repo g c =
    let policy = c.args.policy.now in
    let asked = c.args.asked.now in
    let rule = c.in_err-repo.field-0.0 in
    reads_weaker g.S.State c.args.store.now c.caller.new.store _ _
    (λ world laws called.
    judged_refused asked.repo.now (plan_seen world policy c.args.now asked c.args.size) (not_granted.Denied (denied.Rule rule)) c.from_residual-in_err-repo.result c.from_residual-in_err-repo.ensures.1
    (judged_unadmitted world policy c.args.now asked c.args.size c.in_ok-caller.caller called rule c.in_err-repo.ensures)) c.in_ok-caller.ensures

pub returns-in_err-may_upload : goal.returns-in_err-may_upload
returns-in_err-may_upload g c =
    let policy = c.args.policy.now in
    let asked = c.args.asked.now in
    let repo = repo_view c.in_ok-repo.repo.now in
    let refused = c.in_err-may_upload.field-0.0 in
    reads_then g.S.State c.args.store.now c.caller.new.store c.may_upload.new.reader _ _ _
    (λ world laws called may.
    judged_refused asked.repo.now (plan_seen world policy c.args.now asked c.args.size) refused c.from_residual-in_err-may_upload.result c.from_residual-in_err-may_upload.ensures.1
    (subst (DeniesIf refused) (sym (judged_put world policy c.args.now asked c.args.size c.in_ok-caller.caller called repo c.in_ok-repo.request.now c.in-Put.put c.in_ok-repo.ensures c.in-Put.is)) (may called.0 called.2.user)))
    c.in_ok-caller.ensures (as_reads g.S.State repo _ c.in_err-may_upload.ensures.reads c.in_err-may_upload.ensures.each)

pub returns : goal.returns
returns g c =
    let policy = c.args.policy.now in
    let asked = c.args.asked.now in
    let repo = repo_view c.in_ok-repo.repo.now in
    reads_then g.S.State c.args.store.now c.caller.new.store c.may_upload.new.reader _ _ _
    (λ world laws called may. (
      c.name.ensures ∙ judged_repo world policy c.args.now asked c.args.size c.in_ok-caller.caller called repo _ c.in_ok-repo.ensures,
      judged_put world policy c.args.now asked c.args.size c.in_ok-caller.caller called repo c.in_ok-repo.request.now c.in-Put.put c.in_ok-repo.ensures c.in-Put.is ∙ may called.0 called.2.user,
    ))
    c.in_ok-caller.ensures (as_reads g.S.State repo _ c.in_ok-may_upload.ensures.reads c.in_ok-may_upload.ensures.each)
