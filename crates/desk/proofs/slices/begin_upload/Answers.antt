use Rattle.desk.proofs.Prelude.{policy_view}
use Rattle.desk.proofs.Sliced.{begun_after, begun_empty, begun_keeps, granted_plan, kept_within, ok_holds, reads_within}
use Rattle.desk.proofs.slices.begin_upload.Goals as goal

pub returns-in_err-repo-clause-bounded : goal.returns-in_err-repo-clause-bounded
returns-in_err-repo-clause-bounded g c =
    reads_within g.S.State c.args.store.now c.judge_upload.new.store (policy_view c.args.terms.policy.now) c.judge_upload.ensures

pub returns-in_err-size-clause-bounded : goal.returns-in_err-size-clause-bounded
returns-in_err-size-clause-bounded g c =
    reads_within g.S.State c.args.store.now c.judge_upload.new.store (policy_view c.args.terms.policy.now) c.judge_upload.ensures

pub returns-in_err-repo-2-clause-bounded : goal.returns-in_err-repo-2-clause-bounded
returns-in_err-repo-2-clause-bounded g c =
    reads_within g.S.State c.args.store.now c.judge_upload.new.store (policy_view c.args.terms.policy.now) c.judge_upload.ensures

pub returns-in_err-upload-clause-kept : goal.returns-in_err-upload-clause-kept
returns-in_err-upload-clause-kept g c =
    begun_keeps g.S.State c.args.store.now c.judge_upload.new.store c.begin.new.store c.in_ok-repo-2.repo c.in_ok-repo.name.now
    c.in_ok-size.size c.judge_upload.ensures c.begin.result c.begin.ensures

pub returns-in_err-upload-clause-bounded : goal.returns-in_err-upload-clause-bounded
returns-in_err-upload-clause-bounded g c =
    kept_within g.S.State c.args.store.now c.begin.new.store (policy_view c.args.terms.policy.now)
    (begun_keeps g.S.State c.args.store.now c.judge_upload.new.store c.begin.new.store c.in_ok-repo-2.repo c.in_ok-repo.name.now
    c.in_ok-size.size c.judge_upload.ensures c.begin.result c.begin.ensures)

pub returns-in_err-intake-clause-kept : goal.returns-in_err-intake-clause-kept
returns-in_err-intake-clause-kept g c =
    begun_keeps g.S.State c.args.store.now c.judge_upload.new.store c.begin.new.store c.in_ok-repo-2.repo c.in_ok-repo.name.now
    c.in_ok-size.size c.judge_upload.ensures c.begin.result c.begin.ensures

pub returns-in_err-intake-clause-bounded : goal.returns-in_err-intake-clause-bounded
returns-in_err-intake-clause-bounded g c =
    kept_within g.S.State c.args.store.now c.begin.new.store (policy_view c.args.terms.policy.now)
    (begun_keeps g.S.State c.args.store.now c.judge_upload.new.store c.begin.new.store c.in_ok-repo-2.repo c.in_ok-repo.name.now
    c.in_ok-size.size c.judge_upload.ensures c.begin.result c.begin.ensures)

pub returns-clause-kept : goal.returns-clause-kept
returns-clause-kept g c =
    begun_keeps g.S.State c.args.store.now c.judge_upload.new.store c.begin.new.store c.in_ok-repo-2.repo c.in_ok-repo.name.now
    c.in_ok-size.size c.judge_upload.ensures c.begin.result c.begin.ensures

pub returns-clause-bounded : goal.returns-clause-bounded
returns-clause-bounded g c =
    kept_within g.S.State c.args.store.now c.begin.new.store (policy_view c.args.terms.policy.now)
    (begun_keeps g.S.State c.args.store.now c.judge_upload.new.store c.begin.new.store c.in_ok-repo-2.repo c.in_ok-repo.name.now
    c.in_ok-size.size c.judge_upload.ensures c.begin.result c.begin.ensures)

pub returns-clause-begun : goal.returns-clause-begun
returns-clause-begun g c =
    let intake = c.in_ok-intake.intake in
    let made = c.in_ok-intake.ensures.value in
    let it = c.begin-2.ensures in
    begun_empty g.S.State c.args.store.now c.judge_upload.new.store c.begin.new.store c.in_ok-repo-2.repo c.in_ok-repo.name.now
    c.in_ok-size.size c.judge_upload.ensures c.in_ok-upload.upload intake c.get.result c.begin.result c.in_ok-upload.ensures.value
    (ok_holds _ c.begin-2.result intake made it.upload) (ok_holds _ c.begin-2.result intake made it.size) c.get.ensures.value
    (ok_holds _ c.begin-2.result intake made it.empty) c.begin.ensures

pub returns-clause-granted : goal.returns-clause-granted
returns-clause-granted g c =
    begun_after g.S.State c.args.store.now c.judge_upload.new.store c.begin.new.store c.in_ok-repo-2.repo c.in_ok-repo.name.now
    c.in_ok-size.size c.judge_upload.ensures c.begin.ensures
    (λ world judged. granted_plan _ _ c.judge_upload.result c.in_ok-repo.repo c.in_ok-repo.name c.in_ok-repo.ensures.value judged)
