use Rattle.desk.proofs.Prelude.{releases, lock_seen, case_repo, denial_view}
use Rattle.desk.proofs.Releasing.{refused_right, by_right, passed_on}
use Rattle.desk.proofs.unlocking.may_release.Goals as goal

pub returns-in_err-right : goal.returns-in_err-right
returns-in_err-right c =
    let case = c.args.case.now in
    let l = lock_seen (case_repo case).name c.args.row.now in
    passed_on (λ _. releases l) c.in_err-right.field-0.0 c.from_residual.result _ c.from_residual.ensures.1
    (refused_right case c.args.force l (denial_view c.in_err-right.field-0.0) c.in_err-right.ensures)

pub returns : goal.returns
returns c =
    let case = c.args.case.now in
    let asks = rw (c.asker_of.ensures.user, c.asker_of.ensures.repo) at c.lock_question.ensures in
    by_right case c.args.force (lock_seen (case_repo case).name c.args.row.now) c.in_ok-right.right _ c.permit.result c.in_ok-right.ensures asks c.permit.ensures
