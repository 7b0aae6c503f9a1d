use Rattle.desk.proofs.Prelude.{◌∙◌, sym, releases, lock_seen, case_repo}
use Rattle.desk.proofs.Releasing.{asker_sees, passed_on, seen}
use Rattle.desk.proofs.unlocking.lock_to_release.Goals as goal

pub returns-in_err-may_release-clause-verdict : goal.returns-in_err-may_release-clause-verdict
returns-in_err-may_release-clause-verdict c =
    let case = c.args.case.now in
    let sees = c.if-not-sees.ensures ∙ asker_sees case c.asker_of.result c.in-Some.row.now c.asker_of.ensures.policy c.asker_of.ensures.user c.asker_of.ensures.repo in
    passed_on (λ row. releases (lock_seen (case_repo case).name row.now)) c.in_err-may_release.field-0.0 c.from_residual.result _ c.from_residual.ensures.1
    (rw c.in-Some.is (seen case c.args.force (lock_seen (case_repo case).name c.in-Some.row.now) (sym sees) ∙ c.in_err-may_release.ensures))

pub returns-clause-verdict : goal.returns-clause-verdict
returns-clause-verdict c =
    let case = c.args.case.now in
    let sees = c.if-not-sees.ensures ∙ asker_sees case c.asker_of.result c.in-Some.row.now c.asker_of.ensures.policy c.asker_of.ensures.user c.asker_of.ensures.repo in
    rw c.in-Some.is (seen case c.args.force (lock_seen (case_repo case).name c.in-Some.row.now) (sym sees) ∙ c.in_ok-may_release.ensures)
