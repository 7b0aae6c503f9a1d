use Rattle.desk.proofs.Prelude.{◌∙◌, sym, lock_seen, case_repo, case_user}
use Rattle.desk.proofs.Releasing.{own_right, forced_right, no_right}
use Rattle.desk.proofs.unlocking.right_for.Goals as goal

pub returns-then-is_own : goal.returns-then-is_own
returns-then-is_own c =
    let own = rw c.asker_of.ensures.user at c.is_own.ensures in
    own_right (case_user c.args.case.now) c.args.force (lock_seen (case_repo c.args.case.now).name c.args.row.now) (sym own ∙ c.if-is_own.true)

pub returns-then-force : goal.returns-then-force
returns-then-force c =
    let own = rw c.asker_of.ensures.user at c.is_own.ensures in
    forced_right (case_user c.args.case.now) c.args.force (lock_seen (case_repo c.args.case.now).name c.args.row.now) (sym own ∙ c.if-is_own.false) c.if-force.true

pub returns-else-force : goal.returns-else-force
returns-else-force c =
    let own = rw c.asker_of.ensures.user at c.is_own.ensures in
    no_right (case_user c.args.case.now) c.args.force (lock_seen (case_repo c.args.case.now).name c.args.row.now) (sym own ∙ c.if-is_own.false) c.if-force.false
