use Rattle.desk.proofs.Prelude.{◌≡◌, ◌∙◌, Err, refl, sym, ap, length, subst, plan_for, plan_to, put_verdict, unlock_verdict, lock_asked, put_asked, request_asked, unlock_asked, case_with}
use Rattle.model.specs.Locks.{lock_verdict}
use Rattle.model.specs.Views.{plan_reply}
use Rattle.desk.specs.Foreseeing.{ShowsReply}
use Rattle.desk.specs.Views.{state_seen}
use Rattle.desk.proofs.Foreseen.{shows_reply}
use Rattle.desk.proofs.Reading.{shows_plan}
use Rattle.desk.proofs.foreseeing.foresee_for.Goals as goal

pub returns-in-Put : goal.returns-in-Put
returns-in-Put c same who caller repo =
    let seen = case_with c.args.case.now who (state_seen c.args.view.now) in
    subst (λ q. ShowsReply c.foresee_put.result (plan_reply repo c.args.body.now (plan_for seen (length c.args.body.now) (request_asked q)))) (sym c.in-Put.is) (c.foresee_put.ensures same who caller.user repo)

pub returns-in-Lock : goal.returns-in-Lock
returns-in-Lock c same who caller repo =
    let seen = case_with c.args.case.now who (state_seen c.args.view.now) in
    let plan = ap (λ q. plan_for seen (length c.args.body.now) (request_asked q)) c.in-Lock.is in
    subst (λ p. ShowsReply c.foresee_lock.result (plan_reply repo c.args.body.now p)) (sym plan)
    (shows_reply c.foresee_lock.result repo c.args.body.now _ (shows_plan c.foresee_lock.result (lock_verdict seen (lock_asked c.in-Lock.asked)) (c.foresee_lock.ensures same who caller.user)))

pub returns-in-Unlock : goal.returns-in-Unlock
returns-in-Unlock c same who caller repo =
    let seen = case_with c.args.case.now who (state_seen c.args.view.now) in
    let plan = ap (λ q. plan_for seen (length c.args.body.now) (request_asked q)) c.in-Unlock.is in
    subst (λ p. ShowsReply c.foresee_unlock.result (plan_reply repo c.args.body.now p)) (sym plan)
    (shows_reply c.foresee_unlock.result repo c.args.body.now _ (shows_plan c.foresee_unlock.result (unlock_verdict seen (unlock_asked c.in-Unlock.asked)) (c.foresee_unlock.ensures same who caller.user)))

pub returns-in_default : goal.returns-in_default
returns-in_default c same who caller repo =
    shows_reply c.answer_reading.result repo c.args.body.now _ (c.answer_reading.ensures.each tt (state_seen c.args.view.now) (sym same, refl) who caller (length c.args.body.now))
