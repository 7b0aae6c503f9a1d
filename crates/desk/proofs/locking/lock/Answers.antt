use Rattle.desk.proofs.Prelude.{◌∙◌, Result, sym, ap, subst, ◌>>=◌, Answer, Denial, permit, placed_verdict, AnswersAlone, case_policy}
use Rattle.std.specs.Bool.{⊤}
use Rattle.desk.proofs.Unchanged.{denied_unread}
use Rattle.desk.proofs.Verdicts.{verdict_alike}
use Rattle.desk.proofs.locking.lock.Goals as goal

pub returns-in_err-permit : goal.returns-in_err-permit
returns-in_err-permit g c =
    let case = c.args.case.now in
    let w = c.wanted_by-wanted.result in
    denied_unread _ _ c.from_residual.ensures.1
    (λ world who user.
    let denied = ap (λ (may : Result ⊤ Denial). may >>= λ _. placed_verdict world w) (ap (λ q. permit (case_policy case) q 403) (sym c.question_on.ensures) ∙ c.in_err-permit.ensures) in
    sym (verdict_alike world case who c.args.asked.now w user c.wanted_by-wanted.ensures) ∙ denied)

pub returns : goal.returns
returns g c =
    let case = c.args.case.now in
    let w = c.wanted_by-wanted.result in
    record {
      honest = c.make_lock.ensures.honest;
      each = λ honest world h who user.
          let allowed = ap (λ (may : Result ⊤ Denial). may >>= λ _. placed_verdict world w) (ap (λ q. permit (case_policy case) q 403) (sym c.question_on.ensures) ∙ c.in_ok-permit.ensures) in
          subst (λ (v : Answer). AnswersAlone g.S.State c.args.store.now c.make_lock.new.store world v c.make_lock.result)
          (sym allowed ∙ verdict_alike world case who c.args.asked.now w user c.wanted_by-wanted.ensures) (c.make_lock.ensures.each honest world h);
    }
