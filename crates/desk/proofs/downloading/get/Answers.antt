use Rattle.desk.proofs.Prelude.{◌≡◌, ◌∙◌, Ok, Err, X1, X4, sym, subst, get_asked, permit, case_policy, case_with}
use Rattle.model.specs.Views.{plan_reply}
use Rattle.desk.specs.Replies.{IsReply}
use Rattle.desk.specs.declared.cases.Denial.TheVariants as denied
use Rattle.desk.proofs.Fetching.{get_gone, get_none, get_some, pulls}
use Rattle.desk.proofs.Reading.{both_read, denied_plan, refused_plan, repo_weaker}
use Rattle.desk.proofs.downloading.get.Goals as goal

pub returns-in_err-is_gone : goal.returns-in_err-is_gone
returns-in_err-is_gone g c = refused_plan _ _ _ c.in_err-is_gone.ensures.reads c.from_residual-in_err-is_gone.ensures.1

pub returns-then-branch : goal.returns-then-branch
returns-then-branch g c =
    let case = c.args.case.now in
    let name = get_asked c.args.asked.now in
    let may = subst (λ q. permit (case_policy case) q 404 ≡ Ok tt) c.pull_question.ensures c.in_ok-permit.ensures in
    denied_plan _ (denied.Rule X4) (Err c.into.result) c.in_ok-is_gone.ensures.reads c.into.ensures
    (λ honest state shown who user. get_gone (case_with case who state) name (pulls case who user may) (sym (c.in_ok-is_gone.ensures.gone honest state shown) ∙ c.if-branch.true))

pub returns-in_err-size : goal.returns-in_err-size
returns-in_err-size g c =
    let it = g.met.R.RepoReader in
    refused_plan _ _ _ (it.reads_on _ _ _ c.in_ok-is_gone.ensures.reads c.in_err-size.ensures.reads) c.from_residual-in_err-size.ensures.1

pub returns-in-Some : goal.returns-in-Some
returns-in-Some g c =
    let case = c.args.case.now in
    let name = get_asked c.args.asked.now in
    let it = g.met.R.RepoReader in
    let may = subst (λ q. permit (case_policy case) q 404 ≡ Ok tt) c.pull_question.ensures c.in_ok-permit.ensures in
    let found = (rw c.in-Some.is at c.in_ok-size.ensures).size in
    repo_weaker _
    (λ state both who user repo body.
    subst (λ plan. IsReply c.content.result (plan_reply repo body plan)) (sym (get_some (case_with case who state) name (pulls case who user may) (sym both.0 ∙ c.if-branch.false) c.in-Some.size (sym both.1))) c.content.ensures)
    (both_read it.reads_on it.was_honest it.shows_still _ c.in_ok-is_gone.ensures.reads c.in_ok-size.ensures.reads c.in_ok-is_gone.ensures.gone found)

pub returns-in-None : goal.returns-in-None
returns-in-None g c =
    let case = c.args.case.now in
    let name = get_asked c.args.asked.now in
    let it = g.met.R.RepoReader in
    let may = subst (λ q. permit (case_policy case) q 404 ≡ Ok tt) c.pull_question.ensures c.in_ok-permit.ensures in
    let found = (rw c.in-None.is at c.in_ok-size.ensures).size in
    let both = both_read it.reads_on it.was_honest it.shows_still _ c.in_ok-is_gone.ensures.reads c.in_ok-size.ensures.reads c.in_ok-is_gone.ensures.gone found in
    denied_plan _ (denied.Rule X1) (Err c.into-in-None.result) both.reads c.into-in-None.ensures
    (λ honest state shown who user. get_none (case_with case who state) name (pulls case who user may) (sym (both.each honest state shown).0 ∙ c.if-branch.false) (sym (both.each honest state shown).1))
