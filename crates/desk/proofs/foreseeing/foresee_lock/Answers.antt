use Rattle.desk.proofs.Prelude.{◌≡◌, ◌∙◌, None, Some, refl, sym, ap, find, subst, IsReplyOf, permit, case_policy, lock_seen, ref_text, path_text, repo_text}
use Rattle.desk.specs.Foreseeing.{is_on}
use Rattle.desk.proofs.Foreseen.{asked_lock, held_verdict, place_is_free}
use Rattle.desk.proofs.foreseeing.foresee_lock.Goals as goal

pub returns-in_ok-held_reply-in-Some : goal.returns-in_ok-held_reply-in-Some
returns-in_ok-held_reply-in-Some c same who user =
    let v = c.args.view.now in
    let w = c.wanted_by-wanted.result in
    let row = c.in-Some.row.now in
    let may = ap (λ q. permit (case_policy c.args.case.now) q 403) (sym c.question_on.ensures) ∙ c.in_ok-permit.ensures in
    let found = c.in-Some.ensures ∙ ap (find (is_on (ref_text w.ref_name.now) (path_text w.path.now))) c.as_slice.ensures.value in
    subst (IsReplyOf c.in_ok-held_reply-in-Some.field-0) (sym (held_verdict v c.args.case.now who user c.args.asked.now w c.wanted_by-wanted.ensures may row found))
    (c.in_ok-held_reply-in-Some.ensures (lock_seen (repo_text v.repo.now) row) (record { id = refl; at = refl; owner = refl; path = refl }))

pub returns-in_ok-free_reply-in-None : goal.returns-in_ok-free_reply-in-None
returns-in_ok-free_reply-in-None c same who user =
    let v = c.args.view.now in
    let case = c.args.case.now in
    let asked = c.args.asked.now in
    let w = c.wanted_by-wanted.result in
    let is = c.wanted_by-wanted.ensures in
    let may = ap (λ q. permit (case_policy case) q 403) (sym c.question_on.ensures) ∙ c.in_ok-permit.ensures in
    let found = c.in-None.ensures ∙ ap (find (is_on (ref_text w.ref_name.now) (path_text w.path.now))) c.as_slice.ensures.value in
    subst (IsReplyOf c.in_ok-free_reply-in-None.field-0) (sym (place_is_free v case who user asked w is may found))
    (c.in_ok-free_reply-in-None.ensures (asked_lock v case who user asked w is may) refl (sym is.at) (sym user ∙ sym is.owner) (sym is.path))
