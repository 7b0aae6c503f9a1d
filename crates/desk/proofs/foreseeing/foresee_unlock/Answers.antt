use Rattle.desk.proofs.Prelude.{◌≡◌, ◌∙◌, Some, Option, Bor, Ok, refl, sym, ap, find, subst, option_map, IsReplyOf, releases, LockRow, lock_seen, unlock_asked, case_repo, denial_view, found_verdict}
use Rattle.std.specs.Option.{option_copied}
use Rattle.desk.specs.Foreseeing.{is_seen}
use Rattle.desk.proofs.Foreseen.{found_shown, shows_denial}
use Rattle.desk.proofs.Showing.{read_alike}
use Rattle.desk.proofs.foreseeing.foresee_unlock.Goals as goal

pub returns-in_err-row : goal.returns-in_err-row
returns-in_err-row c same who user =
    let case = c.args.case.now in
    let asked = unlock_asked c.args.asked.now in
    let asker = c.asker_of.result in
    let found = option_map (λ (row : Bor LockRow). row.now) c.visible_lock-found.result in
    let is = c.visible_lock-found.ensures ∙ ap (find (is_seen asker asked.id)) c.as_slice.ensures.value in
    shows_denial c.in_err-row.field-0.0 c.from_residual.result _ c.from_residual.ensures.1
    (found_shown c.args.view.now case who user asked asker c.asker_of.ensures.policy c.asker_of.ensures.user c.asker_of.ensures.repo same found is
    ∙ ap (found_verdict case asked.force) (sym (read_alike (lock_seen (case_repo case).name) found c.visible_lock-found.result refl)) ∙ c.in_err-row.ensures.verdict)

pub returns : goal.returns
returns c same who user =
    let case = c.args.case.now in
    let asked = unlock_asked c.args.asked.now in
    let asker = c.asker_of.result in
    let repo = (case_repo case).name in
    let found = option_map (λ (row : Bor LockRow). row.now) c.visible_lock-found.result in
    let is = c.visible_lock-found.ensures ∙ ap (find (is_seen asker asked.id)) c.as_slice.ensures.value in
    let given =
    found_shown c.args.view.now case who user asked asker c.asker_of.ensures.policy c.asker_of.ensures.user c.asker_of.ensures.repo same found is
    ∙ ap (found_verdict case asked.force) (sym (read_alike (lock_seen repo) found c.visible_lock-found.result refl)) ∙ c.in_ok-row.ensures.verdict in
    subst (IsReplyOf c.in_ok-released_reply.field-0) (sym given) (c.in_ok-released_reply.ensures repo)
