use Rattle.desk.proofs.Prelude.{◌≡◌, ◌∙◌, Ok, Some, option_map, sym, ap, subst, Answer, releases, unlock_verdict, unlock_asked, reads_lead, lock_seen, lock_with, case_repo, case_seen, found_verdict, AnswersAlone}
use Rattle.desk.proofs.Releasing.{verdict_on_found, id_found}
use Rattle.desk.proofs.Showing.{read_alike}
use Rattle.desk.proofs.Unchanged.{denied_after, refused_after}
use Rattle.desk.proofs.Verdicts.{granted_then}
use Rattle.desk.proofs.unlocking.unlock.Goals as goal

pub returns : goal.returns
returns g c =
    let case = c.args.case.now in
    let asked = unlock_asked c.args.asked.now in
    let get = c.in_ok-found.ensures in
    let repo = (case_repo case).name in
    let l = lock_seen repo c.in_ok-row.row.now in
    record {
      honest = λ k. get.same.was_honest (c.release.ensures.honest k);
      each = λ honest world h who user.
          let seen : option_map (lock_seen repo) c.in_ok-found.found ≡ lock_with repo asked.id world =
          subst (λ n. option_map (lock_seen n) c.in_ok-found.found ≡ lock_with n asked.id world) c.name.ensures (get.each (c.release.ensures.honest honest) world h) in
          let found = read_alike (lock_seen repo) c.in_ok-found.found c.as_ref.result c.as_ref.ensures.value ∙ seen in
          let there : lock_with repo asked.id world ≡ Some l = sym found ∙ ap (option_map (λ row. lock_seen repo row.now)) c.in_ok-row.ensures.same in
          let given : unlock_verdict (case_seen world case who) asked ≡ Ok (releases l) = verdict_on_found world case who asked user h.laws ∙ ap (found_verdict case asked.force) (sym found) ∙ c.in_ok-row.ensures.verdict in
          let lead = reads_lead g.S.State c.args.store.now c.get.new.store _ world get h in
          subst (λ (v : Answer). AnswersAlone g.S.State c.args.store.now c.release.new.store world v c.release.result) (sym given)
          (granted_then g.S.State c.args.store.now c.get.new.store c.release.new.store world _ c.release.result get h
          (subst (λ n. lock_with n c.in_ok-row.row.now.id world ≡ Some (lock_seen n c.in_ok-row.row.now) → AnswersAlone g.S.State c.get.new.store c.release.new.store world (Ok (releases (lock_seen n c.in_ok-row.row.now))) c.release.result)
          c.name-2.ensures (c.release.ensures.each honest world lead.holds) (id_found repo asked.id world l there)));
    }

pub returns-in_err-row : goal.returns-in_err-row
returns-in_err-row g c =
    let case = c.args.case.now in
    let asked = unlock_asked c.args.asked.now in
    let repo = (case_repo case).name in
    denied_after _ _ c.in_ok-found.ensures c.from_residual-in_err-row.ensures.1
    (λ world laws seen who user.
    let found = read_alike (lock_seen repo) c.in_ok-found.found c.as_ref.result c.as_ref.ensures.value
    ∙ subst (λ n. option_map (lock_seen n) c.in_ok-found.found ≡ lock_with n asked.id world) c.name.ensures seen in
    verdict_on_found world case who asked user laws ∙ ap (found_verdict case asked.force) (sym found) ∙ c.in_err-row.ensures.verdict)

pub returns-in_err-found : goal.returns-in_err-found
returns-in_err-found g c = refused_after _ _ c.in_err-found.ensures c.from_residual.ensures.1
