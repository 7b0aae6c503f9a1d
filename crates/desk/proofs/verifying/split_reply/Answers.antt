use Rattle.desk.proofs.Prelude.{◌∙◌, Ok, map, filter, not, refl, sym, ap, subst, IfOk-weaker, user_text, splits, AreOf, lock_seen, page_seen}
use Rattle.model.specs.Callers.{is_own}
use Rattle.desk.proofs.Showing.{own_rows, other_rows}
use Rattle.desk.proofs.verifying.split_reply.Goals as goal

pub returns : goal.returns
returns c =
    IfOk-weaker c.telling.result _ _ (λ reply is_reply repo.
    let page = page_seen repo c.args.page.now in
    let user = user_text c.args.user.now in
    let rows = c.args.page.now.locks.items in
    let ours = subst (λ locks. AreOf c.in_ok-ours.ours.items locks) (ap (map (lock_seen repo)) c.split.ensures.ours ∙ own_rows repo user rows) (c.in_ok-ours.ensures repo) in
    let theirs = subst (λ locks. AreOf c.in_ok-theirs.theirs.items locks) (ap (map (lock_seen repo)) c.split.ensures.theirs ∙ other_rows repo user rows) (c.in_ok-theirs.ensures repo) in
    is_reply (Ok (splits user page)) (
      user,
      page,
      (
        subst (λ locks. AreOf locks (filter (is_own user) page.locks)) (sym c.as_slice.ensures.value) ours,
        subst (λ locks. AreOf locks (filter (λ l. not (is_own user l)) page.locks)) (sym c.as_slice-2.ensures.value) theirs,
        refl,
      ),
      refl,
    )) c.telling.ensures
