use Rattle.desk.proofs.Prelude.{Ok, map, refl, sym, subst, IfOk-weaker, lists, AreOf, lock_seen, page_seen}
use Rattle.desk.proofs.listing.page_reply.Goals as goal

pub returns : goal.returns
returns c =
    IfOk-weaker c.telling.result _ _ (λ reply is_reply repo.
    let page = page_seen repo c.args.page.now in
    let shown = subst (λ rows. AreOf c.in_ok-locks.locks.items (map (lock_seen repo) rows)) c.as_slice.ensures.value (c.in_ok-locks.ensures repo) in
    is_reply (Ok (lists page)) (page, (subst (λ locks. AreOf locks page.locks) (sym c.as_slice-2.ensures.value) shown, refl), refl)) c.telling.ensures
