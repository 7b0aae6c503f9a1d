use Rattle.desk.proofs.Prelude.{Ok, refl, IfOk-weaker, releases, lock_seen}
use Rattle.desk.proofs.unlocking.released_reply.Goals as goal

pub returns : goal.returns
returns c =
    IfOk-weaker c.telling.result _ _ (λ reply is_reply repo.
    let l = lock_seen repo c.args.row.now in
    is_reply (Ok (releases l)) (l, c.shown.ensures.row l (record { id = refl; at = refl; owner = refl; path = refl }), refl)) c.telling.ensures
