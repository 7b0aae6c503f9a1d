use Rattle.desk.proofs.Prelude.{Err, refl, IfOk-weaker, by_lock}
use Rattle.desk.proofs.locking.held_reply.Goals as goal

pub returns : goal.returns
returns c = IfOk-weaker c.telling.result _ _ (λ reply is_reply l is. is_reply (Err (by_lock l)) (l, c.shown.ensures.row l is, refl)) c.telling.ensures
