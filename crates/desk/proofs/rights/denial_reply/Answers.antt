use Rattle.desk.proofs.Prelude.{Err, IfOk-weaker, denial_view}
use Rattle.desk.proofs.rights.denial_reply.Goals as goal

pub returns : goal.returns
returns c = IfOk-weaker c.telling.result _ _ (λ reply is_reply. is_reply (Err (denial_view c.args.denial)) c.answer_to.ensures) c.telling.ensures
