use Rattle.forms.proofs.Prelude.{IfOk-weaker}
use Rattle.forms.proofs.Pages.{listed, split}
use Rattle.forms.proofs.answer.Answer.body.Goals as goal

pub returns-in-Listed : goal.returns-in-Listed
returns-in-Listed c =
    IfOk-weaker c.list_body.result _ _ (λ text is given answers. listed c.in-Listed.page given _ is (rw c.in-Listed.is at answers)) c.list_body.ensures

pub returns-in-Split : goal.returns-in-Split
returns-in-Split c =
    IfOk-weaker c.split_body.result _ _ (λ text is given answers. split c.in-Split.page given _ is (rw c.in-Split.is at answers)) c.split_body.ensures
