use Rattle.desk.proofs.Prelude.{refl, sym, ap, plan_for, request_asked, reads_none, uploads, case_seen}
use Rattle.std.specs.Bool.{⊤}
use Rattle.desk.proofs.Early.{answered_after, replied_before, uploads_none}
use Rattle.desk.proofs.Unchanged.{replied}
use Rattle.desk.proofs.answering.answer_request.Goals as goal

pub returns-in-Put : goal.returns-in-Put
returns-in-Put g c =
    answered_after (ap (λ q. uploads (request_asked q)) (sym c.in-Put.is)) refl (reads_none _ _ (λ _. ⊤) (λ _ _ _. tt))
    (λ world read who is size sized. (who, is.user, ap (λ q. plan_for (case_seen world c.args.case.now who) size (request_asked q)) (sym c.in-Put.is))) c.put.ensures

pub returns-in_default : goal.returns-in_default
returns-in_default g c =
    replied_before (g.met.B.Body.moves_none c.args.content.now) (uploads_none c.args.request.now c.in_default.not-Put) c.reply_or_denial.result c.reply_or_denial.ensures.read
    (λ size body. replied g.S.State c.args.store.now c.answer_whole-done.new.store (c.answer_whole-done.ensures size body) c.reply_or_denial.ensures.shows)
