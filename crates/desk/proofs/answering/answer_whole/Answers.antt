use Rattle.desk.proofs.Prelude.{case_repo, ap, unlock_verdict, plan_for, lock_asked, request_asked, unlock_asked}
use Rattle.model.specs.Locks.{lock_verdict}
use Rattle.desk.proofs.Reading.{answered_reading, as_reads, reads_only}
use Rattle.desk.proofs.Unchanged.{whole_user}
use Rattle.desk.proofs.answering.answer_whole.Goals as goal

pub returns-in-Lock : goal.returns-in-Lock
returns-in-Lock g c size content =
    whole_user c.args.case.now (λ seen. lock_verdict seen (lock_asked c.in-Lock.asked)) (request_asked c.args.request.now) size content (λ seen. ap (λ q. plan_for seen size (request_asked q)) c.in-Lock.is) c.lock.ensures

pub returns-in-Unlock : goal.returns-in-Unlock
returns-in-Unlock g c size content =
    whole_user c.args.case.now (λ seen. unlock_verdict seen (unlock_asked c.in-Unlock.asked)) (request_asked c.args.request.now) size content (λ seen. ap (λ q. plan_for seen size (request_asked q)) c.in-Unlock.is) c.unlock.ensures

pub returns-in_default : goal.returns-in_default
returns-in_default g c =
    let it = c.in_default in
    let reads = as_reads g.S.State (case_repo c.args.case.now) _ c.answer_reading.ensures.reads c.answer_reading.ensures.each in
    answered_reading g.S.State c.args.case.now (request_asked c.args.request.now) (reads_only c.args.request.now it.not-Put it.not-Lock it.not-Unlock) c.answer_reading.result reads
