use Rattle.desk.proofs.Prelude.{ap, sym, subst, plan_for, request_asked, case_with, ShowsPlan}
use Rattle.desk.proofs.Reading.{planned, repo_weaker}
use Rattle.desk.proofs.answering.answer_reading.Goals as goal

pub returns-in-Batch : goal.returns-in-Batch
returns-in-Batch g c = planned c.args.case.now c.args.request.now _ (λ size seen. ap (λ q. plan_for seen size (request_asked q)) c.in-Batch.is) (λ who is. is) c.batch.result c.batch.ensures

pub returns-in-Verify : goal.returns-in-Verify
returns-in-Verify g c = planned c.args.case.now c.args.request.now _ (λ size seen. ap (λ q. plan_for seen size (request_asked q)) c.in-Verify.is) (λ who is. is.user) c.verify.result c.verify.ensures

pub returns-in-List : goal.returns-in-List
returns-in-List g c = planned c.args.case.now c.args.request.now _ (λ size seen. ap (λ q. plan_for seen size (request_asked q)) c.in-List.is) (λ who is. is.user) c.list.result c.list.ensures

pub returns-in-VerifyLocks : goal.returns-in-VerifyLocks
returns-in-VerifyLocks g c = planned c.args.case.now c.args.request.now _ (λ size seen. ap (λ q. plan_for seen size (request_asked q)) c.in-VerifyLocks.is) (λ who is. is.user) c.verify_locks.result c.verify_locks.ensures

pub returns-in-Get : goal.returns-in-Get
returns-in-Get g c =
    repo_weaker _ (λ state shows who is size. subst (λ q. ShowsPlan c.get.result (plan_for (case_with c.args.case.now who state) size (request_asked q))) (sym c.in-Get.is) (shows who is.user)) c.get.ensures
