use Rattle.desk.proofs.Prelude.{rules, Ok, Err, Refused, from_weaker}
use Rattle.desk.specs.declared.receiving.ReceiveFault.TheVariants as fault
use Rattle.desk.proofs.Arriving.{as_refused}
use Rattle.desk.proofs.Sliced.{AnswersReceived, finish_bounded, finish_granted, finish_other, finish_refused, finish_world}
use Rattle.desk.proofs.slices.finish.Goals as goal

pub returns-in-Err : goal.returns-in-Err
returns-in-Err g c =
    let policy = c.args.terms.policy.now in
    let asked = c.args.asked.now in
    let r = c.args.receiving in
    let done : AnswersReceived g.S.State policy c.args.terms.moment asked r c.refused_upload.result c.args.store.now c.judge_upload.new.store =
    finish_refused g.S.State policy c.args.terms.moment asked r c.refused_upload.result c.args.store.now c.judge_upload.new.store c.get.result c.get.ensures.value c.in-Err.ensures c.in-Err.refused (λ world is. is) c.refused_upload.ensures in
    record { answered = done; world = finish_world g.S.State policy c.args.terms.moment asked r _ _ _ done; bounded = finish_bounded g.S.State policy c.args.terms.moment asked r _ _ _ done }

pub returns-then-not-is_for : goal.returns-then-not-is_for
returns-then-not-is_for g c =
    let policy = c.args.terms.policy.now in
    let asked = c.args.asked.now in
    let r = c.args.receiving in
    let done : AnswersReceived g.S.State policy c.args.terms.moment asked r c.store_refused.result c.args.store.now c.judge_upload.new.store =
    finish_other g.S.State policy c.args.terms.moment asked r c.store_refused.result c.args.store.now c.judge_upload.new.store c.get.result c.get.ensures.value c.in-Ok.ensures c.store_refused.ensures.shows in
    record { answered = done; world = finish_world g.S.State policy c.args.terms.moment asked r _ _ _ done; bounded = finish_bounded g.S.State policy c.args.terms.moment asked r _ _ _ done }

pub returns-in-Ok-complete : goal.returns-in-Ok-complete
returns-in-Ok-complete g c =
    let policy = c.args.terms.policy.now in
    let asked = c.args.asked.now in
    let r = c.args.receiving in
    let same = c.is_for.ensures (search (rules, c.if-not-is_for.false)) in
    let done : AnswersReceived g.S.State policy c.args.terms.moment asked r c.receipt_reply.result c.args.store.now c.complete.new.store =
    finish_granted g.S.State policy c.args.terms.moment asked r c.receipt_reply.result c.args.store.now c.judge_upload.new.store c.get.result c.get.ensures.value c.in-Ok.ensures c.complete.new.store c.in-Ok.granted.0.now c.in-Ok.granted.1.now
    (Ok c.in-Ok-complete.receipt) (λ world is. is) same.0 same.1 c.in-Ok-complete.ensures c.receipt_reply.ensures.shows c.receipt_reply.ensures.read in
    record { answered = done; world = finish_world g.S.State policy c.args.terms.moment asked r _ _ _ done; bounded = finish_bounded g.S.State policy c.args.terms.moment asked r _ _ _ done }

pub returns-in-Err-complete : goal.returns-in-Err-complete
returns-in-Err-complete g c =
    let policy = c.args.terms.policy.now in
    let asked = c.args.asked.now in
    let r = c.args.receiving in
    let same = c.is_for.ensures (search (rules, c.if-not-is_for.false)) in
    let came = from_weaker g.S.State c.judge_upload.new.store c.complete.new.store _ _
    (λ world given bytes it none. as_refused g.S.State c.judge_upload.new.store c.complete.new.store world _ _ bytes 0 c.in-Err-complete.field-0 (given bytes it none)) c.in-Err-complete.ensures in
    let done : AnswersReceived g.S.State policy c.args.terms.moment asked r c.store_refused-in-Err-complete.result c.args.store.now c.complete.new.store =
    finish_granted g.S.State policy c.args.terms.moment asked r c.store_refused-in-Err-complete.result c.args.store.now c.judge_upload.new.store c.get.result c.get.ensures.value c.in-Ok.ensures c.complete.new.store c.in-Ok.granted.0.now c.in-Ok.granted.1.now
    (Err (fault.Store Refused)) (λ world is. is) same.0 same.1 came c.store_refused-in-Err-complete.ensures.shows c.store_refused-in-Err-complete.ensures.read in
    record { answered = done; world = finish_world g.S.State policy c.args.terms.moment asked r _ _ _ done; bounded = finish_bounded g.S.State policy c.args.terms.moment asked r _ _ _ done }
