use Rattle.service.proofs.Prelude.{reply_of}
use Rattle.service.proofs.Deferred.{after_read, sent_later, then_read}
use Rattle.service.proofs.Sent.{front_fails}
use Rattle.service.proofs.turn.deliver_or_defer.Goals as goal

pub returns-in_default-clause-sent : goal.returns-in_default-clause-sent
returns-in_default-clause-sent g c = rw c.requires.none c.deliver.ensures.sent

pub returns-then-is_none-clause-sent : goal.returns-then-is_none-clause-sent
returns-then-is_none-clause-sent g c = rw c.requires.none (then_read g.S.State _ _ _ _ _ c.next.ensures.next c.deliver-then-is_none.ensures.sent)

pub returns-in-Ok-clause-sent : goal.returns-in-Ok-clause-sent
returns-in-Ok-clause-sent g c =
    let r = c.args.response.now in
    after_read g.S.State _ _ _ _ c.next.ensures.next
    (λ world given is_reply there.
    sent_later world c.in-Some.download r.repo r.reply.body given r.allow.now r.close (g.K.Sink.taken c.args.sink.now) (g.K.Sink.taken c.send_reply.new.sink)
    (rw c.in-Some.is at c.deferred.ensures) is_reply.body there (c.in-Ok.ensures.ok (reply_of given) is_reply))

pub returns-in-Err-clause-sent : goal.returns-in-Err-clause-sent
returns-in-Err-clause-sent g c =
    let r = c.args.response.now in
    rw c.requires.none
    (after_read g.S.State _ _ _ _ c.next.ensures.next
    (λ world given is_reply there. (
      c.in-Err.field-0.written,
      front_fails given r.allow.now r.close (g.K.Sink.taken c.args.sink.now) (g.K.Sink.taken c.send_reply.new.sink) c.in-Err.field-0.written (c.in-Err.ensures.part (reply_of given) is_reply),
    )))
