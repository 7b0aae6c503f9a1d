use Rattle.service.proofs.Prelude.{reads_none, reply_of}
use Rattle.service.proofs.Sent.{sends_content, front_fails}
use Rattle.service.proofs.sending.send.Goals as goal

pub returns-in-Ok-clause-sends : goal.returns-in-Ok-clause-sends
returns-in-Ok-clause-sends g c =
    let content = c.send_content.ensures.content in
    let r = c.args.response.now in
    record {
      same = content.same;
      adds = content.adds;
      each = λ honest world h given is_reply there.
          sends_content given r.allow.now r.close (g.K.Sink.taken c.args.sink.now) (g.K.Sink.taken c.send_reply.new.sink) (g.K.Sink.taken c.send_content.new.sink) c.send_content.result
          (c.in-Ok.ensures.ok (reply_of given) is_reply) (content.each honest world h given is_reply.body there);
    }

pub returns-in-Err-clause-sends : goal.returns-in-Err-clause-sends
returns-in-Err-clause-sends g c =
    let r = c.args.response.now in
    reads_none g.S.State c.args.store.now _
    (λ honest world h given is_reply there. (
      c.in-Err.field-0.written,
      front_fails given r.allow.now r.close (g.K.Sink.taken c.args.sink.now) (g.K.Sink.taken c.send_reply.new.sink) c.in-Err.field-0.written (c.in-Err.ensures.part (reply_of given) is_reply),
    ))
