use Rattle.service.proofs.Prelude.{subst, IsThere, EndsContent}
use Rattle.refinement.proofs.ReadOnly.{reads_then}
use Rattle.service.proofs.Sent.{found_sent, none_sent}
use Rattle.service.proofs.sending.send_content.Goals as goal

pub returns-in-Ok-Some-clause-content : goal.returns-in-Ok-Some-clause-content
returns-in-Ok-Some-clause-content g c =
    reads_then g.S.State c.args.store.now c.find.new.store c.send_object.new.store _ _ _
    (λ world laws found wrote given shows there.
    found_sent g.S.State c.find.new.store world c.in-Some.repo c.args.body.now c.in-Content.name c.in-Content.size c.in-Ok-Some.row given (g.K.Sink.taken c.args.sink.now) (g.K.Sink.taken c.send_object.new.sink) c.send_object.result
    c.in-Content.is shows (subst (λ r. IsThere world r given) c.in-Some.is there) found wrote)
    (rw c.in-Ok-Some.field-0-is at c.in-Ok-Some.ensures) c.send_object.ensures.content

pub returns-in-Ok-None-clause-content : goal.returns-in-Ok-None-clause-content
returns-in-Ok-None-clause-content g c =
    let was = g.K.Sink.taken c.args.sink.now in
    let r = c.expect_whole-in-Ok-None.result in
    record {
      same = c.find.ensures.same;
      adds = c.find.ensures.adds;
      each = λ honest world h given shows there.
          none_sent world c.in-Some.repo c.args.body.now c.in-Content.name c.in-Content.size given was r c.in-Content.is shows (subst (λ r. IsThere world r given) c.in-Some.is there)
          (subst (λ n. EndsContent 0 n r) c.get-in-Ok-None.ensures.value c.expect_whole-in-Ok-None.ensures);
    }
