use Rattle.service.proofs.Prelude.{◌∙◌, sym, subst, arith, Appends, take_all}
use Rattle.service.proofs.Sent.{content_cut, content_within, content_ended}
use Rattle.service.proofs.sending.send_object.Goals as goal

pub returns-in-Ok-clause-content : goal.returns-in-Ok-clause-content
returns-in-Ok-clause-content g c =
    let was = g.K.Sink.taken c.args.sink.now in
    let is = g.K.Sink.taken c.pour.new.sink in
    record {
      same = c.in-Ok.ensures.same;
      adds = c.in-Ok.ensures.adds;
      each = λ honest world h bytes stores size.
          let all = c.in-Ok.ensures.all honest h.ready bytes stores in
          let count = all.is in
          content_ended bytes c.in-Ok.written c.get.result was is c.expect_whole.result (c.get.ensures.value ∙ size) (omega (arith, count))
          (subst (Appends was is) (sym (take_all c.in-Ok.written bytes (omega (arith, count)))) all.taken) c.expect_whole.ensures;
    }

pub returns-in-Device-clause-content : goal.returns-in-Device-clause-content
returns-in-Device-clause-content g c =
    let fault = c.in-Err.fault in
    record {
      same = c.in-Err.ensures.same;
      adds = c.in-Err.ensures.adds;
      each = λ honest world h bytes stores size.
          (fault.written, content_cut fault.cause bytes fault.written (g.K.Sink.taken c.args.sink.now) (g.K.Sink.taken c.pour.new.sink) c.in-Device.is (c.in-Err.ensures.part honest h.ready bytes stores));
    }

pub returns-in-Store-clause-content : goal.returns-in-Store-clause-content
returns-in-Store-clause-content g c =
    let fault = c.in-Err.fault in
    let was = g.K.Sink.taken c.args.sink.now in
    let is = g.K.Sink.taken c.pour.new.sink in
    record {
      same = c.in-Err.ensures.same;
      adds = c.in-Err.ensures.adds;
      each = λ honest world h bytes stores size.
          let part = c.in-Err.ensures.part honest h.ready bytes stores in
          content_ended bytes fault.written c.get-in-Store.result was is c.expect_whole-in-Store.result (c.get-in-Store.ensures.value ∙ size) (content_within fault.cause c.in-Store.field-0 bytes fault.written was is c.in-Store.is part) part.taken c.expect_whole-in-Store.ensures;
    }
