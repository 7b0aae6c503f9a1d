use Rattle.service.proofs.Prelude.{◌++◌, refl, from_weaker, waiting, setting_of}
use Rattle.service.proofs.Deferred.{sent_but}
use Rattle.service.proofs.Answered.{unanswered}
use Rattle.service.proofs.turn.take_turn.Goals as goal

pub returns-in-Ok-clause-turn : goal.returns-in-Ok-clause-turn
returns-in-Ok-clause-turn g c =
    let s = c.args.setting.now in
    let turn = c.in-Ok.ensures.turn in
    let read = c.deliver_or_defer.ensures.sent in
    record {
      honest = λ k. turn.honest (read.same.was_honest k);
      each = λ honest world h.
          let it = turn.each (read.same.was_honest honest) world h in
          let a = it.2 in (
            it.0,
            it.1,
            sent_but g.S.State (setting_of s.policy.now s.now) (waiting c.args.conn.now ++ it.0) (waiting c.next_response.new.conn) world c.args.store.now c.next_response.new.store c.deliver_or_defer.new.store
                (g.K.Sink.taken c.args.sink.now) (g.K.Sink.taken c.deliver_or_defer.new.sink) c.in-Ok.response c.deliver_or_defer.new.later c.deliver_or_defer.result a read.same read.adds c.deliver_or_defer.ensures.ends
                (read.each honest a.kept a.turn.takes.leads.holds a.given a.is_reply a.there),
          );
    }

pub returns-in-Err-clause-turn : goal.returns-in-Err-clause-turn
returns-in-Err-clause-turn g c =
    from_weaker g.S.State c.args.store.now c.next_response.new.store _ _
    (λ world it.
    let s = c.args.setting.now in rw c.requires.none (
      it.0,
      it.1,
      unanswered g.S.State (setting_of s.policy.now s.now) (waiting c.args.conn.now ++ it.0) (waiting c.next_response.new.conn) world c.args.store.now c.next_response.new.store
          (g.K.Sink.taken c.args.sink.now) (g.K.Sink.taken c.args.sink.now) c.in-Err.end c.in-Err.ensures.early refl it.2,
    )) c.in-Err.ensures.turn
