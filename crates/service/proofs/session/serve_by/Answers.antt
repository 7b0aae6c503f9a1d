use Rattle.service.proofs.Prelude.{◌≡◌, inl, inr, refl, rules, subst, source_of, setting_of, WritesRefusal, from_weaker, unread_session, end_seen, End}
use Rattle.service.proofs.Serving.{unserved}
use Rattle.service.proofs.session.serve_by.Goals as goal

pub returns-in-Err-clause-session : goal.returns-in-Err-clause-session
returns-in-Err-clause-session g c =
    let s = c.args.setting.now in
    let same : c.source-1.given.0 ≡ c.args.source.now = search rules in
    record {
      honest = λ k. k;
      each = λ honest world h. rw same (inr (
        refl,
        refl,
        unserved g.S.State (setting_of s.policy.now s.now) world c.args.store.now (g.K.Sink.taken c.args.sink.now) (g.K.Sink.taken c.refuse_all.new.sink) c.refuse_all.result c.refuse_all.ensures.refusal h,
        c.requires,
      ));
    }

pub returns-clause-session : goal.returns-clause-session
returns-clause-session g c =
    let new = c.answer_all-served.new.conn in
    let same : c.source-2-1.given.0 ≡ (source_of new).now = search rules in
    from_weaker g.S.State c.args.store.now c.answer_all-served.new.store _ _
    (λ world it. rw same (inl (it.0, rw c.in-Ok.ensures.ok.0 at it.1, it.2))) c.answer_all-served.ensures.served

pub returns-in-Err-clause-input_ended : goal.returns-in-Err-clause-input_ended
returns-in-Err-clause-input_ended g c e =
    let r = c.refuse_all.ensures.refusal in
    let setting = setting_of c.args.setting.now.policy.now c.args.setting.now.now in
    absurd (subst (λ (end : End). WritesRefusal (unread_session setting r.written c.refuse_all.result.answered) (end_seen end)) e (r.writes setting))
