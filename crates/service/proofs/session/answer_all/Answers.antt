use Rattle.service.proofs.Prelude.{◌∙◌, ◌+◌, ◌++◌, [], ℕ, arith, refl, subst, sym, Consumes-nil, Consumes-trans, waiting, source_of, setting_of}
use Rattle.service.specs.Later.{IsServedBut}
use Rattle.service.proofs.Serving.{begins, answers_but, ends_but}
use Rattle.service.proofs.session.answer_all.Goals as goal

pub messages-init : goal.messages-init
messages-init g c = record {
  is_open = c.requires.open;
  same_reference = refl;
  count = omega arith;
  no_fault = refl;
  good = refl;
  none = c.requires.none;
  serving = record {
    honest = λ k. k;
    each = λ honest world h. (
      [],
      Consumes-nil (g.R.Source.left (source_of c.args.conn.now)),
      begins g.S.State (setting_of c.args.setting.now.policy.now c.args.setting.now.now) world (g.K.Sink.taken c.args.sink.now) (waiting c.args.conn.now) c.args.store.now c.requires.fresh h,
    );
  };
}

pub messages-preserved : goal.messages-preserved
messages-preserved g c =
    let i = c.messages.invariant in
    let t = c.in-None.ensures in
    let old = c.args.conn.now in
    let mid = c.messages.conn in
    let new = c.take_turn.new.conn in
    record {
      is_open = t.open refl;
      same_reference = t.same_reference ∙ i.same_reference;
      count = omega (arith, i.count, t.lighter refl);
      no_fault = t.no_fault (λ e. cc) ∙ i.no_fault;
      good = t.counted ∙ i.good;
      none = t.last refl;
      serving = record {
        honest = λ k. i.serving.honest (t.turn.honest k);
        each = λ honest world h.
            let it = i.serving.each (t.turn.honest honest) world h in
            let s = it.2 in
            let turn = t.turn.each honest s.kept s.leads.holds in (
              it.0 ++ turn.0,
              Consumes-trans (g.R.Source.left (source_of old)) (g.R.Source.left (source_of mid)) (g.R.Source.left (source_of new)) it.0 turn.0 it.1 turn.1,
              answers_but g.S.State (setting_of c.args.setting.now.policy.now c.args.setting.now.now) world (g.K.Sink.taken c.args.sink.now) it.0 (waiting mid) turn.0 (waiting new)
                  c.args.store.now c.messages.store c.take_turn.new.store (g.K.Sink.taken c.messages.sink) (g.K.Sink.taken c.take_turn.new.sink) c.messages.answered s c.take_turn.new.later (t.last refl) turn.2,
            );
      };
    }

pub returns-in-Some-clause-served : goal.returns-in-Some-clause-served
returns-in-Some-clause-served g c =
    let i = c.messages.invariant in
    let t = c.in-Some.ensures in
    let setting = setting_of c.args.setting.now.policy.now c.args.setting.now.now in
    let old = c.args.conn.now in
    let mid = c.messages.conn in
    let new = c.take_turn.new.conn in
    record {
      honest = λ k. i.serving.honest (t.turn.honest k);
      each = λ honest world h.
          let it = i.serving.each (t.turn.honest honest) world h in
          let s = it.2 in
          let turn = t.turn.each honest s.kept s.leads.holds in (
            it.0 ++ turn.0,
            Consumes-trans (g.R.Source.left (source_of old)) (g.R.Source.left (source_of mid)) (g.R.Source.left (source_of new)) it.0 turn.0 it.1 turn.1,
            subst (λ (k : ℕ). IsServedBut g.S.State setting (it.0 ++ turn.0) world c.args.store.now c.take_turn.new.store (g.K.Sink.taken c.args.sink.now) (g.K.Sink.taken c.take_turn.new.sink) c.take_turn.new.later
                (record { answered = c.messages.answered + k; end = c.in-Some.end })) (sym c.closing.ensures)
                (ends_but g.S.State setting world (g.K.Sink.taken c.args.sink.now) it.0 (waiting mid) turn.0 (waiting new) c.args.store.now c.messages.store c.take_turn.new.store
                (g.K.Sink.taken c.messages.sink) (g.K.Sink.taken c.take_turn.new.sink) c.messages.answered s c.in-Some.end c.take_turn.new.later turn.2),
          );
    }
