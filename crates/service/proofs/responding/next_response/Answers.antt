use Rattle.service.proofs.Prelude.{◌≡◌, ◌++◌, append_assoc, refl, rules, subst, List, ℕ, Consumes-trans, IsPolicy-policy_view, from_weaker, leads_none, waiting, source_of, setting_of, Denied, IsResponse, IsIncomplete}
use Rattle.service.proofs.Messages.{stop_refused}
use Rattle.service.proofs.Responses.{refused_response}
use Rattle.service.proofs.responding.next_response.Goals as goal

pub returns-in-Ok-respond-clause-turn : goal.returns-in-Ok-respond-clause-turn
returns-in-Ok-respond-clause-turn g c =
    let old = c.args.conn.now in
    let mid = c.in-Ok.inflow.conn.now in
    let new = c.respond.new.inflow.conn.now in
    let same : c.conn-1.given.0 ≡ new = search rules in
    let setting = setting_of c.args.setting.now.policy.now c.args.setting.now.now in
    let head = c.in-Ok.ensures.head in
    from_weaker g.S.State c.args.store.now c.respond.new.store _ _
    (λ world done.
    let it = done (waiting old ++ head.read) head.head head.at head.begins head.size in rw same (
      head.read ++ it.0,
      Consumes-trans (g.R.Source.left (source_of old)) (g.R.Source.left (source_of mid)) (g.R.Source.left (source_of new)) head.read it.0 head.consumes it.1,
      subst (λ (bytes : List ℕ). IsResponse g.S.State setting bytes (waiting new) world c.args.store.now c.respond.new.store c.in-Ok-respond.response) (append_assoc (waiting old) head.read it.0) it.2,
    )) c.in-Ok-respond.ensures.turn

pub returns-in-Err-Ended-clause-turn : goal.returns-in-Err-Ended-clause-turn
returns-in-Err-Ended-clause-turn g c =
    let old = c.args.conn.now in
    let mid = c.in-Ok.inflow.conn.now in
    let new = c.respond.new.inflow.conn.now in
    let same : c.conn-in-Err-Ended-1.given.0 ≡ new = search rules in
    let setting = setting_of c.args.setting.now.policy.now c.args.setting.now.now in
    let head = c.in-Ok.ensures.head in
    from_weaker g.S.State c.args.store.now c.respond.new.store _ _
    (λ world done.
    let it = done (waiting old ++ head.read) head.head head.at head.begins head.size in rw same (
      head.read ++ it.0,
      Consumes-trans (g.R.Source.left (source_of old)) (g.R.Source.left (source_of mid)) (g.R.Source.left (source_of new)) head.read it.0 head.consumes it.1,
      subst (λ (bytes : List ℕ). IsIncomplete g.S.State setting bytes world c.args.store.now c.respond.new.store) (append_assoc (waiting old) head.read it.0) it.2,
    )) c.in-Err-Ended.ensures.turn

pub returns-in-Ok-clause-turn : goal.returns-in-Ok-clause-turn
returns-in-Ok-clause-turn g c =
    let old = c.args.conn.now in
    let mid = c.in-Ok.inflow.conn.now in
    let new = c.respond.new.inflow.conn.now in
    let same : c.conn-in-Ok-1.given.0 ≡ new = search rules in
    let setting = setting_of c.args.setting.now.policy.now c.args.setting.now.now in
    let head = c.in-Ok.ensures.head in
    from_weaker g.S.State c.args.store.now c.respond.new.store _ _
    (λ world done.
    let it = done (waiting old ++ head.read) head.head head.at head.begins head.size in rw same (
      head.read ++ it.0,
      Consumes-trans (g.R.Source.left (source_of old)) (g.R.Source.left (source_of mid)) (g.R.Source.left (source_of new)) head.read it.0 head.consumes it.1,
      subst (λ (bytes : List ℕ). IsIncomplete g.S.State setting bytes world c.args.store.now c.respond.new.store) (append_assoc (waiting old) head.read it.0) it.2,
    )) c.in-Err-Device-respond.ensures.turn

pub returns-in-Err-Rule-clause-turn : goal.returns-in-Err-Rule-clause-turn
returns-in-Err-Rule-clause-turn g c = record {
  honest = λ k. k;
  each = λ honest world holds.
      let s = c.args.setting.now in
      let store = c.args.store.now in
      let stopped = rw (c.in-Err-Rule.is, c.in-Err-Rule.field-0-is) at c.next_head.follows.holds-at-none in
      let d : Denied = record { rule = c.in-Err-Rule.rule; allow = c.refusal.result.allow } in
      let reply = rw c.in-Err-Rule.field-0-is at c.refusal.ensures.reply in
      let refused = stop_refused (waiting c.args.conn.now ++ stopped.read) c.in-Err-Rule.rule d refl c.refusal.ensures.allow (rw stopped.kept at stopped.why c.requires.0 c.requires.1) in (
        stopped.read,
        stopped.consumes,
        refused_response g.S.State (setting_of s.policy.now s.now) (IsPolicy-policy_view s.policy.now) s.in_range world store store
            (waiting c.args.conn.now ++ stopped.read) (waiting c.next_head.follows.lender-at-none) refused.0 d c.refusal.result refused.1 (leads_none g.S.State store world holds)
            reply refl c.refusal.ensures.close,
      );
}
