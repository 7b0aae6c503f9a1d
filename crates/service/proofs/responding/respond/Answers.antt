use Rattle.service.proofs.Prelude.{◌++◌, [], true, message, IsPolicy-policy_view, from_weaker, leads_none, waiting, head_more, moves_none, setting_of}
use Rattle.service.proofs.Bodies.{handed_none}
use Rattle.service.proofs.Messages.{head_refused, message_there}
use Rattle.service.proofs.Responses.{refused_response, unread_response}
use Rattle.service.proofs.responding.respond.Goals as goal

pub returns-in-Ok-clause-turn : goal.returns-in-Ok-clause-turn
returns-in-Ok-clause-turn g c =
    from_weaker g.S.State c.args.store.now c.answer_asked.new.store _ _
    (λ world done bytes h at begins size. done bytes h begins size (c.in-Ok.ensures h (c.head.ensures h at))) c.answer_asked.ensures.turn

pub returns-in-Err-Denied-clause-turn : goal.returns-in-Err-Denied-clause-turn
returns-in-Err-Denied-clause-turn g c = record {
  honest = λ k. k;
  each = λ honest world holds bytes h at begins size.
      let s = c.args.setting.now in
      let store = c.args.store.now in
      let old = c.args.inflow.now.conn.now in
      let d = c.in-Err-Denied.denied in
      let denied = rw c.in-Err-Denied.field-0-is at c.in-Err-Denied.ensures h (c.head.ensures h at) in
      let reply = rw c.in-Err-Denied.field-0-is at c.refusal.ensures.reply in
      let allow = rw c.in-Err-Denied.field-0-is at c.refusal.ensures.allow in
      let refused = head_refused (bytes ++ []) (waiting old ++ []) h d (head_more bytes h (waiting old) [] begins) denied in (
        [],
        (moves_none old).consumes,
        refused_response g.S.State (setting_of s.policy.now s.now) (IsPolicy-policy_view s.policy.now) s.in_range world store store
            (bytes ++ []) (waiting old) (message h [] true) d c.refusal.result refused (leads_none g.S.State store world holds)
            reply allow c.refusal.ensures.close,
      );
}

pub returns-in-Err-Denied-clause-handed : goal.returns-in-Err-Denied-clause-handed
returns-in-Err-Denied-clause-handed g c = ([], handed_none c.args.inflow.now.conn.now)

pub returns-in-Err-Memory-clause-handed : goal.returns-in-Err-Memory-clause-handed
returns-in-Err-Memory-clause-handed g c = ([], handed_none c.args.inflow.now.conn.now)

pub returns-in-Err-Memory-clause-turn : goal.returns-in-Err-Memory-clause-turn
returns-in-Err-Memory-clause-turn g c = record {
  honest = λ k. k;
  each = λ honest world holds bytes h at begins size.
      let s = c.args.setting.now in
      let store = c.args.store.now in
      let old = c.args.inflow.now.conn.now in
      let there = rw c.in-Err-Memory.field-0-is at c.in-Err-Memory.ensures h (c.head.ensures h at) in (
        [],
        (moves_none old).consumes,
        unread_response g.S.State (setting_of s.policy.now s.now) (IsPolicy-policy_view s.policy.now) s.in_range world store store
            (bytes ++ []) _ (waiting old) h there.0 _ _ c.store_refused.result there.1
            (message_there bytes (waiting old) [] h begins) (leads_none g.S.State store world holds)
            c.store_refused.ensures.reply c.store_refused.ensures.allow c.store_refused.ensures.close,
      );
}
