use Rattle.service.proofs.Prelude.{◌∙◌, ◌<◌, ◌++◌, ap, arith, length, length-append, sym, subst, option_map, Ok, Err, body_length, IsPolicy-policy_view, leads_none, waiting, None, head_more, is_upload_of, request_seen, setting_of, target_asked, IsAnsweredAs}
use Rattle.model.specs.Policy.{Repo, repo_named}
use Rattle.model.specs.Verdict.{desk_plan}
use Rattle.policy.specs.Values.{policy_view}
use Rattle.service.proofs.Bodies.{both_handed, content_of, cut_by, cut_off, left_open, not_memory, turned}
use Rattle.wire.specs.States.{body_left}
use Rattle.service.proofs.Messages.{body_is, cut_message, message_there}
use Rattle.service.proofs.Responses.{unread_incomplete, unread_response}
use Rattle.service.proofs.responding.answer_asked.Goals as goal

pub returns-in-Err-Memory-clause-turn : goal.returns-in-Err-Memory-clause-turn
returns-in-Err-Memory-clause-turn g c = record {
  honest = λ k. k;
  each = λ honest world holds bytes h begins size asks.
      let s = c.args.setting.now in
      let store = c.args.store.now in
      let old = c.args.inflow.now.conn.now in
      let out = c.body_before.ensures.part.1 in (
        out.read,
        out.moves.consumes,
        unread_response g.S.State (setting_of s.policy.now s.now) (IsPolicy-policy_view s.policy.now) s.in_range world store store
            (bytes ++ out.read) _ (waiting c.body_before.new.inflow.conn.now) h (target_asked c.args.asked.now) _ _ c.store_refused.result asks.target
            (message_there bytes (waiting old) out.read h begins) (leads_none g.S.State store world holds)
            c.store_refused.ensures.reply c.store_refused.ensures.allow c.store_refused.ensures.close,
      );
}

pub returns-in-Err-Body-clause-turn : goal.returns-in-Err-Body-clause-turn
returns-in-Err-Body-clause-turn g c = record {
  honest = λ k. k;
  each = λ honest world holds bytes h begins size asks.
      let s = c.args.setting.now in
      let store = c.args.store.now in
      let old = c.args.inflow.now.conn.now in
      let part = c.body_before.ensures.part in
      let out = part.1 in
      let short = c.in-Err-Body.ensures.cut in
      let cut = short.1 (λ e. not_memory _ (sym c.in-Err-Body.field-0-is ∙ e)) in
      let long = body_is h (target_asked c.args.asked.now) asks.target in
      let fewer : length (waiting old ++ out.read) < body_length h =
      omega (arith, ap length out.moves.order, length-append part.0 (waiting c.body_before.new.inflow.conn.now), ap length cut.1, cut.0, out.left, size, long) in (
        out.read,
        out.moves.consumes,
        unread_incomplete g.S.State (setting_of s.policy.now s.now) (IsPolicy-policy_view s.policy.now) s.in_range world store store
            (bytes ++ out.read) h c.args.asked.now _ asks short.0
            (cut_message (bytes ++ out.read) (waiting old ++ out.read) h (head_more bytes h (waiting old) out.read begins) fewer) (leads_none g.S.State store world holds),
      );
}

pub returns-in_default-clause-turn : goal.returns-in_default-clause-turn
returns-in_default-clause-turn g c = record {
  honest = λ k. k;
  each = λ honest world holds bytes h begins size asks.
      let s = c.args.setting.now in
      let store = c.args.store.now in
      let old = c.args.inflow.now.conn.now in
      let out = c.in-Ok.ensures.part.1 in (
        out.read,
        out.moves.consumes,
        unread_response g.S.State (setting_of s.policy.now s.now) (IsPolicy-policy_view s.policy.now) s.in_range world store store
            (bytes ++ out.read) _ (waiting c.body_before.new.inflow.conn.now) h (target_asked c.args.asked.now) _ _ c.store_refused-in_default.result asks.target
            (message_there bytes (waiting old) out.read h begins) (leads_none g.S.State store world holds)
            c.store_refused-in_default.ensures.reply c.store_refused-in_default.ensures.allow c.store_refused-in_default.ensures.close,
      );
}

pub returns-in_err-reply-clause-handed : goal.returns-in_err-reply-clause-handed
returns-in_err-reply-clause-handed g c =
    let part = c.in-Ok.ensures.part in
    let done = c.in_err-reply.ensures.answered in
    (part.0 ++ done.bytes, both_handed c.args.inflow.now.conn.now c.body_before.new.inflow.conn.now c.answer.new.content.conn.now part.0 done.bytes part.1 done.read.moves.1)

pub returns-clause-handed : goal.returns-clause-handed
returns-clause-handed g c =
    let part = c.in-Ok.ensures.part in
    let done = c.in_ok-reply.ensures.answered in
    (part.0 ++ done.bytes, both_handed c.args.inflow.now.conn.now c.body_before.new.inflow.conn.now c.answer.new.content.conn.now part.0 done.bytes part.1 done.read.moves.1)

pub returns-in_err-reply-clause-turn : goal.returns-in_err-reply-clause-turn
returns-in_err-reply-clause-turn g c =
    let s = c.args.setting.now in
    let a = c.args.asked.now in
    let part = c.in-Ok.ensures.part in
    let done = c.in_err-reply.ensures.answered in
    let wanted = c.to_desk-wanted.result in
    let made = c.to_desk-wanted.ensures in
    record {
      honest = done.answered.honest;
      each = λ honest world holds bytes h begins size asks.
          turned c.args.inflow.now.conn.now c.body_before.new.inflow.conn.now c.answer.new.content.conn.now g.S.State (setting_of s.policy.now s.now) (IsPolicy-policy_view s.policy.now) s.in_range world
          c.args.store.now c.answer.new.store a c.deref.result.now c.in-Ok-read_request.request wanted c.in-Ok-read_request.ensures made None part.0 part.1 (part.2 ∙ sym c.deref.ensures.value)
          (λ put. let is = c.in-Ok.ensures.upload put in (c.deref.ensures.value ∙ is.0, is.1)) c.in-Ok.ensures.whole
          done.bytes done.read.moves.1 done.read.size (Err c.in_err-reply.field-0.0) c.from_residual.result tt
          (λ none. let is = done.settled none in (is.0, ap (λ i. i.conn.now) is.1))
          (cut_off (content_of g.R.Source) c.body_before.new.inflow c.answer.new.content (Err c.in_err-reply.field-0.0) done.fault) (cut_by a c.in-Ok-read_request.request None c.in_err-reply.field-0.0 c.from_residual.result c.from_residual.ensures.1)
          (λ size sized. subst (λ n. IsAnsweredAs g.S.State (is_upload_of wanted) c.args.store.now c.answer.new.store world n (desk_plan world (setting_of s.policy.now s.now) (request_seen wanted size)) done.bytes (body_left c.answer.new.content.conn.now) (Err c.in_err-reply.field-0.0)) made.repo (done.answered.each honest world holds tt tt size sized))
          bytes h begins size asks;
    }

pub returns-clause-turn : goal.returns-clause-turn
returns-clause-turn g c =
    let s = c.args.setting.now in
    let a = c.args.asked.now in
    let part = c.in-Ok.ensures.part in
    let done = c.in_ok-reply.ensures.answered in
    let wanted = c.to_desk-wanted.result in
    let made = c.to_desk-wanted.ensures in
    record {
      honest = done.answered.honest;
      each = λ honest world holds bytes h begins size asks.
          turned c.args.inflow.now.conn.now c.body_before.new.inflow.conn.now c.answer.new.content.conn.now g.S.State (setting_of s.policy.now s.now) (IsPolicy-policy_view s.policy.now) s.in_range world
          c.args.store.now c.answer.new.store a c.deref.result.now c.in-Ok-read_request.request wanted c.in-Ok-read_request.ensures made c.named-repo.result part.0 part.1 (part.2 ∙ sym c.deref.ensures.value)
          (λ put. let is = c.in-Ok.ensures.upload put in (c.deref.ensures.value ∙ is.0, is.1)) c.in-Ok.ensures.whole
          done.bytes done.read.moves.1 done.read.size (Ok c.in_ok-reply.reply) (Ok c.response_with.result) (c.named-repo.ensures ∙ ap (λ n. option_map (λ (r : Repo). r.name) (repo_named n (policy_view s.policy.now))) c.as_str.ensures.value)
          (λ none. let is = done.settled none in (is.0, ap (λ i. i.conn.now) is.1))
          (cut_off (content_of g.R.Source) c.body_before.new.inflow c.answer.new.content (Ok c.in_ok-reply.reply) done.fault) c.response_with.ensures
          (λ size sized. subst (λ n. IsAnsweredAs g.S.State (is_upload_of wanted) c.args.store.now c.answer.new.store world n (desk_plan world (setting_of s.policy.now s.now) (request_seen wanted size)) done.bytes (body_left c.answer.new.content.conn.now) (Ok c.in_ok-reply.reply)) made.repo (done.answered.each honest world holds tt tt size sized))
          bytes h begins size asks;
    }

pub returns-clause-open : goal.returns-clause-open
returns-clause-open g c =
    let done = c.in_ok-reply.ensures.answered in
    left_open c.args.inflow.now.conn.now c.body_before.new.inflow.conn.now c.answer.new.content.conn.now c.args.asked.now c.deref.result.now c.in-Ok-read_request.request c.to_desk-wanted.result c.named-repo.result c.in_ok-reply.reply c.response_with.result
    c.in-Ok-read_request.ensures c.to_desk-wanted.ensures c.response_with.ensures c.in-Ok.ensures.whole (λ none. ap (λ i. i.conn.now) (done.settled none).1) done.whole
