use Rattle.desk.proofs.Prelude.{Ok, Err, refl, sym, subst, Rule, by_rule, is_upload_of, request_seen, setting_of, AnswersAll, ShowsIf}
use Rattle.desk.proofs.Bounded.{answer_bounded, answer_world}
use Rattle.desk.proofs.Early.{answered_after, denied_first, failed_first}
use Rattle.desk.proofs.Verdicts.{held_by, held_by_none}
use Rattle.desk.proofs.answering.answer.Goals as goal

pub returns-in-Ok : goal.returns-in-Ok
returns-in-Ok g c =
    let done : AnswersAll g.S.State g.B.Body (is_upload_of c.args.asked.now) (setting_of c.args.policy.now c.args.now) (request_seen c.args.asked.now) c.args.store.now c.answer_caller.new.store c.args.content.now c.answer_caller.new.content c.answer_caller.result =
    answered_after refl refl c.in-Ok.ensures
    (λ world called all asks size sized. (called.0, called.2, sym (held_by world (setting_of c.args.policy.now c.args.now) (request_seen c.args.asked.now size) called.0 called.1))) c.answer_caller.ensures in
    record { answered = done; world = answer_world c.args.policy.now c.args.now c.args.asked.now done; bounded = answer_bounded c.args.policy.now c.args.now c.args.asked.now done }

pub returns-in-Err-Rule : goal.returns-in-Err-Rule
returns-in-Err-Rule g c =
    let done : AnswersAll g.S.State g.B.Body (is_upload_of c.args.asked.now) (setting_of c.args.policy.now c.args.now) (request_seen c.args.asked.now) c.args.store.now c.caller.new.store c.args.content.now c.args.content.now (Ok c.refusal.result) =
    denied_first (g.met.B.Body.moves_none c.args.content.now) (by_rule c.in-Err-Rule.rule) c.refusal.result (rw c.in-Err-Rule.field-0-is at c.in-Err-Rule.ensures)
    (λ world refused all asks size sized. held_by_none world (setting_of c.args.policy.now c.args.now) (request_seen c.args.asked.now size) c.in-Err-Rule.rule refused)
    (subst (λ (r : Rule). ShowsIf (Err (by_rule r)) c.refusal.result) c.in-Err-Rule.rule-is c.refusal.ensures.shows) c.refusal.ensures.read in
    record { answered = done; world = answer_world c.args.policy.now c.args.now c.args.asked.now done; bounded = answer_bounded c.args.policy.now c.args.now c.args.asked.now done }

pub returns-in-Err-Store : goal.returns-in-Err-Store
returns-in-Err-Store g c =
    let done : AnswersAll g.S.State g.B.Body (is_upload_of c.args.asked.now) (setting_of c.args.policy.now c.args.now) (request_seen c.args.asked.now) c.args.store.now c.caller.new.store c.args.content.now c.args.content.now (Ok c.store_refused.result) =
    failed_first (g.met.B.Body.moves_none c.args.content.now) c.store_refused.result c.in-Err-Store.ensures c.store_refused.ensures.shows c.store_refused.ensures.read in
    record { answered = done; world = answer_world c.args.policy.now c.args.now c.args.asked.now done; bounded = answer_bounded c.args.policy.now c.args.now c.args.asked.now done }
