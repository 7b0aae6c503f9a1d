use Rattle.service.proofs.Prelude.{◌∙◌, [], ap, sym, subst, option_map, IsPolicy-policy_view, setting_of, IsAnsweredAs, request_seen, target_asked}
use Rattle.model.specs.Policy.{Repo, repo_named}
use Rattle.model.specs.Verdict.{desk_plan}
use Rattle.policy.specs.Values.{policy_view}
use Rattle.std.proofs.Common.{Ok, List, ℕ, length, true}
use Rattle.service.proofs.Answered.{sent}
use Rattle.service.proofs.Bounded.{turn_within}
use Rattle.service.proofs.Uploads.{all_there, put_ended, put_response, uploads_it}
use Rattle.service.proofs.underway.Upload.end.Goals as goal

pub returns-clause-ended : goal.returns-clause-ended
returns-clause-ended g c =
    let u = c.args.self in
    let policy = c.args.policy.now in
    let setting = setting_of policy u.moment in
    let old = c.args.store.now in
    let mid = c.finish-reply.new.store in
    let new = c.deliver.new.store in
    let answered = c.finish-reply.ensures.answered in
    let read = c.deliver.ensures.sent in
    let r = c.response_with-response.result in
    let made = c.to_desk-wanted.ensures in
    record {
      honest = λ k. answered.honest (read.same.was_honest k);
      each = λ honest world h bytes under none.
          let p = under.message in
          let part = under.part in
          let size = sym (all_there u.receiving.left (length part) u.receiving.size under.arrived.left none) ∙ under.size in
          let done = answered.each (read.same.was_honest honest) world h part (record { receiving = under.arrived; all = none; uploads = uploads_it u.asked u.request c.to_desk-wanted.result bytes part p made }) in
          let named = c.named-repo.ensures ∙ ap (λ n. option_map (λ (x : Repo). x.name) (repo_named n (policy_view policy))) c.as_str.ensures.value in
          let a = put_response g.S.State setting (IsPolicy-policy_view policy) u.in_range world old mid bytes part u.asked u.request c.to_desk-wanted.result p made size c.named-repo.result named c.finish-reply.result r c.response_with-response.ensures
          (subst (λ (n : List ℕ). IsAnsweredAs g.S.State true old mid world n (desk_plan world setting (request_seen c.to_desk-wanted.result (length part))) part 0 (Ok c.finish-reply.result)) made.repo done) in
          put_ended g.S.State setting bytes world old new (g.K.Sink.taken c.args.sink.now) (g.K.Sink.taken c.deliver.new.sink) _ _ c.deliver.result c.deliver.ensures.ends
          (sent g.S.State setting bytes [] world old mid new (g.K.Sink.taken c.args.sink.now) (g.K.Sink.taken c.deliver.new.sink) r c.deliver.result a read.same read.adds c.deliver.ensures.ends
          (read.each honest a.kept a.turn.takes.leads.holds a.given a.is_reply a.there));
    }

pub returns-clause-bounded : goal.returns-clause-bounded
returns-clause-bounded g c =
    let ended = returns-clause-ended g c in
    record {
      honest = ended.honest;
      each = λ honest world h bytes under none.
          let it = ended.each honest world h bytes under none in
          turn_within g.S.State (setting_of c.args.policy.now c.args.self.moment) world it.kept c.args.store.now c.deliver.new.store it.e h it.turn;
    }
