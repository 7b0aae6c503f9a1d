use Rattle.std.proofs.Common.{rules, ◌≡◌, ◌∙◌, map, ap, ap₂}
use Rattle.std.proofs.lemmas.List.{take_all}
use Rattle.std.proofs.lemmas.Result.{err_from_is_err_and}
use Rattle.names.specs.Names.{path_text}
use Rattle.model.specs.PushChecks as model
use Rattle.model.specs.PushChecks.{path_verdict, push_verdicts}
use Rattle.policy.specs.declared.policies.Policy.{Policy}
use Rattle.policy.specs.Values.{policy_view}
use Rattle.refinement.proofs.ReadOnly.{reads_then, reads_weaker}
use Rattle.pushcheck.specs.Verdicts.{push_by, push_view, verdict_view}
use Rattle.pushcheck.proofs.Growing.{one_more}
use Rattle.pushcheck.proofs.checking.check.Goals as goal

pub loop-path-preserved : goal.loop-path-preserved
loop-path-preserved g c =
    let policy = c.args.policy.now in
    let asked = push_by c.args.user.now c.args.repo.now c.args.ref_name.now in
    let push = c.in_ok-push.push in
    let path = path_text c.path-item.result in
    reads_then g.S.State c.args.store.now c.loop-path.store c.verdict_on.new.store _
    (λ world. verdict_view c.in_ok-verdict.verdict ≡ path_verdict (policy_view push.rows.policy.now) world (push_view push) path) _
    (λ world laws before one.
    let is = one ∙ ap₂ (λ (p : Policy) (pushed : model.Push). path_verdict (policy_view p) world pushed path) c.in_ok-push.ensures.policy c.in_ok-push.ensures.push in
    one_more path_text verdict_view (path_verdict (policy_view policy) world asked) c.args.paths.now
    c.loop-path.path-index c.path-item.result c.in_ok-verdict.verdict c.loop-path.verdicts.items c.push.new.self.items c.loop-path-test.true c.path-item.is is before (search rules))
    c.loop-path.invariant c.in_ok-verdict.ensures

pub returns : goal.returns
returns g c =
    reads_weaker g.S.State c.args.store.now c.loop-path.store _ _
    (λ world laws all.
    all
    ∙ ap (λ paths. push_verdicts (policy_view c.args.policy.now) world (push_by c.args.user.now c.args.repo.now c.args.ref_name.now) (map path_text paths))
    (take_all c.loop-path.path-index c.args.paths.now c.loop-path-test.false))
    c.loop-path.invariant

pub returns-in_err-verdict : goal.returns-in_err-verdict
returns-in_err-verdict g c =
    let p = err_from_is_err_and c.from_residual-in_err-verdict.result c.from_residual-in_err-verdict.ensures.1 in
    reads_then g.S.State c.args.store.now c.loop-path.store c.verdict_on.new.store _ _ _
    (λ world laws before one. rw p.1 tt) c.loop-path.invariant c.verdict_on.ensures

pub returns-in_err-map_err : goal.returns-in_err-map_err
returns-in_err-map_err g c =
    reads_then g.S.State c.args.store.now c.loop-path.store c.verdict_on.new.store _ _ _
    (λ world laws before one. search rules) c.loop-path.invariant c.verdict_on.ensures
