use Rattle.std.specs.Prelude.{IfOk}
use Rattle.std.proofs.Common.{rules, ◌≡◌, ◌∙◌, ◌+◌, [], ◌∷◌, ◌++◌, map, subst, sym, take}
use Rattle.std.proofs.lemmas.List.{take_all}
use Rattle.refinement.proofs.ReadOnly.{reads_then, reads_weaker}
use Rattle.policy.specs.Values.{repo_view}
use Rattle.server.specs.Numbers.{AllStored}
use Rattle.server.proofs.Numbers.{none_ok, stored_more}
use Rattle.server.proofs.operators.OperatorContext.stored.Goals as goal

pub returns-in_err-stored_in : goal.returns-in_err-stored_in
returns-in_err-stored_in g c = reads_then g.S.State _ _ _ _ _ _ (λ world laws before more. none_ok _ _ c.from_residual.result c.from_residual.ensures.1) c.loop-repo.invariant c.stored_in.ensures

pub returns-then-is_err : goal.returns-then-is_err
returns-then-is_err g c = reads_then g.S.State _ _ _ _ _ _ (λ world laws before more. tt) c.loop-repo.invariant c.stored_in.ensures

pub loop-repo-preserved : goal.loop-repo-preserved
loop-repo-preserved g c =
    let repos = c.repos-repo-items.result.now in
    let repo = c.repo-item.result in
    let all = c.loop-repo.all.items in
    let stored = c.in_ok-stored_in.field-0 in
    let pushed : c.push.new.self.items ≡ all ++ stored ∷ [] = search rules in
    reads_then g.S.State _ _ _ _ _ _
    (λ world laws before more.
    subst (AllStored world (map repo_view (take (c.loop-repo.repo-index + 1) repos))) (sym pushed)
    (stored_more world repos c.loop-repo.repo-index repo all stored c.loop-repo-test.true c.repo-item.is before more)) c.loop-repo.invariant c.in_ok-stored_in.ensures

pub returns : goal.returns
returns g c =
    reads_weaker g.S.State _ _ _ _
    (λ world laws all. subst (λ repos. AllStored world repos c.loop-repo.all.items) c.repos-repo-items.ensures
    (subst (λ repos. AllStored world (map repo_view repos) c.loop-repo.all.items) (take_all c.loop-repo.repo-index c.repos-repo-items.result.now c.loop-repo-test.false) all)) c.loop-repo.invariant
