use Rattle.std.proofs.Common.{◌≡◌, map, take}
use Rattle.names.specs.Names.{path_text}
use Rattle.model.specs.PushChecks.{push_verdicts}
use Rattle.policy.specs.Values.{policy_view}
use Rattle.refinement.specs.Left.{Reads}
use Rattle.pushcheck.specs.Verdicts.{push_by, verdict_view}
use Rattle.pushcheck.proofs.checking.check.Given as goal

abbrev pub invariant-loop-path : goal.invariant-loop-path
invariant-loop-path g l =
    Reads g.S.State l.fn.store l.store (λ world.
    map verdict_view l.verdicts.items
    ≡ push_verdicts (policy_view l.policy) world (push_by l.user l.repo l.ref_name) (map path_text (take l.path-index l.paths)))
