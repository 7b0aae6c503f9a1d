-- Whether a push may be made, by the verdicts on its paths.
use Rattle.operator.proofs.Prelude.{◌≡◌, ◌∙◌, ◌++◌, ℕ, List, [], ◌∷◌, ap, refl, sym, shown, World, line, policy_view, IsPlain, TaskFault, flat_map, map, zip}
use Rattle.std.specs.List.{list_all}
use Rattle.std.proofs.lemmas.List.Folds.{list_all-map}
use Rattle.names.specs.Names.{path_text}
use Rattle.names.specs.declared.texts.LockPath.{LockPath}
use Rattle.model.specs.PushChecks as model
use Rattle.model.specs.PushChecks.{path_verdict, push_verdicts}
use Rattle.pushcheck.specs.Verdicts.{push_by, verdict_view}
use Rattle.pushcheck.specs.declared.verdicts.PushVerdict.{PushVerdict}
use Rattle.operator.specs.Lines.{verdict_line}
use Rattle.operator.specs.Printed.{verdict_lines}
use Rattle.operator.specs.Tasks.{IsPushFault, is_free, may_push_all}
use Rattle.operator.specs.declared.escapes.Destination.{Destination}
use Rattle.operator.specs.declared.faults.TaskFault.TheVariants.{Store, Token, NoCaller, NoObject, Memory, Output, Reported}
use Rattle.operator.specs.declared.pushing.Push.{Push}

-- a plain fault
pub plain_push : (world : World) (push : Push) (e : TaskFault) → IsPlain e → IsPushFault world push e
plain_push world push (Store f) plain = plain
plain_push world push Memory plain = plain
plain_push world push Output plain = plain
plain_push world push NoCaller plain = plain
plain_push world push NoObject plain = plain
plain_push world push (Token f) plain = plain
plain_push world push Reported plain = absurd plain

-- the push may be made if each verdict is good
pub may_push_is : (world : World) (push : Push) (verdicts : List PushVerdict)
    → map verdict_view verdicts ≡ push_verdicts (policy_view push.policy.now) world (push_by push.user.now push.repo.now push.ref_name.now) (map path_text push.paths.items)
    → may_push_all world push ≡ list_all (λ verdict. is_free (verdict_view verdict)) verdicts
may_push_is world push verdicts are = ap (list_all is_free) (sym are) ∙ list_all-map is_free verdict_view verdicts

-- the line with the verdict on a path
abbrev pub pair_line : Destination → LockPath × PushVerdict → List ℕ
pair_line destination p = line (shown destination (verdict_line (path_text p.0) (verdict_view p.1)))

-- the same of a verdict of the definitions
abbrev view_line : Destination → LockPath × model.PushVerdict → List ℕ
view_line destination p = line (shown destination (verdict_line (path_text p.0) p.1))

by_views : (destination : Destination) (paths : List LockPath) (verdicts : List PushVerdict)
    → flat_map (pair_line destination) (zip paths verdicts) ≡ flat_map (view_line destination) (zip paths (map verdict_view verdicts))
by_views destination [] verdicts = refl
by_views destination (path ∷ paths) [] = refl
by_views destination (path ∷ paths) (verdict ∷ verdicts) = ap (λ (rest : List ℕ). pair_line destination (path, verdict) ++ rest) (by_views destination paths verdicts)

by_paths : (destination : Destination) (judge : List ℕ → model.PushVerdict) (paths : List LockPath)
    → flat_map (view_line destination) (zip paths (map judge (map path_text paths))) ≡ flat_map (λ path. line (shown destination (verdict_line path (judge path)))) (map path_text paths)
by_paths destination judge [] = refl
by_paths destination judge (path ∷ paths) =
    ap (λ (rest : List ℕ). line (shown destination (verdict_line (path_text path) (judge (path_text path)))) ++ rest) (by_paths destination judge paths)

-- the lines of the paths with their verdicts are those of the push
pub verdicts_printed : (world : World) (destination : Destination) (push : Push) (verdicts : List PushVerdict)
    → map verdict_view verdicts ≡ push_verdicts (policy_view push.policy.now) world (push_by push.user.now push.repo.now push.ref_name.now) (map path_text push.paths.items)
    → flat_map (pair_line destination) (zip push.paths.items verdicts) ≡ verdict_lines destination world push
verdicts_printed world destination push verdicts are =
    let judge = path_verdict (policy_view push.policy.now) world (push_by push.user.now push.repo.now push.ref_name.now) in
    by_views destination push.paths.items verdicts
    ∙ ap (λ (views : List model.PushVerdict). flat_map (view_line destination) (zip push.paths.items views)) are
    ∙ by_paths destination judge push.paths.items
