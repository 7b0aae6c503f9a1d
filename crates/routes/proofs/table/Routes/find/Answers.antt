use Rattle.routes.proofs.Prelude.{None, Some, ◌∙◌, drop, refl, slice_get, parts}
use Rattle.routes.proofs.Targets.{by_parts, no_resource, no_git, with_git}
use Rattle.routes.proofs.table.Routes.find.Goals as goal

pub returns-in_default : goal.returns-in_default
returns-in_default c =
    let cut = parts c.path_of-path.result.now in
    by_parts c.args.target.now c.path_of-path.result.now None (slice_get cut 1) (slice_get cut 2) c.utf8.target c.path_of-path.ensures c.in_default.ensures refl refl
    ∙ no_resource (drop 3 cut) (slice_get cut 1) (slice_get cut 2)

pub returns-in-None : goal.returns-in-None
returns-in-None c =
    by_parts c.args.target.now c.path_of-path.result.now (Some c.in-Some.resource) (Some c.in-Some-part_at.owner.now) (Some c.in-Some-part_at-2.part.now)
    c.utf8.target c.path_of-path.ensures c.in-Some.ensures c.in-Some-part_at.ensures c.in-Some-part_at-2.ensures
    ∙ no_git (drop 3 (parts c.path_of-path.result.now)) c.in-Some.resource c.in-Some-part_at.owner.now c.in-Some-part_at-2.part.now c.in-None.ensures

pub returns-in-Some-without_git : goal.returns-in-Some-without_git
returns-in-Some-without_git c =
    by_parts c.args.target.now c.path_of-path.result.now (Some c.in-Some.resource) (Some c.in-Some-part_at.owner.now) (Some c.in-Some-part_at-2.part.now)
    c.utf8.target c.path_of-path.ensures c.in-Some.ensures c.in-Some-part_at.ensures c.in-Some-part_at-2.ensures
    ∙ with_git (drop 3 (parts c.path_of-path.result.now)) c.in-Some.resource c.in-Some-part_at.owner.now c.in-Some-part_at-2.part.now c.in-Some-without_git.name.now c.parameter_in.result.now c.in-Some-without_git.ensures.0 c.in-Some-without_git.ensures.1 c.parameter_in.ensures
