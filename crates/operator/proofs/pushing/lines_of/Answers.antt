use Rattle.operator.proofs.Prelude.{rules, ◌∙◌, ap, flat_map}
use Rattle.std.proofs.iter.Yields.{fronts}
use Rattle.std.proofs.lemmas.Iterator.{YieldsList-from_slice, YieldsList-from_zip, items_from_drains, zips}
use Rattle.operator.proofs.Pushed.{pair_line}
use Rattle.operator.proofs.pushing.lines_of.Goals as goal

pub returns : goal.returns
returns c =
    c.loop-path.invariant
    ∙ ap (flat_map (pair_line c.args.destination))
    (items_from_drains {steps = zips fronts fronts} {v = λ p. (p.0.now, p.1.now)} c.loop-path.yielded
    (c.loop-path.path-iterator, c.loop-path.yielded_by, λ _. (c.next.new.self, c.in-None.ensures.steps))
    (YieldsList-from_zip (YieldsList-from_slice c.args.paths.now (search rules)) (YieldsList-from_slice c.args.verdicts.now (search rules))))
