use Rattle.operator.proofs.Prelude.{text_of, ◌≡◌, flat_map, map}
use Rattle.operator.proofs.Pushed.{pair_line}
use Rattle.operator.proofs.pushing.lines_of.Given as goal

abbrev pub invariant-loop-path : goal.invariant-loop-path
invariant-loop-path l = text_of l.lines ≡ flat_map (pair_line l.fn.destination) (map (λ p. (p.0.now, p.1.now)) l.yielded)
