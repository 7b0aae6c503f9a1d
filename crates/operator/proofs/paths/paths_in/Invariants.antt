use Rattle.operator.proofs.Prelude.{◌≡◌, map}
use Rattle.names.specs.Names.{path_text}
use Rattle.operator.proofs.paths.paths_in.Given as goal

-- the paths are the lines so far
abbrev pub invariant-loop-line : goal.invariant-loop-line
invariant-loop-line l = map path_text l.paths.items ≡ map (λ line. line.now) l.yielded
