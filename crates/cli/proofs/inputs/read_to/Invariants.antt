use Rattle.std.specs.Io.KnownBytes.{Consumes}
use Rattle.cli.proofs.inputs.read_to.Given as goal

-- the bytes so far are those that were read
abbrev pub invariant-pieces : goal.invariant-pieces
invariant-pieces g l = Consumes (g.R.Source.left l.fn.source) (g.R.Source.left l.source) l.bytes.items
