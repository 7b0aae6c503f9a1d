use Rattle.std.specs.Prelude.{◌≤◌, length}
use Rattle.std.specs.Io.KnownBytes.{Consumes}
use Rattle.cli.proofs.inputs.read_exactly.Given as goal

-- the bytes so far are those that were read, and no more than are wanted
abbrev pub invariant-pieces : goal.invariant-pieces
invariant-pieces g l = record {
  read : Consumes (g.R.Source.left l.fn.source) (g.R.Source.left l.source) l.bytes.items;
  few : length l.bytes.items ≤ l.size;
}
