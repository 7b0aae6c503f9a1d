use Rattle.std.proofs.Common.{arith}
use Rattle.std.proofs.KnownBytes.{Consumes-nil}
use Rattle.cli.proofs.inputs.read_exactly.Goals as goal

pub pieces-init : goal.pieces-init
pieces-init g c = record { read = rw c.new-bytes.ensures.items (Consumes-nil (g.R.Source.left c.args.source.now)); few = rw c.new-bytes.ensures.items (omega arith) }
