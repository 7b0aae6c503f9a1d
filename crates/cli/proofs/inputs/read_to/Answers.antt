use Rattle.std.proofs.KnownBytes.{Consumes-nil, Consumes-trans}
use Rattle.cli.proofs.inputs.read_to.Goals as goal

pub pieces-init : goal.pieces-init
pieces-init g c = rw c.new-bytes.ensures.items (Consumes-nil (g.R.Source.left c.args.source.now))

pub pieces-preserved : goal.pieces-preserved
pieces-preserved g c =
    rw c.in_ok-extend_from_slice-in-Ok.ensures.items
    (Consumes-trans (g.R.Source.left c.args.source.now) (g.R.Source.left c.pieces.source) (g.R.Source.left c.read.new.self) c.pieces.bytes.items _ c.pieces.invariant c.in-Ok.ensures.bytes.0)
