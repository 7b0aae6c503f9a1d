use Rattle.std.proofs.Common.{◌≡◌}
use Rattle.std.specs.Prelude.{List}
use Rattle.control.specs.Replies.{Piece}
use Rattle.cli.specs.Asked.{ArePrinted}
use Rattle.cli.proofs.via.Printing.print_rest.Given as goal

-- pieces were read and printed
abbrev pub invariant-frames : goal.invariant-frames
invariant-frames g l = record {
  printed : (pieces : List Piece) × ArePrinted (g.R.Source.left l.fn.source) (g.R.Source.left l.source) l.self.destination (g.K.Sink.taken l.fn.output) (g.K.Sink.taken l.output) pieces;
  good : g.K.Sink.failed l.output ≡ g.K.Sink.failed l.fn.output;
}
