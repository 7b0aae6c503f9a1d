use Rattle.std.proofs.KnownBytes.{Appends-nil}
use Rattle.cli.proofs.Asked.{shown_none}
use Rattle.cli.proofs.via.Printing.print_piece.Goals as goal

pub returns-in-Errors-2-clause-printed : goal.returns-in-Errors-2-clause-printed
returns-in-Errors-2-clause-printed g c = rw (c.in-Errors-2.is, shown_none c.args.self.destination) (Appends-nil (g.K.Sink.taken c.args.output.now))

pub returns-in-Progress-clause-printed : goal.returns-in-Progress-clause-printed
returns-in-Progress-clause-printed g c = rw (c.in-Progress.is, shown_none c.args.self.destination) (Appends-nil (g.K.Sink.taken c.args.output.now))
