use Rattle.std.proofs.Common.{arith, ◌∙◌, ap, length, length-drop}
use Rattle.names.proofs.Wholes.{appends_rest}
use Rattle.names.proofs.writing.write_whole.Goals as goal

pub pieces-preserved : goal.pieces-preserved
pieces-preserved g c = record {
  within = omega (arith, c.in-Ok.ensures.within, ap length c.rest_of.ensures, length-drop c.pieces.at c.args.text.now);
  taken = appends_rest (g.K.Sink.taken c.args.sink.now) (g.K.Sink.taken c.pieces.sink) (g.K.Sink.taken c.write.new.self) c.args.text.now c.rest_of.result.now c.pieces.at c.in-Ok.n c.rest_of.ensures c.pieces.invariant.taken c.in-Ok.ensures.bytes;
  good = c.in-Ok.ensures.good ∙ c.pieces.invariant.good;
}
