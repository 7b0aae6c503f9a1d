use Rattle.wire.proofs.Prelude.{length, refl}
use Rattle.wire.proofs.Wholes.{begins_back}
use Rattle.wire.proofs.write.write_each.Goals as goal

pub returns-in-Err-write_whole-clause-part : goal.returns-in-Err-write_whole-clause-part
returns-in-Err-write_whole-clause-part g c =
    begins_back (g.K.Sink.taken c.args.sink.now) (g.K.Sink.taken c.write_whole.new.sink) (g.K.Sink.taken c.write_whole-2.new.sink) c.args.front.now c.args.back.now
    c.in-Err-write_whole.fault.written (length c.args.front.now) refl c.in-Ok.ensures.ok c.in-Err-write_whole.ensures.part
