use Rattle.wire.proofs.Prelude.{arith, take, length-append}
use Rattle.std.proofs.Common.{length-take-le}
use Rattle.wire.proofs.Buffers.{read_at}
use Rattle.wire.proofs.buffer.read_after.Goals as goal

pub returns-in-Ok-clause-read : goal.returns-in-Ok-clause-read
returns-in-Ok-clause-read g c = (
  take c.in-Ok.count c.read.new.piece,
  simp length-append (omega (arith, length-take-le c.args.end c.args.bytes.now c.requires, c.in-Ok.ensures.within)),
  read_at c.args.bytes.now c.read.new.piece _ c.args.end c.in-Ok.count c.requires c.in-Ok.ensures.within,
  length-take-le c.in-Ok.count c.read.new.piece c.in-Ok.ensures.within,
  c.in-Ok.ensures.bytes.0,
)
