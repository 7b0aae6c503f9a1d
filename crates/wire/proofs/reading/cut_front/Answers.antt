use Rattle.wire.proofs.Prelude.{arith, length-take, front}
use Rattle.wire.proofs.Found.{cut_found}
use Rattle.wire.proofs.reading.cut_front.Goals as goal

pub returns-clause-cut : goal.returns-clause-cut
returns-clause-cut c =
    let b = c.args.buffer.now in
    cut_found c.front.result.now (front b) c.first_head.new.fields c.first_head.result c.front.ensures
    (omega (arith, length-take b.end b.bytes.items, b.fits)) c.first_head.ensures.cut
