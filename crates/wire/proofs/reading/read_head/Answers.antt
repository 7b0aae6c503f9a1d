use Rattle.wire.proofs.Prelude.{arith, sym, subst, front, MayGoOn}
use Rattle.wire.proofs.Buffers.{none_more}
use Rattle.wire.proofs.reading.read_head.Goals as goal

pub returns-in-Ok-eq0-clause-halt : goal.returns-in-Ok-eq0-clause-halt
returns-in-Ok-eq0-clause-halt g c =
    let may = c.in-Unfinished.ensures.cut in
    let read = c.in-Ok-eq0.ensures.read in
    let same = none_more (front c.reading.buffer) (front c.fill.new.self) read.0 read.1 (omega (arith, read.2)) in
    (subst MayGoOn (sym same) may, c.in-Ok-eq0.ensures.ended (omega arith) may.0.short)
