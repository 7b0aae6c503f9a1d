use Rattle.std.proofs.Common.{arith, ◌<◌, ◌-◌, ◌+◌, ◌++◌, ◌∙◌, sym, length, drop, length-take, length-append, length-drop}
use Rattle.names.proofs.Capped.{capped_read, read_known}
use Rattle.names.specs.Streams.{most_handed_out}
use Rattle.names.proofs.counted.CountedSource.read.Goals as goal

pub returns-clause-bytes : goal.returns-clause-bytes
returns-clause-bytes g c =
    let n = c.in_ok-n.n in
    let room = most_handed_out - c.args.self.now.handed_out in
    let rest = most_handed_out - (c.count_read.new.self.handed_out + n) in
    let old = g.R.Read.remaining c.args.self.now.inner in
    let new = g.R.Read.remaining c.read-reported.new.self in
    let buf = c.read-reported.new.buf in
    let back = drop c.min-size.result c.args.piece.now in
    let counted = c.count_read.ensures in
    let known = read_known c.read-reported.result n old new buf (sym counted.result ∙ c.in_ok-n.was) c.read-reported.ensures.bound c.read-reported.ensures.bytes in
    let cut = c.read-reported.auto.buf ∙ length-take c.min-size.result c.args.piece.now in
    let has_room : 0 < length (buf ++ back) → 0 < length buf =
    λ some. omega (arith, some, cut, length-append buf back, length-drop c.min-size.result c.args.piece.now) in
    rw counted.device (capped_read room n rest old new buf back
    (omega (arith, counted.handed_out)) (omega (arith, cut, known.0)) known.0 has_room known.1)
