use Rattle.wire.proofs.Prelude.{◌≤◌, length, arith}
use Rattle.model.specs.Heads.{lengths}
use Rattle.wire.proofs.Lengths.{stated_some, stated_none}
use Rattle.wire.proofs.head.Head.stated_length.Goals as goal

pub returns-in-Some : goal.returns-in-Some
returns-in-Some c head s =
    let one : length (lengths head) ≤ 1 = omega (arith, c.count.ensures head s, c.if-count-gt1.false) in
    stated_some (lengths head) c.in-Some.value.now c.length_in.result one (c.in-Some.ensures head s) c.length_in.ensures

pub returns-in-None : goal.returns-in-None
returns-in-None c head s =
    let one : length (lengths head) ≤ 1 = omega (arith, c.count.ensures head s, c.if-count-gt1.false) in
    stated_none (lengths head) one (c.in-None.ensures head s)
