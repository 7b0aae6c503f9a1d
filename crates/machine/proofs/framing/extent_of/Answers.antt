use Rattle.std.proofs.Common.{inl, inr}
use Rattle.machine.proofs.framing.extent_of.Goals as goal

pub returns-in-Ok : goal.returns-in-Ok
returns-in-Ok c =
    let cut = c.in-Head.ensures.cut in
    let framed = c.body_length.ensures cut.0 (c.new-head.ensures cut.0 (rw c.front_of.ensures cut.2)) in
    let found = rw c.in-Ok.is at framed in
    (cut.0, cut.1, found.0, found.1)

pub returns-in-Err : goal.returns-in-Err
returns-in-Err c =
    let cut = c.in-Head.ensures.cut in
    let framed = c.body_length.ensures cut.0 (c.new-head.ensures cut.0 (rw c.front_of.ensures cut.2)) in
    inr (record { head = cut.0; rest = _; rule = _; begins = cut.1; refused = rw c.in-Err.is at framed })

pub returns-in-Bad : goal.returns-in-Bad
returns-in-Bad c = inl c.in-Bad.ensures.cut

pub returns-in-Unfinished : goal.returns-in-Unfinished
returns-in-Unfinished c =
    let cut = c.in-Unfinished.ensures.cut in
    (record { none = cut.0; short = cut.1 }, cut.2)
