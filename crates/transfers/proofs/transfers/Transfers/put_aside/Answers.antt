use Rattle.std.proofs.Common.{[], ◌∷◌, inl, inr, refl}
use Rattle.machine.specs.Calls.{observes}
use Rattle.machine.specs.Observations.{aside, closed}
use Rattle.machine.proofs.Called.{one_seen}
use Rattle.transfers.proofs.transfers.Transfers.put_aside.Goals as goal

pub returns-then-keep : goal.returns-then-keep
returns-then-keep g c =
    let kept = rw c.if-keep.true at c.keep.ensures in
    let client = c.args.due.client in
    let call = aside client c.args.due.transfer.number in
    (observes call ∷ [], one_seen g.M.Machine c.args.machine.now c.put_aside.new.self call c.put_aside.ensures, inl (kept.0, kept.1, (client, refl, refl)))

pub returns-else-keep : goal.returns-else-keep
returns-else-keep g c =
    let client = c.args.due.client in
    (observes (closed client) ∷ [], one_seen g.M.Machine c.args.machine.now c.close.new.self (closed client) c.close.ensures, inr (rw c.if-keep.false at c.keep.ensures, (client, refl, refl)))
