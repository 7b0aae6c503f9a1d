use Rattle.std.proofs.Common.{◌∙◌, [], ◌∷◌, Some, take, inl, refl, sym}
use Rattle.refinement.proofs.ReadOnly.{reads_weaker}
use Rattle.machine.specs.Calls.{idles, observes, seen_in}
use Rattle.machine.specs.Observations.{closed, told}
use Rattle.machine.proofs.Called.{calls_append, one_idle, one_seen}
use Rattle.transfers.specs.Transfers.{owed_by, owed_in}
use Rattle.transfers.proofs.Told.{left_none, left_same, left_some, sent_told}
use Rattle.transfers.proofs.transfers.Transfers.send.Goals as goal

pub returns-in_default : goal.returns-in_default
returns-in_default g c =
    let client = c.args.due.client in
    reads_weaker g.S.State c.args.store.now c.next.new.store _ _
    (λ world laws found. (observes (closed client) ∷ [], one_seen g.M.Machine c.args.machine.now c.cut_off.new.machine (closed client) c.cut_off.ensures, inl (refl, (client, refl, refl))))
    c.next.ensures.next

pub returns-in_default-tell : goal.returns-in_default-tell
returns-in_default-tell g c =
    let client = c.tell.new.client in
    reads_weaker g.S.State c.args.store.now c.next.new.store _ _
    (λ world laws found. (
      idles ∷ observes (closed client) ∷ [],
      calls_append g.M.Machine c.args.machine.now c.tell.new.self _ (idles ∷ []) (observes (closed client) ∷ [])
          (one_idle g.M.Machine c.args.machine.now c.tell.new.self c.in_default-tell.ensures.none)
          (one_seen g.M.Machine c.tell.new.self _ (closed client) c.cut_off-in_default-tell.ensures),
      inl (refl, (client, c.tell.ensures.number, refl)),
    ))
    c.next.ensures.next

pub returns-then-is_over : goal.returns-then-is_over
returns-then-is_over g c =
    let due = c.args.due in
    let bytes = c.in-Some.bytes.items in
    let count = c.in-Some-tell.count in
    let told_is = rw c.as_slice.ensures.value at c.in-Some-tell.ensures.some in
    let over = sym c.is_over-is_over.ensures ∙ c.if-is_over.true in
    reads_weaker g.S.State c.args.store.now c.next.new.store _ _
    (λ world laws next. (
      observes (told due.client (take count bytes)) ∷ idles ∷ [],
      calls_append g.M.Machine c.args.machine.now c.tell.new.self c.finish.new.machine (observes (told due.client (take count bytes)) ∷ []) (idles ∷ [])
          (one_seen g.M.Machine c.args.machine.now c.tell.new.self (told due.client (take count bytes)) told_is.1)
          (one_idle g.M.Machine c.tell.new.self c.finish.new.machine c.finish.ensures),
      sent_told due.client (owed_by due.transfer) (owed_in c.args.self.now) (owed_in c.args.self.now) world bytes count c.advance.new.self [] told_is.0 next c.advance.ensures.advanced
          (left_none due.client due.transfer.number c.advance.new.self (owed_in c.args.self.now) over),
    ))
    c.in-Some.ensures.next

pub returns : goal.returns
returns g c =
    let due = c.args.due in
    let bytes = c.in-Some.bytes.items in
    let count = c.in-Some-tell.count in
    let told_is = rw c.as_slice.ensures.value at c.in-Some-tell.ensures.some in
    let more = sym c.is_over-is_over.ensures ∙ c.if-is_over.false in
    let kept = c.put_aside-end.ensures in
    let left = left_same due.client c.tell.new.client due.transfer.number (Some c.advance.new.self) (owed_in c.args.self.now) (owed_in c.put_aside-end.new.self) (seen_in kept.0) c.tell.ensures.number kept.2 in
    reads_weaker g.S.State c.args.store.now c.next.new.store _ _
    (λ world laws next. (
      observes (told due.client (take count bytes)) ∷ kept.0,
      calls_append g.M.Machine c.args.machine.now c.tell.new.self c.put_aside-end.new.machine (observes (told due.client (take count bytes)) ∷ []) kept.0
          (one_seen g.M.Machine c.args.machine.now c.tell.new.self (told due.client (take count bytes)) told_is.1)
          kept.1,
      sent_told due.client (owed_by due.transfer) (owed_in c.args.self.now) (owed_in c.put_aside-end.new.self) world bytes count c.advance.new.self (seen_in kept.0) told_is.0 next c.advance.ensures.advanced
          (left_some due.client due.transfer.number c.advance.new.self (owed_in c.args.self.now) (owed_in c.put_aside-end.new.self) (seen_in kept.0) more left),
    ))
    c.in-Some.ensures.next
