use Rattle.desk.proofs.Prelude.{Ok, Err, World, placed_verdict, reads_lead, Memory}
use Rattle.desk.proofs.Making.{held_done, made_done, unreported, used_done}
use Rattle.desk.proofs.Verdicts.{passed_on, refused_early, then_answers}
use Rattle.desk.proofs.locking.make_lock.Goals as goal

pub returns-in-Ok : goal.returns-in-Ok
returns-in-Ok g c =
    let wanted = c.args.wanted.now in
    let done = c.in-Ok.ensures in
    then_answers g.S.State (λ world. placed_verdict world wanted) (Ok c.in_ok-ready.ready) c.in_ok-made.ensures done.honest
    (λ k world h count. made_done g.S.State c.made.new.store c.create.new.store world wanted c.in_ok-made.made count c.in_ok-ready.ready c.in_ok-ready.ensures c.in-Ok.field-0 (done.each k world h))

pub returns-in-Err-UsedUp : goal.returns-in-Err-UsedUp
returns-in-Err-UsedUp g c =
    let wanted = c.args.wanted.now in
    let used = rw c.in-Err-UsedUp.field-0-is at c.in-Err-UsedUp.ensures in
    then_answers g.S.State (λ world. placed_verdict world wanted) (Ok c.in_ok-ready.ready) c.in_ok-made.ensures used.honest
    (λ k world h count. used_done g.S.State c.made.new.store c.create.new.store world wanted c.in_ok-made.made count c.in_ok-ready.ready c.in_ok-ready.ensures (used.each k world h))

pub returns-in_ok-held_reply-in-Err-Held : goal.returns-in_ok-held_reply-in-Err-Held
returns-in_ok-held_reply-in-Err-Held g c =
    let wanted = c.args.wanted.now in
    let reply = c.in_ok-held_reply-in-Err-Held in
    let held = rw c.in-Err-Held.field-0-is at c.in-Err-Held.ensures in
    then_answers g.S.State (λ world. placed_verdict world wanted) (Ok reply.field-0) c.in_ok-made.ensures held.honest
    (λ k world h count. held_done g.S.State c.made.new.store c.create.new.store world wanted c.in-Err-Held.lock (held.each k world h) reply.field-0 reply.ensures)

pub returns-in_err-held_reply-in-Err-Held : goal.returns-in_err-held_reply-in-Err-Held
returns-in_err-held_reply-in-Err-Held g c =
    let wanted = c.args.wanted.now in
    let mid = c.made.new.store in
    let new = c.create.new.store in
    let residual = c.from_residual-in_err-held_reply-in-Err-Held in
    let held = rw c.in-Err-Held.field-0-is at c.in-Err-Held.ensures in
    then_answers g.S.State (λ world. placed_verdict world wanted) residual.result c.in_ok-made.ensures held.honest
    (λ k world h count. let done = held.each k world h in passed_on g.S.State mid new world _ Memory residual.result residual.ensures.1 (unreported g.S.State mid new world wanted c.in-Err-Held.lock done) done.1)

pub returns-in-Err-Store : goal.returns-in-Err-Store
returns-in-Err-Store g c =
    let wanted = c.args.wanted.now in
    let refused = rw c.in-Err-Store.field-0-is at c.in-Err-Store.ensures in
    then_answers g.S.State (λ world. placed_verdict world wanted) (Err c.into.result) c.in_ok-made.ensures refused.honest
    (λ k world h count. let done = refused.each k world h in passed_on g.S.State c.made.new.store c.create.new.store world _ c.in-Err-Store.fault (Err c.into.result) c.into.ensures done.0 done.1)

pub returns-in_err-ready : goal.returns-in_err-ready
returns-in_err-ready g c =
    let made = c.in_ok-made.ensures in
    record {
      honest = λ k. made.same.was_honest k;
      each = λ honest world h.
          refused_early g.S.State c.args.store.now c.made.new.store world _ _ c.from_residual-in_err-ready.result c.from_residual-in_err-ready.ensures.1 (reads_lead g.S.State c.args.store.now c.made.new.store _ world made h) made.same;
    }

pub returns-in_err-made : goal.returns-in_err-made
returns-in_err-made g c =
    let made = c.in_err-made.ensures in
    record {
      honest = λ k. made.same.was_honest k;
      each = λ honest world h. refused_early g.S.State c.args.store.now c.made.new.store world _ _ c.from_residual.result c.from_residual.ensures.1 (reads_lead g.S.State c.args.store.now c.made.new.store _ world made h) made.same;
    }
