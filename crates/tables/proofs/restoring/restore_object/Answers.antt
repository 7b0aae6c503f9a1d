use Rattle.tables.proofs.Prelude.{◌≡◌, false, Ok, refl, rules, upload_number}
use Rattle.tables.specs.Restoring.{has_upload, with_restored}
use Rattle.tables.proofs.Calls.{transacts_from, does_on}
use Rattle.tables.proofs.restoring.restore_object.Goals as goal

pub returns : goal.returns
returns g c =
    let step = with_restored c.args.object.now (upload_number c.args.id) c.args.chunk in
    let begun = c.transaction-tx.result.conn.now in
    let last = c.object_into.new.tx.conn.now in
    let did = c.in_ok-object_into.ensures.does in
    let it = transacts_from g.S.Store c.args.conn.now begun last c.finish_with.new.tx.0 c.finish_with.result tt c.transaction-tx.ensures.begun c.finish_with.ensures.finishes step (λ t _. has_upload (upload_number c.args.id) t ≡ false)
    (c.if-not-is_autocommit.ensures.settled refl) (g.met.S.Store.settled c.finish_with.new.tx.0.store)
    c.in_ok-object_into.ensures.value (does_on g.S.Store begun last (Ok tt) step did) c.finish_with.ensures.answer in
    search (rules, it)
