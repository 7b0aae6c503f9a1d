use Rattle.desk.proofs.Prelude.{Ok, Err, err_from_is_err_and}
use Rattle.desk.proofs.Arriving.{ended}
use Rattle.desk.proofs.slices.end.Goals as goal

pub returns-in_err-settle : goal.returns-in_err-settle
returns-in_err-settle g c =
    let it = c.in_ok-arrival.ensures in
    let p = err_from_is_err_and c.from_residual-in_err-settle.result c.from_residual-in_err-settle.ensures.1 in
    rw (p.1, p.2) (ended g.S.State c.args.intake c.args.upload c.in_ok-arrival.arrival it.named it.whole c.args.store.now c.settle.new.store (Err c.in_err-settle.field-0.0) c.in_err-settle.ensures)

pub returns : goal.returns
returns g c =
    let it = c.in_ok-arrival.ensures in
    ended g.S.State c.args.intake c.args.upload c.in_ok-arrival.arrival it.named it.whole c.args.store.now c.settle.new.store (Ok c.in_ok-settle.field-0) c.in_ok-settle.ensures
