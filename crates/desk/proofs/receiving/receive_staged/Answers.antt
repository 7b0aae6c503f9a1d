use Rattle.desk.proofs.Prelude.{Ok, Err, err_from_is_err_and}
use Rattle.desk.proofs.Arriving.{staged_part, staged_all}
use Rattle.desk.proofs.receiving.receive_staged.Goals as goal

pub returns-in_err-arrival-clause-bytes : goal.returns-in_err-arrival-clause-bytes
returns-in_err-arrival-clause-bytes g c =
    let filled = c.in_err-arrival.ensures.bytes in
    let p = err_from_is_err_and c.from_residual.result c.from_residual.ensures.1 in
    rw p.1 (
      filled.0,
      filled.1,
      staged_part g.S.State c.args.store.now c.args.upload c.args.size c.fill.new.store filled.0 (g.B.Body.size c.fill.new.content) (Err c.in_err-arrival.field-0.0) p.0 filled.2,
    )

pub returns-in_err-settle-clause-bytes : goal.returns-in_err-settle-clause-bytes
returns-in_err-settle-clause-bytes g c =
    let filled = c.in_ok-arrival.ensures.bytes in
    let p = err_from_is_err_and c.from_residual-in_err-settle.result c.from_residual-in_err-settle.ensures.1 in
    rw (p.1, p.2) (
      filled.0,
      filled.1,
      staged_all g.S.State c.args.store.now c.args.upload c.args.size c.fill.new.store c.settle.new.store filled.0 (g.B.Body.size c.fill.new.content) c.in_ok-arrival.arrival (Err c.in_err-settle.field-0.0)
          c.in_ok-arrival.ensures.whole.whole filled.2 c.in_err-settle.ensures,
    )

pub returns-clause-bytes : goal.returns-clause-bytes
returns-clause-bytes g c =
    let filled = c.in_ok-arrival.ensures.bytes in (
      filled.0,
      filled.1,
      staged_all g.S.State c.args.store.now c.args.upload c.args.size c.fill.new.store c.settle.new.store filled.0 (g.B.Body.size c.fill.new.content) c.in_ok-arrival.arrival (Ok c.in_ok-settle.field-0)
          c.in_ok-arrival.ensures.whole.whole filled.2 c.in_ok-settle.ensures,
    )
